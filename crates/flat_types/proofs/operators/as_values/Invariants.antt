use Rattle.std.proofs.Common.{◌≡◌}
use Rattle.std.specs.Vec.Iter.{into_iter_items}
use Rattle.flat_types.specs.Outcomes.{as_values}
use Rattle.flat_types.proofs.Lists.{behind}
use Rattle.flat_types.proofs.operators.as_values.Given as goal

abbrev pub invariant-loop-part : goal.invariant-loop-part
invariant-loop-part l = behind l.found (as_values l.names (into_iter_items l.part-iterator)) ≡ as_values l.names l.fn.parts
