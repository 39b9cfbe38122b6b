use Rattle.std.proofs.Common.{◌≡◌, drop}
use Rattle.flat_types.specs.Outcomes.{first_broken}
use Rattle.flat_types.proofs.operators.first_broken.Given as goal

abbrev pub invariant-loop-part : goal.invariant-loop-part
invariant-loop-part l = first_broken (drop l.part-index l.parts) ≡ first_broken l.parts
