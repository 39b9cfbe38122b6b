use Rattle.std.proofs.Common.{◌≡◌, ◌++◌, map, Ok}
use Rattle.std.specs.Vec.Iter.{into_iter_items}
use Rattle.flat_types.proofs.model.all_clocks.Given as goal

abbrev pub invariant-loop-clock : goal.invariant-loop-clock
invariant-loop-clock l = l.fn.clocks ≡ map (λ clock. Ok clock) l.found ++ into_iter_items l.clock-iterator
