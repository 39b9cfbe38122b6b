use Rattle.std.proofs.Common.{ℕ, ◌<◌}
use Rattle.flat_model.specs.Tables.{IsInput}
use Rattle.input_table.proofs.read.no_table.Given as goal

abbrev pub invariant-loop-at : goal.invariant-loop-at
invariant-loop-at l = (y : ℕ) → y < l.at → IsInput l.names y → ⊥
