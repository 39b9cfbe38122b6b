use Rattle.std.proofs.Common.{◌≡◌, ℕ, ◌<◌, Some, length, slice_get}
use Rattle.flat_model.specs.declared.equation.Equation.{Equation}
use Rattle.flat_model.specs.Setting.{flattened}
use Rattle.eq_order.specs.private.Reaching.{list_at}
use Rattle.eq_order.specs.private.Tables.{IsRow}
use Rattle.eq_order.proofs.reads.reads.Given as goal

abbrev pub invariant-loop-i : goal.invariant-loop-i
invariant-loop-i l = record {
  long : length l.reads.items ≡ l.i;
  rows : (j : ℕ) (equation : Equation) → j < l.i → slice_get l.flat.equations j ≡ Some equation
      → IsRow l.clocking l.known (flattened (slice_get l.clocking.of_equation j)) equation (list_at l.reads.items j);
}
