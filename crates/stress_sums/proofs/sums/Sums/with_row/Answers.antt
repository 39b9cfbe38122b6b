use Rattle.std.proofs.Common.{arith}
use Rattle.std.proofs.lemmas.Int.{ints, to_z-of_z}
use Rattle.std.proofs.lemmas.List.Sums.{fold_more}
use Rattle.stress_sums.proofs.sums.Sums.with_row.Goals as goal

pub loop-cell-preserved : goal.loop-cell-preserved
loop-cell-preserved c = record {
  values = grind (arith, fold_more);
  sum = grind (arith, ints, to_z-of_z, fold_more);
  few = omega (arith, c.loop-cell.invariant.few, c.filled-values.ensures.one);
  low = omega (arith, ints);
  high = omega (arith, ints);
}
