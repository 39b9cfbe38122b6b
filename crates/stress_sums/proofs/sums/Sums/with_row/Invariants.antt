use Rattle.std.proofs.Common.{◌≡◌, ◌+◌, ◌*◌, ◌^◌, ◌≤◌, take, pos, ◌+ℤ◌, neg_ℤ, ◌≤ℤ◌, fold}
use Rattle.stress_sums.specs.Sums.{filled, number}
use Rattle.stress_sums.proofs.sums.Sums.with_row.Given as goal

abbrev pub invariant-loop-cell : goal.invariant-loop-cell
invariant-loop-cell l = record {
  values : l.values ≡ fold (λ n cell. n + filled cell) l.self.values (take l.cell-index l.row);
  sum : l.sum ≡ fold (λ z cell. z +ℤ number cell) l.self.sum (take l.cell-index l.row);
  few : l.values ≤ 2 ^ 16 * l.self.rows + l.cell-index;
  low : neg_ℤ (pos (2 ^ 79 * l.self.rows + 2 ^ 63 * l.cell-index)) ≤ℤ l.sum;
  high : l.sum ≤ℤ pos (2 ^ 79 * l.self.rows + 2 ^ 63 * l.cell-index);
}
