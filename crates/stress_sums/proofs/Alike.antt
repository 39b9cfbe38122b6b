-- Assignments that are alike at the moments of the rows add up to the same.
use Rattle.std.proofs.Common.{◌≡◌, refl, ap₂, ℕ, zero, suc, ◌<◌, ◌≤◌, List, map, Option, arith}
use Rattle.std.proofs.Math.Path.{fun_ext}
use Rattle.sync_values.specs.declared.value.Value.{Value}
use Rattle.flat_model.specs.Assignment.{Assignment}
use Rattle.stress_sums.specs.Sums.{sums_to, with_row}

pub sums_same : (columns : List ℕ) (S T : Assignment) (n : ℕ) → ((x m : ℕ) → 0 < m → m ≤ n → S x m ≡ T x m) → sums_to columns S n ≡ sums_to columns T n
sums_same columns S T zero alike = refl
sums_same columns S T (suc k) alike =
    ap₂ (λ sums (row : ℕ → Option Value). with_row sums (map row columns)) (sums_same columns S T k (λ x m some le. alike x m some (omega (arith, le))))
    (fun_ext (λ x. alike x (suc k) (omega arith) (omega arith)))
