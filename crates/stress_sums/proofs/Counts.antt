-- How many rows are added up, and how many columns they have.
use Rattle.std.proofs.Common.{◌≡◌, ℕ, zero, suc, ◌≤◌, Bool, true, false, List, [], ◌∷◌, length, if◌then◌else◌, arith}
use Rattle.flat_model.specs.declared.model.FlatName.{FlatName}
use Rattle.flat_model.specs.Assignment.{Assignment}
use Rattle.flat_model.specs.Trace.{columns_from, is_column}
use Rattle.stress_sums.specs.Sums.{sums_to}

pub rows_are : (columns : List ℕ) (S : Assignment) (n : ℕ) → (sums_to columns S n).rows ≡ n
rows_are columns S zero = omega arith
rows_are columns S (suc k) = let so_far = rows_are columns S k in omega (arith, so_far)

one_more : (is : Bool) (x : ℕ) (rest : List ℕ) (n : ℕ) → length rest ≤ n → length (if is then (x ∷ rest) else rest) ≤ suc n
one_more true x rest n few = omega (arith, few)
one_more false x rest n few = omega (arith, few)

-- there are not more columns than names
pub columns_few : (x : ℕ) (names : List FlatName) → length (columns_from x names) ≤ length names
columns_few x [] = omega arith
columns_few x (name ∷ names) = one_more (is_column name.kind) x (columns_from (suc x) names) (length names) (columns_few (suc x) names)
