-- What the rows of a run add up to, and its lines. This project's own.
use Rattle.std.specs.Prelude.{ℕ, zero, suc, ◌+◌, ◌*◌, ◌^◌, ◌≤◌, ℤ, pos, neg_ℤ, ◌+ℤ◌, ◌≤ℤ◌, List, ◌++◌, Option, Some, None, codes, decimal, map, fold}
use Rattle.std.specs.Fmt.{signed_decimal}
use Rattle.sync_values.specs.declared.value.Value.{Value}
use Rattle.sync_values.specs.declared.value.Value.TheVariants as value
use Rattle.flat_model.specs.declared.model.FlatName.{FlatName}
use Rattle.flat_model.specs.Assignment.{Assignment}
use Rattle.flat_model.specs.Trace.{columns_of}
use Rattle.stress_sums.specs.declared.sums.Sums.{Sums}

-- a cell that has a value counts
abbrev pub filled : Option Value → ℕ
filled None = 0
filled (Some v) = 1

-- the Integer of a cell; a Boolean and an empty cell add nothing
abbrev pub number : Option Value → ℤ
number (Some (value.Int z)) = z
number (Some (value.Bool b)) = pos 0
number None = pos 0

-- before the first row
abbrev pub no_sums : Sums
no_sums = record { rows = 0; values = 0; sum = pos 0 }

-- one row more
abbrev pub with_row : Sums → List (Option Value) → Sums
with_row sums row = record { rows = sums.rows + 1; values = fold (λ n cell. n + filled cell) sums.values row; sum = fold (λ z cell. z +ℤ number cell) sums.sum row }

-- the sums of the first rows of a trace; row k, from 1, has the values at moment k
abbrev pub sums_to : List ℕ → Assignment → ℕ → Sums
sums_to columns S zero = no_sums
sums_to columns S (suc k) = with_row (sums_to columns S k) (map (λ x. S x (suc k)) columns)

abbrev pub counted_line : List ℕ → ℕ → List ℕ
counted_line word n = word ++ decimal n ++ codes "\n"

-- the four lines of the stress model of so many members
unfoldable pub sums_text : ℕ → Sums → List ℕ
sums_text members sums = counted_line (codes "stress ") members ++ counted_line (codes "rows ") sums.rows ++ counted_line (codes "values ") sums.values ++ (codes "sum " ++ signed_decimal sums.sum ++ codes "\n")

-- those of so many rows of an assignment
abbrev pub stress_lines : ℕ → List FlatName → Assignment → ℕ → List ℕ
stress_lines members names S rows = sums_text members (sums_to (columns_of names) S rows)

-- sums of rows of at most 65,536 values of 64 bits
pub record AreBounded (sums : Sums) : Type 0 where
  pub values : sums.values ≤ 2 ^ 16 * sums.rows
  pub low : neg_ℤ (pos (2 ^ 79 * sums.rows)) ≤ℤ sums.sum
  pub high : sums.sum ≤ℤ pos (2 ^ 79 * sums.rows)
