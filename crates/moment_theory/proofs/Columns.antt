-- A table of a model has a value of its type for each input at each moment.
use Rattle.std.proofs.Common.{◌≡◌, refl, ap, ◌∙◌, sym, ℕ, zero, suc, ◌+◌, ◌*◌, ◌<◌, ◌≤◌, ◌==◌, Bool, true, false, not, if◌then◌else◌, List, [], ◌∷◌, length, get_or, Contains, Option, Some, None, slice_get, position, arith}
use Rattle.std.proofs.lemmas.List.Sums.{count_by-le-length}
use Rattle.std.proofs.lemmas.List.Quantifiers.{position-Some}
use Rattle.std.proofs.lemmas.Bool.{eqb-true, eq-eqb, lt-ltb}
use Rattle.std.proofs.lemmas.Option.{slice_get-get_or, slice_get_within, none-some}
use Rattle.std.proofs.Math.Nat.{mul-le-mul_right}
use Rattle.std.specs.List.{position_or_len, prefix_len}
use Rattle.rational_time.specs.declared.ratio.Ratio.{Ratio}
use Rattle.rational_time.specs.Fraction.{at_most}
use Rattle.sync_values.specs.declared.value.Value.{Value}
use Rattle.sync_values.specs.declared.value.Value.TheVariants as value
use Rattle.flat_model.specs.declared.clock.Moment.{Moment}
use Rattle.flat_model.specs.declared.clock.Moment.TheVariants.{Initial, At}
use Rattle.flat_model.specs.declared.model.FlatModel.{FlatModel}
use Rattle.flat_model.specs.declared.model.FlatName.{FlatName}
use Rattle.flat_model.specs.declared.table.Table.{Table}
use Rattle.flat_model.specs.Assignment.{IsOfKind}
use Rattle.flat_model.specs.Moments.{row_of, cell_of, table_value}
use Rattle.flat_model.specs.Tables.{IsTableOf, StartAtZero}

-- the first place of a number is not behind any of its places
first_place : (xs : List ℕ) (x k : ℕ) → k < length xs → get_or xs k x ≡ x → prefix_len (λ column. not (column == x)) xs ≤ k
first_place [] x k lt is = absurd (omega (arith, lt))
first_place (y ∷ xs) x zero lt is = let here : y == x ≡ true = eq-eqb y x is in rw here (omega arith)
first_place (y ∷ xs) x (suc k) lt is = by_test (y == x) (first_place xs x k (omega (arith, lt)) is)
  where
    by_test : (b : Bool) → prefix_len (λ column. not (column == x)) xs ≤ k → (if not b then 1 + prefix_len (λ column. not (column == x)) xs else 0) ≤ suc k
    by_test true h = omega arith
    by_test false h = omega (arith, h)

-- so it has a first place
pub place_of : (xs : List ℕ) (x : ℕ) → Contains xs x → (k : ℕ) × (position (λ column. column == x) xs ≡ Some k) × (slice_get xs k ≡ Some x)
place_of xs x (k, lt, is) =
    let first = position_or_len (λ column. column == x) xs in
    let within : first < length xs = let low = first_place xs x k lt is in omega (arith, low, lt) in
    let found : position (λ column. column == x) xs ≡ Some first = ap (λ b. if b then Some first else None) (lt-ltb first (length xs) within) in
    let there = position-Some (λ column. column == x) xs first x found in
    (first, found, slice_get-get_or xs first x within ∙ ap Some (eqb-true (get_or xs first x) x there.1))

row_within : (times : List Ratio) (at : Moment) → StartAtZero times → row_of times at < length times
row_within [] at start = absurd start
row_within (t ∷ times) Initial start = omega arith
row_within (t ∷ times) (At u) start = let few = count_by-le-length (λ v. at_most v u) (t ∷ times) in omega (arith, few)

cell_within : (row rows column columns : ℕ) → row < rows → column < columns → row * columns + column < rows * columns
cell_within row rows column columns one two =
    let more : (row + 1) * columns ≤ rows * columns = mul-le-mul_right columns (let h : row + 1 ≤ rows = omega (arith, one) in h) in
    let split : (row + 1) * columns ≡ row * columns + columns = omega arith in
    omega (arith, more, split, two)

-- the table's value of an input
pub input_cell : (model : FlatModel) (table : Table) → IsTableOf model table → (x : ℕ) (name : FlatName) → slice_get model.names x ≡ Some name → name.input ≡ true → (at : Moment)
    → (v : Value) × (table_value table x at ≡ Some v) × IsOfKind name.kind v
input_cell model table is x name found input at =
    let (column, position_is, column_is) = place_of table.columns x (is.columns.all x (name, found, input)) in
    let row = row_of table.times at in
    let within : row * length table.columns + column < length table.cells =
    let low = cell_within row (length table.times) column (length table.columns) (row_within table.times at is.times.first) (slice_get_within table.columns column x column_is) in
    let count = is.cells.count in omega (arith, low, count) in
    by_cell column position_is column_is (slice_get table.cells (row * length table.columns + column)) refl within
  where
    by_cell : (column : ℕ) → position (λ c. c == x) table.columns ≡ Some column → slice_get table.columns column ≡ Some x → (o : Option Value) → slice_get table.cells (row_of table.times at * length table.columns + column) ≡ o
        → row_of table.times at * length table.columns + column < length table.cells → (v : Value) × (table_value table x at ≡ Some v) × IsOfKind name.kind v
    by_cell column position_is column_is None none within = absurd (past none within)
      where
        past : slice_get table.cells (row_of table.times at * length table.columns + column) ≡ None → row_of table.times at * length table.columns + column < length table.cells → ⊥
        past e lt = none-some _ (sym e ∙ slice_get-get_or table.cells (row_of table.times at * length table.columns + column) (value.Bool false) lt)
    by_cell column position_is column_is (Some v) some within =
        (v, ap (cell_of table (row_of table.times at)) position_is ∙ some, is.cells.typed (row_of table.times at) column x name v column_is found some)
