-- The values of inputs are set column by column.
use Rattle.std.proofs.Common.{◌≡◌, refl, ap, sym, ◌∙◌, subst, ℕ, zero, suc, ◌+◌, ◌*◌, ◌<◌, ◌≤◌, ◌⊎◌, inl, inr, ◌==◌, true, List, [], ◌∷◌, length, get_or, set, replicate, position, Option, Some, None, slice_get, arith}
use Rattle.std.proofs.lemmas.Bool.{eqb-true, cases_lt}
use Rattle.std.proofs.lemmas.List.Quantifiers.{position-Some}
use Rattle.std.proofs.lemmas.Option.{slice_get-get_or, slice_get_within, get_or_from_slice_get}
use Rattle.std.proofs.lemmas.List.Sums.{count_by-le-length}
use Rattle.std.proofs.Math.Nat.{mul-le-mul_right}
use Rattle.rational_time.specs.declared.ratio.Ratio.{Ratio}
use Rattle.rational_time.specs.Fraction.{at_most}
use Rattle.sync_values.specs.declared.value.Value.{Value}
use Rattle.flat_model.specs.declared.clock.Moment.{Moment}
use Rattle.flat_model.specs.declared.clock.Moment.TheVariants.{Initial, At}
use Rattle.flat_model.specs.declared.model.FlatName.{FlatName}
use Rattle.flat_model.specs.declared.table.Table.{Table}
use Rattle.flat_model.specs.Values.{value_in}
use Rattle.flat_model.specs.Moments.{IsRising, moment_at, cell_of, table_value, row_of}
use Rattle.flat_model.specs.Tables.{IsInput, StartAtZero}
use Rattle.moment_theory.proofs.Columns.{place_of}
use Rattle.moment_inputs.specs.Filling.{IsTableOfNames, HoldInputs}

-- the values of the first k columns in a row, and no others
pub record AreSet (table : Table) (row k count : ℕ) (now : List (Option Value)) : Type 0 where
  pub long : length now ≡ count
  pub set : (c x : ℕ) → c < k → slice_get table.columns c ≡ Some x → value_in now x ≡ slice_get table.cells (row * length table.columns + c)
  pub others : (x : ℕ) → ((c : ℕ) → c < k → slice_get table.columns c ≡ Some x → ⊥) → value_in now x ≡ None

value_none : (count x : ℕ) → value_in (replicate count None) x ≡ None
value_none zero x = refl
value_none (suc count) zero = refl
value_none (suc count) (suc x) = value_none count x

long_none : (count : ℕ) → length (replicate {A = Option Value} count None) ≡ count
long_none zero = refl
long_none (suc count) = ap suc (long_none count)

long_set : (now : List (Option Value)) (x : ℕ) (v : Option Value) → length (set now x v) ≡ length now
long_set [] x v = refl
long_set (w ∷ now) zero v = refl
long_set (w ∷ now) (suc x) v = ap suc (long_set now x v)

value_same : (now : List (Option Value)) (x : ℕ) (v : Option Value) → x < length now → value_in (set now x v) x ≡ v
value_same [] x v lt = absurd (omega (arith, lt))
value_same (w ∷ now) zero v lt = refl
value_same (w ∷ now) (suc x) v lt = value_same now x v (omega (arith, lt))

value_other : (now : List (Option Value)) (x y : ℕ) (v : Option Value) → (y ≡ x → ⊥) → value_in (set now x v) y ≡ value_in now y
value_other [] x y v apart = refl
value_other (w ∷ now) zero zero v apart = absurd (apart refl)
value_other (w ∷ now) zero (suc y) v apart = refl
value_other (w ∷ now) (suc x) zero v apart = refl
value_other (w ∷ now) (suc x) (suc y) v apart = value_other now x y v (λ e. apart (ap suc e))

pub none_set : (table : Table) (row count : ℕ) → AreSet table row 0 count (replicate count None)
none_set table row count = record {
  long = long_none count;
  set = λ c x lt is. absurd (omega (arith, lt));
  others = λ x none. value_none count x;
}

-- a column is a name of the model
pub column_within : (count : ℕ) (table : Table) (c x : ℕ) → IsTableOfNames count table → slice_get table.columns c ≡ Some x → x < count
column_within count table c x (model, is, long) found =
    let lt : c < length table.columns = slice_get_within table.columns c x found in
    let (name, there, input) = subst (IsInput model.names) (get_or_from_slice_get table.columns c x 0 found) (is.columns.inputs c 0 lt) in
    let within : x < length model.names = slice_get_within model.names x name there in
    omega (arith, within, long)

-- two columns are of two names
columns_apart : (count : ℕ) (table : Table) (c k x y : ℕ) → IsTableOfNames count table → c < k → slice_get table.columns c ≡ Some x → slice_get table.columns k ≡ Some y → x ≡ y → ⊥
columns_apart count table c k x y (model, is, long) lt one two same =
    is.columns.once c k 0 lt (slice_get_within table.columns k y two) (get_or_from_slice_get table.columns c x 0 one ∙ same ∙ sym (get_or_from_slice_get table.columns k y 0 two))

pub set_next : (table : Table) (row k count : ℕ) (old new : List (Option Value)) (x : ℕ) → IsTableOfNames count table → AreSet table row k count old → slice_get table.columns k ≡ Some x
    → new ≡ set old x (slice_get table.cells (row * length table.columns + k)) → AreSet table row (k + 1) count new
set_next table row k count old new x is before found new_is = subst (AreSet table row (k + 1) count) (sym new_is) now_set
  where
    cell : Option Value
    cell = slice_get table.cells (row * length table.columns + k)

    within : x < length old
    within = let lt = column_within count table k x is found in let long = before.long in omega (arith, lt, long)

    by_place : (c y : ℕ) → (c < k) ⊎ (k ≤ c) → c < k + 1 → slice_get table.columns c ≡ Some y → value_in (set old x cell) y ≡ slice_get table.cells (row * length table.columns + c)
    by_place c y (inl lt) less there = value_other old x y cell (columns_apart count table c k y x is lt there found) ∙ before.set c y lt there
    by_place c y (inr high) less there =
        let e : c ≡ k = omega (arith, high, less) in
        let same : y ≡ x = let moved = subst (λ j. slice_get table.columns j ≡ Some y) e there in cc in
        ap (value_in (set old x cell)) same ∙ value_same old x cell within ∙ ap (λ j. slice_get table.cells (row * length table.columns + j)) (sym e)

    now_set : AreSet table row (k + 1) count (set old x cell)
    now_set = record {
      long = long_set old x cell ∙ before.long;
      set = λ c y lt there. by_place c y (cases_lt c k) lt there;
      others = λ y none. value_other old x y cell (λ e. none k (omega arith) (found ∙ ap Some (sym e))) ∙ before.others y (λ c lt there. none c (omega (arith, lt)) there);
    }

-- where all columns were set, each name has what the table gives it in the row
pub all_set : (table : Table) (row count : ℕ) (now : List (Option Value)) → AreSet table row (length table.columns) count now
    → (x : ℕ) → value_in now x ≡ cell_of table row (position (λ column. column == x) table.columns)
all_set table row count now are x = by_place (position (λ column. column == x) table.columns) refl
  where
    by_place : (o : Option ℕ) → position (λ column. column == x) table.columns ≡ o → value_in now x ≡ cell_of table row o
    by_place None none = are.others x (λ c lt there. let (k, found, k_is) = place_of table.columns x (c, lt, get_or_from_slice_get table.columns c x x there) in cc)
    by_place (Some c) found =
        let at = position-Some (λ column. column == x) table.columns c x found in
        are.set c x at.0 (slice_get-get_or table.columns c x at.0 ∙ ap Some (eqb-true (get_or table.columns c x) x at.1))

-- what the table gives each name at a moment are the values of the inputs
pub hold_inputs : (table : Table) (at : Moment) (now : List (Option Value)) → ((x : ℕ) → value_in now x ≡ table_value table x at) → HoldInputs table at now
hold_inputs table at now values s n same is here = record { inputs = own; only = others }
  where
    own : (x : ℕ) (name : FlatName) (there : Moment) → slice_get s.model.names x ≡ Some name → name.input ≡ true → moment_at s.instants n ≡ Some there → value_in now x ≡ table_value s.table x there
    own x name there found input at_there = let one : at ≡ there = cc in values x ∙ ap (λ t. table_value t x at) (sym same) ∙ ap (table_value s.table x) one

    by_place : (x : ℕ) (v : Value) (o : Option ℕ) → position (λ column. column == x) table.columns ≡ o → cell_of table (row_of table.times at) o ≡ Some v → IsInput s.model.names x
    by_place x v None none some = absurd (cc)
    by_place x v (Some c) found some =
        let place = position-Some (λ column. column == x) table.columns c x found in
        subst (IsInput s.model.names) (eqb-true (get_or table.columns c x) x place.1) (is.columns.inputs c x place.0)

    others : (x : ℕ) (v : Value) → value_in now x ≡ Some v → (name : FlatName) × (there : Moment) × (slice_get s.model.names x ≡ Some name) × (name.input ≡ true) × (moment_at s.instants n ≡ Some there)
    others x v some = let (name, found, input) = by_place x v (position (λ column. column == x) table.columns) refl (sym (values x) ∙ some) in (name, at, found, input, here)

row_within : (times : List Ratio) (at : Moment) → StartAtZero times → row_of times at < length times
row_within [] at start = absurd start
row_within (t ∷ times) Initial start = omega arith
row_within (t ∷ times) (At u) start = let few = count_by-le-length (λ v. at_most v u) (t ∷ times) in omega (arith, few)

cell_within : (row rows column columns : ℕ) → row < rows → column < columns → row * columns + column < rows * columns
cell_within row rows column columns one two =
    let more : (row + 1) * columns ≤ rows * columns = mul-le-mul_right columns (let h : row + 1 ≤ rows = omega (arith, one) in h) in
    let split : (row + 1) * columns ≡ row * columns + columns = omega arith in
    omega (arith, more, split, two)

-- the row of a moment is one of the table
pub row_there : (count : ℕ) (table : Table) (at : Moment) → IsTableOfNames count table → row_of table.times at < length table.times
row_there count table at (model, is, long) = row_within table.times at is.times.first

-- the cell of a column in a row is one of the table
pub cell_there : (count : ℕ) (table : Table) (row column : ℕ) → IsTableOfNames count table → row < length table.times → column < length table.columns → row * length table.columns + column < length table.cells
cell_there count table row column (model, is, long) one two = let within = cell_within row (length table.times) column (length table.columns) one two in let all = is.cells.count in omega (arith, within, all)

pub times_rise : (count : ℕ) (table : Table) → IsTableOfNames count table → IsRising table.times
times_rise count table (model, is, long) = is.times.rising
