-- The cells of a record and the rules that it breaks.
use Rattle.std.proofs.Common.{◌≡◌, ◌∙◌, ap, sym, subst, refl, ℕ, ◌+◌, ◌-◌, ◌<◌, inl, inr, false, List, [], ◌∷◌, ◌++◌, length, Option, Some, None, Ok, Err, IfSome, slice_get, get_or, All, arith}
use Rattle.std.proofs.lemmas.Option.{slice_get_within, slice_get-get_or, get_or_from_slice_get}
use Rattle.std.specs.Cmp.{nat_cmp_is}
use Rattle.std.specs.Ordering.{nat_cmp}
use Rattle.std.specs.declared.cmp.Ordering.{Ordering}
use Rattle.std.specs.declared.cmp.Ordering.TheVariants.{Less}
use Rattle.rational_time.specs.declared.ratio.Ratio.{Ratio}
use Rattle.rational_time.specs.Fraction.{Below}
use Rattle.sync_values.specs.declared.value.Value.{Value}
use Rattle.sync_values.specs.declared.value.Value.TheVariants as value
use Rattle.flat_model.specs.declared.model.FlatName.{FlatName}
use Rattle.flat_model.specs.declared.place.Place.TheVariants as place
use Rattle.flat_model.specs.Tables.{IsTime}
use Rattle.input_table.specs.declared.ends.TableCode.{TableCode}
use Rattle.input_table.specs.declared.ends.TableCode.TheVariants.{I1, I2, I3, I4, I5, I6, I7}
use Rattle.input_table.specs.declared.ends.TableEnd.{TableEnd}
use Rattle.input_table.specs.declared.ends.TableEnd.TheVariants.{Fault, NoMemory}
use Rattle.input_table.specs.declared.header.Form.{Form}
use Rattle.input_table.specs.Fields.{Record, text_in}
use Rattle.input_table.specs.Rows.{Row, IsInstant, IsInOrder, IsCell, ValueIs, BreaksIn, time, start, rising, value, last_row, time_of_row, cell_of_row}
use Rattle.input_table.specs.private.Reading.{Hold, above_in, last_time, TimeAnswers, CellsAnswer, RowAnswers}
use Rattle.input_table.proofs.Columns.{in_push}
use Rattle.input_table.proofs.Held.{above_row, last_time_is, hold_more}

-- the last time of a table is in its range
pub last_in_range : (times : List Ratio) (r : Option Ratio) → r ≡ last_time times → All IsTime times → IfSome r IsTime
last_in_range times None is all = tt
last_in_range times (Some t) is all =
    let found : slice_get times (length times - 1) ≡ Some t = sym is in
    let less = slice_get_within times (length times - 1) t found in
    subst IsTime (get_or_from_slice_get times (length times - 1) t t found) (all (length times - 1) t less)

module _ (form : Form) (names : List FlatName) (columns : List ℕ) (record_ : Record) where
  -- a field that is no value
  pub no_value : (k x : ℕ) (name : FlatName) (above above_ : Option Value) (text : List ℕ) → slice_get columns k ≡ Some x → slice_get names x ≡ Some name
      → above ≡ above_ → text ≡ text_in record_ (k + 1) → ((v : Value) → IsCell form above name.kind text v → ⊥) → (v : Value) → ValueIs form names columns above_ record_ k v → ⊥
  no_value k x name above above_ text column found same text_is none v (y, other, column_, found_, cell) =
      let one : y ≡ x = cc in
      let there : slice_get names x ≡ Some other = subst (λ z. slice_get names z ≡ Some other) one found_ in
      let name_is : other ≡ name = cc in
      none v (subst (λ t. IsCell form above name.kind t v) (sym text_is) (subst (λ a. IsCell form a name.kind (text_in record_ (k + 1)) v) (sym same)
      (subst (λ (n : FlatName). IsCell form above_ n.kind (text_in record_ (k + 1)) v) name_is cell)))

  pub is_value : (k x : ℕ) (name : FlatName) (above above_ : Option Value) (text : List ℕ) (v : Value) → slice_get columns k ≡ Some x → slice_get names x ≡ Some name
      → above ≡ above_ → text ≡ text_in record_ (k + 1) → IsCell form above name.kind text v → ValueIs form names columns above_ record_ k v
  is_value k x name above above_ text v column found same text_is cell =
      (x, name, column, found, subst (λ t. IsCell form above_ name.kind t v) text_is (subst (λ a. IsCell form a name.kind text v) same cell))

  abbrev AreTaken : List Value → List Value → Type 0
  AreTaken old taken = (k : ℕ) (v : Value) → slice_get taken k ≡ Some v → ValueIs form names columns (above_in (length columns) old k) record_ k v

  -- one cell more
  pub taken_more : (old taken : List Value) (v : Value) → AreTaken old taken → ValueIs form names columns (above_in (length columns) old (length taken)) record_ (length taken) v
      → AreTaken old (taken ++ v ∷ [])
  taken_more old taken v were is k w there = elim (in_push taken v w k there) [
    | inl before ↦ were k w before.1
    | inr last ↦ subst (λ n. ValueIs form names columns (above_in (length columns) old n) record_ n w) (sym last.0)
        (subst (λ u. ValueIs form names columns (above_in (length columns) old (length taken)) record_ (length taken) u) (sym last.1) is)
  ]

  -- the cells before one have values
  pub taken_before : (old taken : List Value) (k : ℕ) → AreTaken old taken → length taken ≡ k → (j : ℕ) → j < k
      → (v : Value) × ValueIs form names columns (above_in (length columns) old j) record_ j v
  taken_before old taken k were long j less =
      (get_or taken j (value.Bool false), were j (get_or taken j (value.Bool false)) (slice_get-get_or taken j (value.Bool false) (omega (arith, long))))

  -- I4 at a cell
  pub cell_fault : (number k : ℕ) (old new taken : List Value) (end : TableEnd) → end ≡ Fault I4 (place.Cell number (k + 2)) → k < length columns → AreTaken old taken → length taken ≡ k
      → ((v : Value) → ValueIs form names columns (above_in (length columns) old k) record_ k v → ⊥) → CellsAnswer form names columns record_ number old (Err end) new
  cell_fault number k old new taken end is less were long none =
      subst (λ e. CellsAnswer form names columns record_ number old (Err e) new) (sym is) (refl, k, refl, less, taken_before old taken k were long, none)

  -- a broken rule of a row at its place
  pub row_fault : (rows : List Row) (number column : ℕ) (code : TableCode) (end : TableEnd) (times : List Ratio) (cells : List Value) → end ≡ Fault code (place.Cell number column)
      → BreaksIn form names columns (last_row None rows) record_ code column → RowAnswers form names columns rows record_ number (Err end) times cells
  row_fault rows number column code end times cells is breaks =
      subst (λ e. RowAnswers form names columns rows record_ number (Err e) times cells) (sym is) (refl, breaks)

  no_row : (before : Option Row) → time_of_row before ≡ None → before ≡ None
  no_row None is = refl
  no_row (Some row) is = cc

  some_row : (before : Option Row) (last : Ratio) → time_of_row before ≡ Some last → (row : Row) × (before ≡ Some row) × (row.time ≡ last)
  some_row None last is = cc
  some_row (Some row) last is = (row, refl, cc)

  -- the rule that a time breaks
  pub time_breaks : (before : Option Row) (last : Option Ratio) (text : List ℕ) (code : TableCode) → last ≡ time_of_row before → text ≡ text_in record_ 0 → length record_ ≡ length columns + 1
      → TimeAnswers form last text (Err code) → BreaksIn form names columns before record_ code 1
  time_breaks before last text I4 same text_is full none =
      time full (λ t is. none t (subst (λ x. IsInstant form last x t) (sym text_is) (subst (λ l. IsInstant form l (text_in record_ 0) t) (sym same) is)))
  time_breaks before last text I5 same text_is full (nothing, t, is, off) =
      start full (no_row before (sym same ∙ nothing)) t (subst (λ l. IsInstant form l (text_in record_ 0) t) same (subst (λ x. IsInstant form last x t) text_is is)) off
  time_breaks before last text I6 same text_is full (l, there, t, is, off) =
      let row = some_row before l (sym same ∙ there) in
      rising full row.0 row.1 t (subst (λ l. IsInstant form l (text_in record_ 0) t) same (subst (λ x. IsInstant form last x t) text_is is))
      (λ below. off (subst (λ r. Below r t) row.2 below))
  time_breaks before last text I1 same text_is full bad = absurd bad
  time_breaks before last text I2 same text_is full bad = absurd bad
  time_breaks before last text I3 same text_is full bad = absurd bad
  time_breaks before last text I7 same text_is full bad = absurd bad

  -- the value above a cell, in the row before
  above_is_row : (rows : List Row) (times : List Ratio) (old : List Value) (k : ℕ) → Hold (length columns) rows times old → k < length columns
      → above_in (length columns) old k ≡ cell_of_row (last_row None rows) k
  above_is_row rows times old k hold less = ap (λ (vs : List Value). above_in (length columns) vs k) hold.cells_are ∙ above_row (length columns) rows k hold.wide less

  value_moved : (rows : List Row) (times : List Ratio) (old : List Value) (k : ℕ) (v : Value) → Hold (length columns) rows times old → k < length columns
      → ValueIs form names columns (above_in (length columns) old k) record_ k v → ValueIs form names columns (cell_of_row (last_row None rows) k) record_ k v
  value_moved rows times old k v hold less is = subst (λ a. ValueIs form names columns a record_ k v) (above_is_row rows times old k hold less) is

  -- the instant that was read, in terms of the rows
  time_moved : (rows : List Row) (times : List Ratio) (old : List Value) (last : Option Ratio) (text : List ℕ) (t : Ratio) → Hold (length columns) rows times old → last ≡ last_time times
      → text ≡ text_in record_ 0 → IsInstant form last text t × IsInOrder last t
      → IsInstant form (time_of_row (last_row None rows)) (text_in record_ 0) t × IsInOrder (time_of_row (last_row None rows)) t
  time_moved rows times old last text t hold last_is text_is is =
      let same : last ≡ time_of_row (last_row None rows) = last_is ∙ ap (λ (ts : List Ratio). last_time ts) hold.times_are ∙ last_time_is rows in
      (subst (λ l. IsInstant form l (text_in record_ 0) t) same (subst (λ x. IsInstant form last x t) text_is is.0), subst (λ l. IsInOrder l t) same is.1)

  pub time_fault : (rows : List Row) (times : List Ratio) (old : List Value) (last : Option Ratio) (text : List ℕ) (code : TableCode) (number : ℕ) (end : TableEnd) (times_ : List Ratio) (cells : List Value)
      → Hold (length columns) rows times old → last ≡ last_time times → text ≡ text_in record_ 0 → length record_ ≡ length columns + 1 → TimeAnswers form last text (Err code)
      → end ≡ Fault code (place.Cell number 1) → RowAnswers form names columns rows record_ number (Err end) times_ cells
  time_fault rows times old last text code number end times_ cells hold last_is text_is full answers is =
      let same : last ≡ time_of_row (last_row None rows) = last_is ∙ ap (λ (ts : List Ratio). last_time ts) hold.times_are ∙ last_time_is rows in
      row_fault rows number 1 code end times_ cells is (time_breaks (last_row None rows) last text code same text_is full answers)

  -- the fault of a cell is that of the row
  pub cells_break : (rows : List Row) (times : List Ratio) (old new : List Value) (last : Option Ratio) (text : List ℕ) (t : Ratio) (number : ℕ) (end : TableEnd) (times_ : List Ratio)
      → Hold (length columns) rows times old → last ≡ last_time times → text ≡ text_in record_ 0 → length record_ ≡ length columns + 1
      → IsInstant form last text t × IsInOrder last t × IsTime t → CellsAnswer form names columns record_ number old (Err end) new
      → RowAnswers form names columns rows record_ number (Err end) times_ new
  cells_break rows times old new last text t number (Fault I4 (place.Cell row column)) times_ hold last_is text_is full is (row_is, k, column_is, less, before, none) =
      let moved = time_moved rows times old last text t hold last_is text_is (is.0, is.1) in (
        row_is,
        subst (λ c. BreaksIn form names columns (last_row None rows) record_ I4 c) (sym column_is)
            (value full t moved.0 moved.1 k less
            (λ j small. let v = before j small in (v.0, value_moved rows times old j v.0 hold (omega (arith, small, less)) v.1))
            (λ v there. none v (subst (λ a. ValueIs form names columns a record_ k v) (sym (above_is_row rows times old k hold less)) there))),
      )
  cells_break rows times old new last text t number (Fault code at) times_ hold last_is text_is full is bad = absurd bad
  cells_break rows times old new last text t number NoMemory times_ hold last_is text_is full is answers = tt

  -- the row that was read
  pub row_read : (rows : List Row) (times times_ : List Ratio) (old new : List Value) (last : Option Ratio) (text : List ℕ) (t : Ratio) (number : ℕ) (done : Unit {0})
      → Hold (length columns) rows times old → last ≡ last_time times → text ≡ text_in record_ 0 → length record_ ≡ length columns + 1
      → IsInstant form last text t × IsInOrder last t × IsTime t → CellsAnswer form names columns record_ number old (Ok done) new → times_ ≡ times ++ t ∷ []
      → RowAnswers form names columns rows record_ number (Ok done) times_ new
  row_read rows times times_ old new last text t number done hold last_is text_is full is (taken, new_is, long, were) times_is =
      let moved = time_moved rows times old last text t hold last_is text_is (is.0, is.1) in
      let held = hold_more (length columns) rows times old taken t hold long is.2 in (
        record { time = t; cells = taken },
        record {
          full = full;
          time = moved.0;
          order = moved.1;
          wide = long;
          values = λ k v there. let less = slice_get_within taken k v there in value_moved rows times old k v hold (omega (arith, less, long)) (were k v there);
        },
        subst (λ ts. Hold (length columns) (rows ++ (record { time = t; cells = taken }) ∷ []) ts new) (sym times_is)
            (subst (λ vs. Hold (length columns) (rows ++ (record { time = t; cells = taken }) ∷ []) (times ++ t ∷ []) vs) (sym new_is) held),
      )

-- numbers of which the first is not less
pub not_below : (m n : ℕ) (r : Ordering) → r ≡ nat_cmp m n → (r ≡ Less → ⊥) → m < n → ⊥
not_below m n r is not_less less = not_less (is ∙ sym (nat_cmp_is m n Less less))
