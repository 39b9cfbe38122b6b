-- The inputs of a model have one table, with a file and without one, and it is a table of the model.
use Rattle.std.proofs.Common.{◌≡◌, refl, ap, ap₂, sym, subst, ◌∙◌, ℕ, zero, suc, ◌<◌, inl, inr, true, List, [], ◌∷◌, length, All, Option, Some, None, slice_get, Ok, Err, arith}
use Rattle.rational_time.specs.declared.ratio.Ratio.{Ratio}
use Rattle.rational_time.specs.Fraction.{IsLowest}
use Rattle.rational_time.proofs.Fractions.{IsLowest-unique, IsLowest-ratio}
use Rattle.flat_model.specs.declared.model.FlatName.{FlatName}
use Rattle.flat_model.specs.declared.model.FlatModel.{FlatModel}
use Rattle.flat_model.specs.declared.place.Place.{Place}
use Rattle.flat_model.specs.declared.place.Place.TheVariants as place
use Rattle.flat_model.specs.declared.table.Table.{Table}
use Rattle.flat_model.specs.Models.{AreNames}
use Rattle.flat_model.specs.Tables.{IsTime, IsInput, IsTableOf}
use Rattle.flat_model.proofs.InstantsLeft.{one_ratio}
use Rattle.input_table.specs.declared.ends.TableCode.{TableCode}
use Rattle.input_table.specs.declared.ends.TableCode.TheVariants.{I2}
use Rattle.input_table.specs.declared.ends.TableEnd.TheVariants as table
use Rattle.input_table.specs.Fields.{Record}
use Rattle.input_table.specs.Rows.{Row, IsInstant, written, added, AreRows, times_of}
use Rattle.input_table.specs.Tables.{IsOneRow, Answers, AnswersNone, records_of}
use Rattle.input_table.proofs.NoTable.{one_row_table}
use Rattle.input_table.proofs.Once.{table_law}
use Rattle.input_table.proofs.Whole.{body_table}
use Rattle.command_answer.specs.Layers.{tabled, untabled}
use Rattle.command_answer.specs.Told.{told_table}
use Rattle.command_answer.proofs.Joined.{IsOne, IsOnce, layer_one, none_told, not_memory}

pub tabled_one : (flat : FlatModel) (bytes : List ℕ) → AreNames flat.names → IsOne (tabled flat bytes)
unfolding tabled
tabled_one flat bytes names = layer_one _ _ (λ r s p q t u. elim (table_law flat.names (records_of bytes) r s names p q) [
  | inl same ↦ same
  | inr (inl none) ↦ absurd (not_memory told_table table.NoMemory refl r t none)
  | inr (inr none) ↦ absurd (not_memory told_table table.NoMemory refl s u none)
])

-- the instants of rows are in range, and each row has a cell for each column
instant_time : (form : _) (before : Option Ratio) (text : List ℕ) (t : Ratio) → IsInstant form before text t → IsTime t
instant_time form before text t (written is) = is.within
instant_time form before text t (added short rest more is more_is sum within) = within

module _ (form : _) (names : List FlatName) (columns : List ℕ) where
  in_range : (before : Option Row) (records_ : List Record) (rows : List Row) → AreRows form names columns before records_ rows → All IsTime (times_of rows)
  in_range before records_ [] are k d less = absurd (omega arith)
  in_range before [] (row ∷ rows) are k d less = absurd are
  in_range before (r ∷ records_) (row ∷ rows) are zero d less = instant_time form _ _ row.time are.0.time
  in_range before (r ∷ records_) (row ∷ rows) are (suc k) d less = in_range (Some row) records_ rows are.1 k d (omega arith)

  all_wide : (before : Option Row) (records_ : List Record) (rows : List Row) → AreRows form names columns before records_ rows → All (λ (row : Row). length row.cells ≡ length columns) rows
  all_wide before records_ [] are k d less = absurd (omega arith)
  all_wide before [] (row ∷ rows) are k d less = absurd are
  all_wide before (r ∷ records_) (row ∷ rows) are zero d less = are.0.wide
  all_wide before (r ∷ records_) (row ∷ rows) are (suc k) d less = all_wide (Some row) records_ rows are.1 k d (omega arith)

-- the table of a file is one of the model
pub file_table : (flat : FlatModel) (all : List Record) (rows : Table) → Answers flat.names all (Ok rows) → IsTableOf flat rows
file_table flat all rows (header, records_, all_is, is) =
    body_table is.form flat rows.columns all header rows is.header_is.are (
      records_,
      is.rows,
      all_is,
      is.some,
      is.are,
      refl,
      record {
        times_are = is.times;
        cells_are = is.cells;
        wide = all_wide is.form flat.names rows.columns None records_ is.rows is.are;
        range = subst (λ (ts : List Ratio). All IsTime ts) (sym is.times) (in_range is.form flat.names rows.columns None records_ is.rows is.are);
      },
    )

-- and so is the one row
pub no_file_table : (flat : FlatModel) (rows : Table) → AnswersNone flat.names (Ok rows) → IsTableOf flat rows
no_file_table flat rows (none, is) = one_row_table flat rows is.time none is.times (omega (arith, is.zero_)) is.columns is.cells

-- an input before which there is none
abbrev IsFirstInput : List FlatName → ℕ → FlatName → Type 0
IsFirstInput names x name = (slice_get names x ≡ Some name) × (name.input ≡ true) × ((y : ℕ) → y < x → IsInput names y → ⊥)

-- the only rule that a model breaks where no file is given
record IsNeeded (names : List FlatName) (code : TableCode) (at : Place) : Type 0 where
  x : ℕ
  name : FlatName
  first : IsFirstInput names x name
  code_is : code ≡ I2
  place_is : at ≡ place.Name name.text

needed : (names : List FlatName) (code : TableCode) (at : Place) → AnswersNone names (Err (table.Fault code at)) → IsNeeded names code at
needed names I2 (place.Name text) (x, name, found, input, same, first) = record { x = x; name = name; first = (found, input, first); code_is = refl; place_is = ap place.Name same }
needed names code at is = absurd is

one_first : (names : List FlatName) (x y : ℕ) (a b : FlatName) → IsFirstInput names x a → IsFirstInput names y b → a ≡ b
one_first names x y a b (found, input, first) (found', input', first') =
    let up : x < y → ⊥ = λ less. first' x less (a, found, input) in
    let down : y < x → ⊥ = λ less. first y less (b, found', input') in
    let same : x ≡ y = omega arith in
    let both : Some a ≡ Some b = sym found ∙ ap (slice_get names) same ∙ found' in cc

-- there is one instant 0
one_zero : (t u : Ratio) → t.num ≡ 0 → u.num ≡ 0 → t ≡ u
one_zero t u a b =
    let low : IsLowest t.num t.den 0 1 = IsLowest-ratio t 0 1 (omega (arith, a)) in
    let high : IsLowest u.num u.den 0 1 = IsLowest-ratio u 0 1 (omega (arith, b)) in
    let parts = IsLowest-unique 0 1 t.num t.den u.num u.den (omega arith) low high in one_ratio t u parts.0 parts.1

one_row : (a b : Table) → IsOneRow a → IsOneRow b → a ≡ b
one_row a b p q =
    let times = p.times ∙ ap (λ t. t ∷ []) (one_zero p.time q.time p.zero_ q.zero_) ∙ sym q.times in
    ap₂ (λ ts cs. record { times = ts; columns = cs; cells = a.cells }) times (p.columns ∙ sym q.columns) ∙ ap (λ vs. record { times = b.times; columns = b.columns; cells = vs }) (p.cells ∙ sym q.cells)

none_once : (names : List FlatName) → IsOnce (AnswersNone names) told_table
none_once names (Ok a) (Ok b) p q t u = ap Ok (one_row a b p.1 q.1)
none_once names (Ok a) (Err (table.Fault code at)) p q t u = let n = needed names code at q in absurd (p.0 n.x (n.name, n.first.0, n.first.1))
none_once names (Err (table.Fault code at)) (Ok b) p q t u = let n = needed names code at p in absurd (q.0 n.x (n.name, n.first.0, n.first.1))
none_once names (Err (table.Fault code at)) (Err (table.Fault other there)) p q t u =
    let n = needed names code at p in
    let m = needed names other there q in
    let same = one_first names n.x m.x n.name m.name n.first m.first in
    ap₂ (λ c p. Err (table.Fault c p)) (n.code_is ∙ sym m.code_is) (n.place_is ∙ ap (λ (k : FlatName). place.Name k.text) same ∙ sym m.place_is)
none_once names (Err table.NoMemory) s p q t u = absurd (none_told t.0 t.1)
none_once names r (Err table.NoMemory) p q t u = absurd (none_told u.0 u.1)

pub untabled_one : (flat : FlatModel) → IsOne (untabled flat)
unfolding untabled
untabled_one flat = layer_one _ _ (none_once flat.names)
