-- A file stands for one table, or breaks one first rule.
use Rattle.std.proofs.Common.{◌≡◌, ◌∙◌, ap, ap₂, sym, subst, refl, ℕ, suc, ◌+◌, ◌<◌, ◌⊎◌, inl, inr, List, [], ◌∷◌, ◌++◌, length, Option, Some, None, Result, Ok, Err, slice_get, arith}
use Rattle.std.proofs.lemmas.Option.{slice_get_within, slice_get-get_or, get_or_from_slice_get}
use Rattle.flat_model.specs.declared.model.FlatName.{FlatName}
use Rattle.flat_model.specs.declared.place.Place.{Place}
use Rattle.flat_model.specs.declared.place.Place.TheVariants as place
use Rattle.flat_model.specs.declared.table.Table.{Table}
use Rattle.flat_model.specs.Models.{AreNames}
use Rattle.input_table.specs.declared.ends.TableCode.{TableCode}
use Rattle.input_table.specs.declared.ends.TableCode.TheVariants.{I1, I2, I3, I5}
use Rattle.input_table.specs.declared.ends.TableEnd.{TableEnd}
use Rattle.input_table.specs.declared.ends.TableEnd.TheVariants.{Fault, NoMemory}
use Rattle.input_table.specs.declared.header.Form.{Form}
use Rattle.input_table.specs.declared.header.Form.TheVariants.{Plain, Short}
use Rattle.input_table.specs.Fields.{Record, text_in}
use Rattle.input_table.specs.Headers.{BeginsAs, IsHeader, IsWrongColumn, IsMissing}
use Rattle.input_table.specs.Laws.{TableLaw}
use Rattle.input_table.specs.Rows.{Row, IsRow, BreaksIn, AreRows, last_row, times_of, cells_of}
use Rattle.input_table.specs.Tables.{Answers, Breaks, BreaksAt, no_header, no_time, no_input, missing, in_row, no_row}
use Rattle.input_table.specs.private.Finding.{AreFirst, IsFirstWrong}
use Rattle.input_table.proofs.Columns.{same_input, all_right}
use Rattle.input_table.proofs.OneRow.{row_once, row_or_break, break_once, list_ext}

-- the rows

module _ (form : Form) (names : List FlatName) (columns : List ℕ) where
  rows_once : (before : Option Row) (records_ : List Record) (rows others : List Row) → AreRows form names columns before records_ rows → AreRows form names columns before records_ others → rows ≡ others
  rows_once before [] [] [] a b = refl
  rows_once before [] [] (o ∷ others) a b = absurd b
  rows_once before [] (r ∷ rows) others a b = absurd a
  rows_once before (r ∷ records_) [] others a b = absurd a
  rows_once before (r ∷ records_) (w ∷ rows) [] a b = absurd b
  rows_once before (r ∷ records_) (w ∷ rows) (o ∷ others) a b =
      let same : w ≡ o = row_once form names columns before r w o a.0 b.0 in
      ap₂ (λ x xs. x ∷ xs) same (rows_once (Some w) records_ rows others a.1 (subst (λ x. AreRows form names columns (Some x) records_ others) (sym same) b.1))

  abbrev SameBreak : List Record → List Record → TableCode → TableCode → ℕ → ℕ → Type 0
  SameBreak front other_front code other column place = (length front ≡ length other_front) × (code ≡ other) × (column ≡ place)

  breaks_once : (before : Option Row) (front other_front : List Record) (rows others : List Row) (b c : Record) (rest other_rest : List Record) (code other : TableCode) (column place_ : ℕ)
      → AreRows form names columns before front rows → AreRows form names columns before other_front others → front ++ b ∷ rest ≡ other_front ++ c ∷ other_rest
      → BreaksIn form names columns (last_row before rows) b code column → BreaksIn form names columns (last_row before others) c other place_ → SameBreak front other_front code other column place_
  breaks_once before [] [] [] [] b c rest other_rest code other column place_ are are_ split x y =
      let same : c ≡ b = cc in
      let one = break_once form names columns before b code other column place_ x (subst (λ r. BreaksIn form names columns before r other place_) same y) in (refl, one.0, one.1)
  breaks_once before [] (s ∷ other_front) [] (o ∷ others) b c rest other_rest code other column place_ are are_ split x y =
      let same : s ≡ b = cc in
      absurd (row_or_break form names columns before b o code column (subst (λ r. IsRow form names columns before r o) same are_.0) x)
  breaks_once before (s ∷ front) [] (w ∷ rows) [] b c rest other_rest code other column place_ are are_ split x y =
      let same : s ≡ c = cc in
      absurd (row_or_break form names columns before c w other place_ (subst (λ r. IsRow form names columns before r w) same are.0) y)
  breaks_once before (s ∷ front) (t ∷ other_front) (w ∷ rows) (o ∷ others) b c rest other_rest code other column place_ are are_ split x y =
      let head : t ≡ s = cc in
      let tail : front ++ b ∷ rest ≡ other_front ++ c ∷ other_rest = cc in
      let same : o ≡ w = row_once form names columns before s o w (subst (λ r. IsRow form names columns before r o) head are_.0) are.0 in
      let more = breaks_once (Some w) front other_front rows others b c rest other_rest code other column place_ are.1
      (subst (λ r. AreRows form names columns (Some r) other_front others) same are_.1) tail x
      (subst (λ r. BreaksIn form names columns (last_row (Some r) others) c other place_) same y) in
      (ap suc more.0, more.1, more.2)
  breaks_once before [] [] [] (o ∷ others) b c rest other_rest code other column place_ are are_ split x y = absurd are_
  breaks_once before [] [] (w ∷ rows) others b c rest other_rest code other column place_ are are_ split x y = absurd are
  breaks_once before [] (s ∷ other_front) [] [] b c rest other_rest code other column place_ are are_ split x y = absurd are_
  breaks_once before [] (s ∷ other_front) (w ∷ rows) others b c rest other_rest code other column place_ are are_ split x y = absurd are
  breaks_once before (s ∷ front) [] [] others b c rest other_rest code other column place_ are are_ split x y = absurd are
  breaks_once before (s ∷ front) [] (w ∷ rows) (o ∷ others) b c rest other_rest code other column place_ are are_ split x y = absurd are_
  breaks_once before (s ∷ front) (t ∷ other_front) [] others b c rest other_rest code other column place_ are are_ split x y = absurd are
  breaks_once before (s ∷ front) (t ∷ other_front) (w ∷ rows) [] b c rest other_rest code other column place_ are are_ split x y = absurd are_

  -- records that all stand for rows break no rule
  rows_or_break : (before : Option Row) (all front : List Record) (rows others : List Row) (b : Record) (rest : List Record) (code : TableCode) (column : ℕ)
      → AreRows form names columns before all rows → all ≡ front ++ b ∷ rest → AreRows form names columns before front others → BreaksIn form names columns (last_row before others) b code column → ⊥
  rows_or_break before [] [] rows others b rest code column are split are_ x = cc
  rows_or_break before [] (f ∷ front) rows others b rest code column are split are_ x = cc
  rows_or_break before (r ∷ all) front [] others b rest code column are split are_ x = absurd are
  rows_or_break before (r ∷ all) [] (w ∷ rows) [] b rest code column are split are_ x =
      let same : r ≡ b = cc in row_or_break form names columns before b w code column (subst (λ z. IsRow form names columns before z w) same are.0) x
  rows_or_break before (r ∷ all) [] (w ∷ rows) (o ∷ others) b rest code column are split are_ x = absurd are_
  rows_or_break before (r ∷ all) (f ∷ front) (w ∷ rows) [] b rest code column are split are_ x = absurd are_
  rows_or_break before (r ∷ all) (f ∷ front) (w ∷ rows) (o ∷ others) b rest code column are split are_ x =
      let head : f ≡ r = cc in
      let tail : all ≡ front ++ b ∷ rest = cc in
      let same : o ≡ w = row_once form names columns before r o w (subst (λ z. IsRow form names columns before z o) head are_.0) are.0 in
      rows_or_break (Some w) all front rows others b rest code column are.1 tail
      (subst (λ z. AreRows form names columns (Some z) front others) same are_.1) (subst (λ z. BreaksIn form names columns (last_row (Some z) others) b code column) same x)

  no_break : (front : List Record) (b : Record) (rest : List Record) → [] ≡ front ++ b ∷ rest → ⊥
  no_break [] b rest is = cc
  no_break (f ∷ front) b rest is = cc

-- the header

first_of_header : (form : Form) (names : List FlatName) (header : Record) (columns : List ℕ) → IsHeader form names header columns → AreFirst names header (length header) columns
first_of_header form names header columns is = record { long = sym is.long; called = is.called; once = once }
  where
    not_before : (i j x : ℕ) → slice_get columns i ≡ Some x → slice_get columns j ≡ Some x → i < j → ⊥
    not_before i j x a b less =
        is.are.once i j 0 less (slice_get_within columns j x b) (get_or_from_slice_get columns i x 0 a ∙ sym (get_or_from_slice_get columns j x 0 b))

    once : (i j x : ℕ) → slice_get columns i ≡ Some x → slice_get columns j ≡ Some x → i ≡ j
    once i j x a b =
        let up : i < j → ⊥ = not_before i j x a b in
        let down : j < i → ⊥ = not_before j i x b a in
        omega arith

header_right : (form : Form) (names : List FlatName) (header : Record) (columns : List ℕ) → AreNames names → IsHeader form names header columns → (c : ℕ) → IsWrongColumn names header c → ⊥
header_right form names header columns are is c wrong = all_right names are header columns (first_of_header form names header columns is) c wrong

header_whole : (form : Form) (names : List FlatName) (header : Record) (columns : List ℕ) (x : ℕ) (name : FlatName) → IsHeader form names header columns → IsMissing names header x name → ⊥
header_whole form names header columns x name is lacks =
    let k = is.are.all x (name, lacks.found, lacks.input) in
    let there : slice_get columns k.0 ≡ Some x = slice_get-get_or columns k.0 x k.1 ∙ ap (λ (n : ℕ). Some n) k.2 in
    let called = is.called k.0 x there in
    let one : called.0 ≡ name = let a = called.1 in let b = lacks.found in cc in
    lacks.absent (k.0 + 1) (omega arith) (omega (arith, is.long, k.1)) (sym called.3 ∙ ap (λ (n : FlatName). n.text) one)

form_once : (form other : Form) (header : Record) → BeginsAs form header → BeginsAs other header → form ≡ other
form_once Plain Plain header a b = refl
form_once Short Short header a b = refl
form_once Plain Short header a b = let bad = ap length (sym a.1 ∙ b.1) in absurd (omega (arith, bad))
form_once Short Plain header a b = let bad = ap length (sym a.1 ∙ b.1) in absurd (omega (arith, bad))

columns_once : (form other : Form) (names : List FlatName) (header : Record) (columns others : List ℕ) → AreNames names → IsHeader form names header columns → IsHeader other names header others → columns ≡ others
columns_once form other names header columns others are a b =
    let long : length columns ≡ length others = omega (arith, a.long, b.long) in
    list_ext columns others long (λ k x y p q. same_input names are (text_in header (k + 1)) x y (a.called k x p) (b.called k y q))

-- what an answer says, by its cases

data RowsVerdict (form : Form) (names : List FlatName) (columns : List ℕ) (records_ : List Record) (r : Result Table TableEnd) : Type 0 where
  broken : (code : TableCode) (row column : ℕ) → BreaksAt form names columns records_ code row column → r ≡ Err (Fault code (place.Cell row column)) → RowsVerdict form names columns records_ r
  empty : records_ ≡ [] → r ≡ Err (Fault I5 (place.Cell 1 1)) → RowsVerdict form names columns records_ r
  whole : (rows : List Row) → 0 < length records_ → AreRows form names columns None records_ rows → (table : Table) → table.times ≡ times_of rows → table.columns ≡ columns → table.cells ≡ cells_of rows
      → r ≡ Ok table → RowsVerdict form names columns records_ r

data Verdict (names : List FlatName) (all : List Record) (r : Result Table TableEnd) : Type 0 where
  nothing : all ≡ [] → r ≡ Err (Fault I1 (place.Cell 0 1)) → Verdict names all r
  formless : (header : Record) (rest : List Record) → all ≡ header ∷ rest → ((form : Form) → BeginsAs form header → ⊥) → r ≡ Err (Fault I1 (place.Cell 0 1)) → Verdict names all r
  wrong : (header : Record) (rest : List Record) → all ≡ header ∷ rest → (form : Form) → BeginsAs form header → (column : ℕ) → IsFirstWrong names header column
      → r ≡ Err (Fault I3 (place.Cell 0 (column + 1))) → Verdict names all r
  lacking : (header : Record) (rest : List Record) → all ≡ header ∷ rest → (form : Form) → BeginsAs form header → ((c : ℕ) → IsWrongColumn names header c → ⊥)
      → (x : ℕ) (name : FlatName) → IsMissing names header x name → ((y : ℕ) (other : FlatName) → y < x → IsMissing names header y other → ⊥)
      → r ≡ Err (Fault I2 (place.Name name.text)) → Verdict names all r
  read : (header : Record) (rest : List Record) → all ≡ header ∷ rest → (form : Form) (columns : List ℕ) → IsHeader form names header columns → RowsVerdict form names columns rest r → Verdict names all r

of_breaks : (names : List FlatName) (all : List Record) (code : TableCode) (at : Place) → Breaks names all code at → Verdict names all (Err (Fault code at))
of_breaks names all code at no_header = nothing refl refl
of_breaks names all code at (no_time header rest none) = formless header rest refl none refl
of_breaks names all code at (no_input header rest form begins column is first) = wrong header rest refl form begins column (record { wrong = is; first = first }) refl
of_breaks names all code at (missing header rest form begins right x name is first) = lacking header rest refl form begins right x name is first refl
of_breaks names all code at (in_row header rest form columns is code_ row column breaks) = read header rest refl form columns is (broken code_ row column breaks refl)
of_breaks names all code at (no_row header form columns is) = read header [] refl form columns is (empty refl refl)

verdict_of : (names : List FlatName) (all : List Record) (r : Result Table TableEnd) → Answers names all r → (r ≡ Err NoMemory) ⊎ Verdict names all r
verdict_of names all (Ok table) (header, rest, all_is, is) = inr (read header rest all_is is.form table.columns is.header_is (whole is.rows is.some is.are table is.times refl is.cells refl))
verdict_of names all (Err (Fault code at)) is = inr (of_breaks names all code at is)
verdict_of names all (Err NoMemory) is = inl refl

-- tables of the same parts are one
table_is : (a b : Table) → a.times ≡ b.times → a.columns ≡ b.columns → a.cells ≡ b.cells → a ≡ b
table_is a b times columns cells = λ i. record { times = times i; columns = columns i; cells = cells i }

module _ (names : List FlatName) (are : AreNames names) where
  rows_verdict_once : (form : Form) (columns : List ℕ) (records_ : List Record) (a b : Result Table TableEnd) → RowsVerdict form names columns records_ a → RowsVerdict form names columns records_ b → a ≡ b
  rows_verdict_once form columns records_ a b (broken code row column x is) (broken other place_row place_column y is_) =
      let one = breaks_once form names columns None x.front y.front x.rows y.rows x.broken y.broken x.rest y.rest code other column place_column x.are y.are (sym x.split ∙ y.split) x.breaks y.breaks in
      let rows : row ≡ place_row = omega (arith, x.number, y.number, one.0) in
      is ∙ ap₂ (λ (k : TableCode) (p : Place). Err (Fault k p)) one.1 (ap₂ (λ (m n : ℕ). place.Cell m n) rows one.2) ∙ sym is_
  rows_verdict_once form columns records_ a b (broken code row column x is) (empty none is_) = absurd (no_break form names columns x.front x.broken x.rest (sym none ∙ x.split))
  rows_verdict_once form columns records_ a b (broken code row column x is) (whole rows some all table times columns_are cells is_) =
      absurd (rows_or_break form names columns None records_ x.front rows x.rows x.broken x.rest code column all x.split x.are x.breaks)
  rows_verdict_once form columns records_ a b (empty none is) (broken code row column x is_) = absurd (no_break form names columns x.front x.broken x.rest (sym none ∙ x.split))
  rows_verdict_once form columns records_ a b (empty none is) (empty none_ is_) = is ∙ sym is_
  rows_verdict_once form columns records_ a b (empty none is) (whole rows some all table times columns_are cells is_) = absurd (omega (arith, some, ap length none))
  rows_verdict_once form columns records_ a b (whole rows some all table times columns_are cells is) (broken code row column x is_) =
      absurd (rows_or_break form names columns None records_ x.front rows x.rows x.broken x.rest code column all x.split x.are x.breaks)
  rows_verdict_once form columns records_ a b (whole rows some all table times columns_are cells is) (empty none is_) = absurd (omega (arith, some, ap length none))
  rows_verdict_once form columns records_ a b (whole rows some all table times columns_are cells is) (whole rows_ some_ all_ table_ times_ columns_are_ cells_ is_) =
      let same : rows ≡ rows_ = rows_once form names columns None records_ rows rows_ all all_ in
      is ∙ ap (λ (t : Table). Ok t) (table_is table table_ (times ∙ ap times_of same ∙ sym times_) (columns_are ∙ sym columns_are_) (cells ∙ ap cells_of same ∙ sym cells_)) ∙ sym is_

  same_column : (header : Record) (column other : ℕ) → IsFirstWrong names header column → IsFirstWrong names header other → column ≡ other
  same_column header column other x y =
      let up : column < other → ⊥ = λ less. y.first column less x.wrong in
      let down : other < column → ⊥ = λ less. x.first other less y.wrong in
      omega arith

  -- the same verdicts of one header
  module _ (header : Record) (rest : List Record) where
    rows_of : (form other : Form) (columns others : List ℕ) (a b : Result Table TableEnd) → IsHeader form names header columns → IsHeader other names header others
        → RowsVerdict form names columns rest a → RowsVerdict other names others rest b → a ≡ b
    rows_of form other columns others a b x y p q =
        let one : other ≡ form = form_once other form header y.begins x.begins in
        let same : others ≡ columns = columns_once other form names header others columns are y x in
        rows_verdict_once form columns rest a b p (subst (λ cs. RowsVerdict form names cs rest b) same (subst (λ f. RowsVerdict f names others rest b) one q))

    same_missing : (x y : ℕ) (name other : FlatName) → IsMissing names header x name → IsMissing names header y other → ((z : ℕ) (n : FlatName) → z < x → IsMissing names header z n → ⊥)
        → ((z : ℕ) (n : FlatName) → z < y → IsMissing names header z n → ⊥) → name.text ≡ other.text
    same_missing x y name other p q first first_ =
        let up : x < y → ⊥ = λ less. first_ x name less p in
        let down : y < x → ⊥ = λ less. first y other less q in
        let same : x ≡ y = omega arith in
        let there : slice_get names y ≡ Some name = subst (λ z. slice_get names z ≡ Some name) same p.found in
        let one : name ≡ other = let b = q.found in cc in
        ap (λ (n : FlatName). n.text) one

  verdict_once : (all : List Record) (a b : Result Table TableEnd) → Verdict names all a → Verdict names all b → a ≡ b
  verdict_once all a b (nothing none is) (nothing none_ is_) = is ∙ sym is_
  verdict_once all a b (nothing none is) (formless header rest all_is x is_) = is ∙ sym is_
  verdict_once all a b (formless header rest all_is x is) (nothing none is_) = is ∙ sym is_
  verdict_once all a b (formless header rest all_is x is) (formless header_ rest_ all_is_ x_ is_) = is ∙ sym is_
  verdict_once all a b (nothing none is) (wrong header rest all_is form begins column x is_) = cc
  verdict_once all a b (nothing none is) (lacking header rest all_is form begins right x name m first is_) = cc
  verdict_once all a b (nothing none is) (read header rest all_is form columns x y) = cc
  verdict_once all a b (wrong header rest all_is form begins column x is) (nothing none is_) = cc
  verdict_once all a b (lacking header rest all_is form begins right x name m first is) (nothing none is_) = cc
  verdict_once all a b (read header rest all_is form columns x y) (nothing none is_) = cc
  verdict_once all a b (formless header rest all_is x is) (wrong header_ rest_ all_is_ form begins column y is_) = let same : header_ ≡ header = cc in absurd (x form (subst (λ h. BeginsAs form h) same begins))
  verdict_once all a b (formless header rest all_is x is) (lacking header_ rest_ all_is_ form begins right y name m first is_) = let same : header_ ≡ header = cc in absurd (x form (subst (λ h. BeginsAs form h) same begins))
  verdict_once all a b (formless header rest all_is x is) (read header_ rest_ all_is_ form columns y z) = let same : header_ ≡ header = cc in absurd (x form (subst (λ h. BeginsAs form h) same y.begins))
  verdict_once all a b (wrong header_ rest_ all_is_ form begins column y is_) (formless header rest all_is x is) = let same : header_ ≡ header = cc in absurd (x form (subst (λ h. BeginsAs form h) same begins))
  verdict_once all a b (lacking header_ rest_ all_is_ form begins right y name m first is_) (formless header rest all_is x is) = let same : header_ ≡ header = cc in absurd (x form (subst (λ h. BeginsAs form h) same begins))
  verdict_once all a b (read header_ rest_ all_is_ form columns y z) (formless header rest all_is x is) = let same : header_ ≡ header = cc in absurd (x form (subst (λ h. BeginsAs form h) same y.begins))
  verdict_once all a b (wrong header rest all_is form begins column x is) (wrong header_ rest_ all_is_ form_ begins_ column_ x_ is_) =
      let same : header_ ≡ header = cc in
      is ∙ ap (λ (n : ℕ). Err (Fault I3 (place.Cell 0 (n + 1)))) (same_column header column column_ x (subst (λ h. IsFirstWrong names h column_) same x_)) ∙ sym is_
  verdict_once all a b (wrong header rest all_is form begins column x is) (lacking header_ rest_ all_is_ form_ begins_ right y name m first is_) =
      let same : header ≡ header_ = cc in absurd (right column (subst (λ h. IsWrongColumn names h column) same x.wrong))
  verdict_once all a b (lacking header_ rest_ all_is_ form_ begins_ right y name m first is_) (wrong header rest all_is form begins column x is) =
      let same : header ≡ header_ = cc in absurd (right column (subst (λ h. IsWrongColumn names h column) same x.wrong))
  verdict_once all a b (wrong header rest all_is form begins column x is) (read header_ rest_ all_is_ form_ columns y z) =
      let same : header ≡ header_ = cc in absurd (header_right form_ names header_ columns are y column (subst (λ h. IsWrongColumn names h column) same x.wrong))
  verdict_once all a b (read header_ rest_ all_is_ form_ columns y z) (wrong header rest all_is form begins column x is) =
      let same : header ≡ header_ = cc in absurd (header_right form_ names header_ columns are y column (subst (λ h. IsWrongColumn names h column) same x.wrong))
  verdict_once all a b (lacking header rest all_is form begins right x name m first is) (lacking header_ rest_ all_is_ form_ begins_ right_ x_ name_ m_ first_ is_) =
      let same : header_ ≡ header = cc in
      is ∙ ap (λ (t : List ℕ). Err (Fault I2 (place.Name t))) (same_missing header rest x x_ name name_ m (subst (λ h. IsMissing names h x_ name_) same m_) first
      (subst (λ h. (y : ℕ) (other : FlatName) → y < x_ → IsMissing names h y other → ⊥) same first_)) ∙ sym is_
  verdict_once all a b (lacking header rest all_is form begins right x name m first is) (read header_ rest_ all_is_ form_ columns y z) =
      let same : header ≡ header_ = cc in absurd (header_whole form_ names header_ columns x name y (subst (λ h. IsMissing names h x name) same m))
  verdict_once all a b (read header_ rest_ all_is_ form_ columns y z) (lacking header rest all_is form begins right x name m first is) =
      let same : header ≡ header_ = cc in absurd (header_whole form_ names header_ columns x name y (subst (λ h. IsMissing names h x name) same m))
  verdict_once all a b (read header rest all_is form columns x y) (read header_ rest_ all_is_ form_ columns_ x_ y_) =
      let same : header_ ≡ header = cc in
      let tail : rest_ ≡ rest = cc in
      rows_of header rest form form_ columns columns_ a b x (subst (λ h. IsHeader form_ names h columns_) same x_) y (subst (λ rs. RowsVerdict form_ names columns_ rs b) tail y_)

pub table_law : TableLaw
table_law names all a b are x y = elim (verdict_of names all a x) [
  | inl none ↦ inr (inl none)
  | inr p ↦ elim (verdict_of names all b y) [
    | inl none ↦ inr (inr none)
    | inr q ↦ inl (verdict_once names are all a b p q)
  ]
]
