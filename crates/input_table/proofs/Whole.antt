-- The whole table: its answers, and that it is one of the model.
use Rattle.std.proofs.Common.{◌≡◌, ◌∙◌, ap, sym, subst, refl, ℕ, zero, suc, ◌+◌, ◌*◌, ◌<◌, ◌≤◌, ◌^◌, inl, inr, true, false, List, [], ◌∷◌, ◌++◌, length, Option, Some, None, Result, Ok, Err, IfOk, slice_get, pos, neg_ℤ, arith}
use Rattle.std.specs.Borrow.{Bor}
use Rattle.std.proofs.lemmas.Option.{slice_get_within}
use Rattle.std.proofs.lemmas.List.{length-append}
use Rattle.std.proofs.lemmas.Bool.Decides.{nat_tests}
use Rattle.input_table.specs.declared.records.Records.{Records}
use Rattle.rational_time.specs.declared.ratio.Ratio.{Ratio}
use Rattle.sync_values.specs.Arithmetic.{fitted}
use Rattle.sync_values.specs.declared.value.Value.{Value}
use Rattle.flat_model.specs.declared.model.FlatModel.{FlatModel}
use Rattle.flat_model.specs.declared.model.FlatName.{FlatName}
use Rattle.flat_model.specs.declared.model.NameKind.{NameKind}
use Rattle.flat_model.specs.declared.place.Place.TheVariants as place
use Rattle.flat_model.specs.declared.table.Table.{Table}
use Rattle.flat_model.specs.Assignment.{IsOfKind}
use Rattle.flat_model.specs.Moments.{IsRising}
use Rattle.flat_model.specs.Tables.{IsTableOf, AreColumns, StartAtZero}
use Rattle.input_table.specs.declared.ends.TableCode.TheVariants.{I1, I2, I3, I5}
use Rattle.input_table.specs.declared.ends.TableEnd.{TableEnd}
use Rattle.input_table.specs.declared.ends.TableEnd.TheVariants.{Fault, NoMemory}
use Rattle.input_table.specs.declared.header.Form.{Form}
use Rattle.input_table.specs.Fields.{Record, IsValue, natural, negative, truth, falsity}
use Rattle.input_table.specs.Headers.{BeginsAs, IsHeader}
use Rattle.input_table.specs.Rows.{Row, IsCell, written, kept, IsRow, AreRows, last_row, times_of, cells_of, cell_of_row}
use Rattle.input_table.specs.Tables.{records_of, Answers, Breaks, no_header, no_time, no_input, missing, in_row, no_row}
use Rattle.input_table.specs.private.Finding.{ColumnsAre, AreWhole}
use Rattle.input_table.specs.private.Standing.{IsStanding}
use Rattle.input_table.specs.private.Reading.{Hold, RowAnswers, BodyAnswers, WholeAnswers, IsReading, ReadsPlain}
use Rattle.input_table.specs.private.Plain.{has_quote}
use Rattle.input_table.specs.private.Quick.{RowTaken}
use Rattle.input_table.proofs.Standing.{they_begin, they_are_few, left_of, goes_behind}
use Rattle.input_table.proofs.Held.{get_behind, get_before}

-- the header

-- what is wrong with the columns is what is wrong with the table
pub columns_break : (names : List FlatName) (header : Record) (rest : List Record) (form : Form) (end : TableEnd) → BeginsAs form header → ColumnsAre names header (Err end)
    → Answers names (header ∷ rest) (Err end)
columns_break names header rest form (Fault I3 (place.Cell row column)) begins (row_is, at, column_is, wrong) =
    subst (λ r. Breaks names (header ∷ rest) I3 (place.Cell r column)) (sym row_is)
    (subst (λ c. Breaks names (header ∷ rest) I3 (place.Cell 0 c)) (sym column_is) (no_input header rest form begins at wrong.wrong wrong.first))
columns_break names header rest form (Fault I2 (place.Name text)) begins (right, first) =
    subst (λ t. Breaks names (header ∷ rest) I2 (place.Name t)) (sym first.is) (missing header rest form begins right first.x first.name first.missing first.first)
columns_break names header rest form (Fault code at) begins bad = absurd bad
columns_break names header rest form NoMemory begins answers = tt

pub header_is : (form : Form) (names : List FlatName) (header : Record) (columns : List ℕ) → BeginsAs form header → AreWhole names header columns → IsHeader form names header columns
header_is form names header columns begins whole = record { begins = begins; long = whole.long; called = whole.called; are = whole.are }

-- the rows

-- one row more
rows_more : (form : Form) (names : List FlatName) (columns : List ℕ) (before : Option Row) (records_ : List Record) (rows : List Row) (record_ : Record) (row : Row)
    → AreRows form names columns before records_ rows → IsRow form names columns (last_row before rows) record_ row
    → AreRows form names columns before (records_ ++ record_ ∷ []) (rows ++ row ∷ [])
rows_more form names columns before [] [] record_ row are is = (is, tt)
rows_more form names columns before [] (r ∷ rows) record_ row are is = absurd are
rows_more form names columns before (r ∷ records_) [] record_ row are is = absurd are
rows_more form names columns before (r ∷ records_) (w ∷ rows) record_ row (first, are) is = (first, rows_more form names columns (Some w) records_ rows record_ row are is)

rows_count : (form : Form) (names : List FlatName) (columns : List ℕ) (before : Option Row) (records_ : List Record) (rows : List Row) → AreRows form names columns before records_ rows
    → length records_ ≡ length rows
rows_count form names columns before [] [] are = refl
rows_count form names columns before [] (r ∷ rows) are = absurd are
rows_count form names columns before (r ∷ records_) [] are = absurd are
rows_count form names columns before (r ∷ records_) (w ∷ rows) are = ap suc (rows_count form names columns (Some w) records_ rows are.1)

-- a record was read: one more row, at the next number
pub reads_more : (form : Form) (names : List FlatName) (columns : List ℕ) (text : List ℕ) (header record_ : Record) (number : ℕ) (times times_ : List Ratio) (cells cells_ : List Value)
    (old new : Records) (done : Unit {0}) → (reading : IsReading form names columns text header number times cells old)
    → IsStanding text ((header ∷ reading.records_) ++ record_ ∷ []) new
    → RowAnswers form names columns reading.rows record_ number (Ok done) times_ cells_ → IsReading form names columns text header (number + 1) times_ cells_ new
reads_more form names columns text header record_ number times times_ cells cells_ old new done reading standing (row, is, hold) = record {
  records_ = reading.records_ ++ record_ ∷ [];
  rows = reading.rows ++ row ∷ [];
  count = omega (arith, reading.count, length-append reading.records_ (record_ ∷ []));
  standing = standing;
  are = rows_more form names columns None reading.records_ reading.rows record_ row reading.are is;
  hold = hold;
}

-- a row was read in one pass
pub reads_plain : (form : Form) (names : List FlatName) (columns : List ℕ) (times times_ : List Ratio) (cells cells_ : List Value) (old new : Records) (rest after : Bor (List ℕ))
    → old.unquoted ≡ Some rest → new.unquoted ≡ Some after → RowTaken form names columns rest.now times cells (Some after) times_ cells_
    → ReadsPlain form names columns times cells old true times_ cells_ new
reads_plain form names columns times times_ cells cells_ old new rest after is then_ taken = λ text header number reading.
    let left = left_of text (header ∷ reading.records_) old rest reading.standing is in
    let none : has_quote rest.now ≡ false = subst (λ t. has_quote t ≡ false) (sym left.1) left.2 in
    let row = taken none in
    let behind = goes_behind text (header ∷ reading.records_) row.0 old new rest after reading.standing is then_ row.1 in
    reads_more form names columns text header row.0 number times times_ cells cells_ old new tt reading behind.0 (row.2 reading.rows reading.hold)

-- nothing was read
pub reads_none : (form : Form) (names : List FlatName) (columns : List ℕ) (text : List ℕ) (header : Record) (number : ℕ) (times times_ : List Ratio) (cells cells_ : List Value) (old new : Records)
    → ReadsPlain form names columns times cells old false times_ cells_ new → IsReading form names columns text header number times cells old → IsReading form names columns text header number times_ cells_ new
reads_none form names columns text header number times times_ cells cells_ old new same reading =
    subst (λ ts. IsReading form names columns text header number ts cells_ new) (sym same.0)
    (subst (λ vs. IsReading form names columns text header number times vs new) (sym same.1) (subst (λ rs. IsReading form names columns text header number times cells rs) (sym same.2) reading))

-- a record breaks a rule
pub row_breaks : (form : Form) (names : List FlatName) (columns : List ℕ) (text : List ℕ) (header record_ : Record) (number : ℕ) (times times_ : List Ratio) (cells cells_ : List Value)
    (old new : Records) (end : TableEnd) → (reading : IsReading form names columns text header number times cells old)
    → IsStanding text ((header ∷ reading.records_) ++ record_ ∷ []) new
    → RowAnswers form names columns reading.rows record_ number (Err end) times_ cells_ → BodyAnswers form names columns (records_of text) header (Err end)
row_breaks form names columns text header record_ number times times_ cells cells_ old new (Fault code (place.Cell row column)) reading standing (row_is, breaks) =
    let begin = they_begin text ((header ∷ reading.records_) ++ record_ ∷ []) new standing in (
      reading.records_ ++ record_ ∷ begin.0,
      begin.1 ∙ ap (λ (rs : List Record). header ∷ rs) (split reading.records_ begin.0),
      inl (record {
        front = reading.records_;
        broken = record_;
        rest = begin.0;
        split = refl;
        number = row_is ∙ reading.count;
        rows = reading.rows;
        are = reading.are;
        breaks = breaks;
      }),
    )
  where
    split : (front rest : List Record) → (front ++ record_ ∷ []) ++ rest ≡ front ++ record_ ∷ rest
    split [] rest = refl
    split (r ∷ front) rest = ap (λ (rs : List Record). r ∷ rs) (split front rest)
row_breaks form names columns text header record_ number times times_ cells cells_ old new (Fault code at) reading standing bad = absurd bad
row_breaks form names columns text header record_ number times times_ cells cells_ old new NoMemory reading standing answers = tt

no_times : (rows : List Row) → times_of rows ≡ [] → rows ≡ []
no_times [] is = refl
no_times (row ∷ rows) is = cc

-- no record is left
pub all_read : (form : Form) (names : List FlatName) (columns : List ℕ) (text : List ℕ) (header : Record) (number : ℕ) (times : List Ratio) (cells : List Value) (rdr : Records)
    (r : Result Table TableEnd) → (reading : IsReading form names columns text header number times cells rdr) → records_of text ≡ header ∷ reading.records_
    → WholeAnswers times columns cells r → BodyAnswers form names columns (records_of text) header r
all_read form names columns text header number times cells rdr (Ok table) reading all (some, times_are, columns_are, cells_are) = (
  reading.records_,
  reading.rows,
  all,
  some_records reading.records_ refl,
  reading.are,
  columns_are,
  subst (λ ts. Hold (length columns) reading.rows ts table.cells) (sym times_are) (subst (λ vs. Hold (length columns) reading.rows times vs) (sym cells_are) reading.hold),
)
  where
    none : length reading.records_ ≡ 0 → ⊥
    none empty =
        let long = rows_count form names columns None reading.records_ reading.rows reading.are in
        some (reading.hold.times_are ∙ ap times_of (empty_is reading.rows (omega (arith, long, empty))))
      where
        empty_is : (rows : List Row) → length rows ≡ 0 → rows ≡ []
        empty_is [] is = refl
        empty_is (row ∷ rows) is = absurd (omega arith)

    some_records : (rs : List Record) → rs ≡ reading.records_ → 0 < length reading.records_
    some_records [] is = absurd (none (ap length (sym is)))
    some_records (r ∷ rs) is = rw (← is) (omega arith)
all_read form names columns text header number times cells rdr (Err end) reading all (empty, end_is) =
    subst (λ e. BodyAnswers form names columns (records_of text) header (Err e)) (sym end_is)
    (reading.records_, all, inr (none_left reading.records_ reading.rows reading.are (no_times reading.rows (sym reading.hold.times_are ∙ empty)), refl, refl, refl))
  where
    none_left : (records_ : List Record) (rows : List Row) → AreRows form names columns None records_ rows → rows ≡ [] → records_ ≡ []
    none_left [] rows are is = refl
    none_left (r ∷ records_) [] are is = absurd are
    none_left (r ∷ records_) (w ∷ rows) are is = cc

-- as many records as numbers are too many
pub too_many : (form : Form) (names : List FlatName) (columns : List ℕ) (text : List ℕ) (header : Record) (number : ℕ) (times : List Ratio) (cells : List Value) (rdr : Records)
    → IsReading form names columns text header number times cells rdr → length text + 2 ≤ number → ⊥
too_many form names columns text header number times cells rdr reading past =
    let few = they_are_few text (header ∷ reading.records_) rdr reading.standing in omega (arith, few, past, reading.count)

-- the answer of the rows is that of the table
pub body_answers : (form : Form) (names : List FlatName) (columns : List ℕ) (all : List Record) (header : Record) (r : Result Table TableEnd) → IsHeader form names header columns
    → BodyAnswers form names columns all header r → Answers names all r
body_answers form names columns all header (Ok table) is (records_, rows, all_is, some, are, columns_are, hold) = (
  header,
  records_,
  all_is,
  record {
    form = form;
    header_is = subst (λ cs. IsHeader form names header cs) (sym columns_are) is;
    some = some;
    rows = rows;
    are = subst (λ cs. AreRows form names cs None records_ rows) (sym columns_are) are;
    times = hold.times_are;
    cells = hold.cells_are;
  },
)
body_answers form names columns all header (Err (Fault code (place.Cell row column))) is (records_, all_is, inl breaks) =
    subst (λ rs. Breaks names rs code (place.Cell row column)) (sym all_is) (in_row header records_ form columns is code row column breaks)
body_answers form names columns all header (Err (Fault code (place.Cell row column))) is (records_, all_is, inr (none, code_is, row_is, column_is)) =
    let whole : all ≡ header ∷ [] = all_is ∙ ap (λ (rs : List Record). header ∷ rs) none in
    subst (λ rs. Breaks names rs code (place.Cell row column)) (sym whole)
    (subst (λ k. Breaks names (header ∷ []) k (place.Cell row column)) (sym code_is)
    (subst (λ r. Breaks names (header ∷ []) I5 (place.Cell r column)) (sym row_is)
    (subst (λ c. Breaks names (header ∷ []) I5 (place.Cell 1 c)) (sym column_is) (no_row header form columns is))))
body_answers form names columns all header (Err (Fault code at)) is bad = absurd bad
body_answers form names columns all header (Err NoMemory) is answers = tt

-- the table is one of the model

pos_fits : (n : ℕ) → n < 2 ^ 63 → fitted (pos n) ≡ Ok (pos n)
pos_fits n less = grind (arith, nat_tests)

neg_fits : (n : ℕ) → n ≤ 2 ^ 63 → fitted (neg_ℤ (pos n)) ≡ Ok (neg_ℤ (pos n))
neg_fits zero less = pos_fits 0 (omega arith)
neg_fits (suc n) less = let small : n < 2 ^ 63 = omega arith in grind (arith, nat_tests)

value_kind : (text : List ℕ) (type : NameKind) (v : Value) → IsValue text type v → IsOfKind type v
value_kind text type v (natural sign digits split mark some all small) = pos_fits _ small
value_kind text type v (negative digits split some all small) = neg_fits _ small
value_kind text type v (truth is) = tt
value_kind text type v (falsity is) = tt

module _ (form : Form) (names : List FlatName) (columns : List ℕ) where
  -- the cells of a row have the types of their columns
  abbrev AreTyped : Option Row → Type 0
  AreTyped before = (k x : ℕ) (name : FlatName) (v : Value) → slice_get columns k ≡ Some x → slice_get names x ≡ Some name → cell_of_row before k ≡ Some v → IsOfKind name.kind v

  cell_kind : (before : Option Value) (type : NameKind) (text : List ℕ) (v : Value) → ((w : Value) → before ≡ Some w → IsOfKind type w) → IsCell form before type text v → IsOfKind type v
  cell_kind before type text v above (written is) = value_kind text type v is
  cell_kind before type text v above (kept short empty there) = above v there

  row_typed : (before : Option Row) (record_ : Record) (row : Row) → AreTyped before → IsRow form names columns before record_ row → AreTyped (Some row)
  row_typed before record_ row above is k x name v column found there =
      let value = is.values k v there in
      let one : value.0 ≡ x = let a = value.2 in cc in
      let again : slice_get names x ≡ Some value.1 = subst (λ z. slice_get names z ≡ Some value.1) one value.3 in
      let name_is : value.1 ≡ name = cc in
      subst (λ (n : FlatName). IsOfKind n.kind v) name_is
      (cell_kind (cell_of_row before k) value.1.kind _ v (λ w here. above k value.0 value.1 w value.2 value.3 here) value.4)

  module _ (width : ℕ) (wide_ : length columns ≡ width) where
    cells_count : (before : Option Row) (records_ : List Record) (rows : List Row) → AreRows form names columns before records_ rows → length (cells_of rows) ≡ length (times_of rows) * width
    cells_count before [] [] are = omega arith
    cells_count before [] (r ∷ rows) are = absurd are
    cells_count before (r ∷ records_) [] are = absurd are
    cells_count before (r ∷ records_) (w ∷ rows) are =
        let more = cells_count (Some w) records_ rows are.1 in omega (arith, length-append w.cells (cells_of rows), are.0.wide, wide_, more)

    cells_typed : (before : Option Row) (records_ : List Record) (rows : List Row) → AreTyped before → AreRows form names columns before records_ rows
        → (row k x : ℕ) (name : FlatName) (v : Value) → slice_get columns k ≡ Some x → slice_get names x ≡ Some name → slice_get (cells_of rows) (row * width + k) ≡ Some v → IsOfKind name.kind v
    cells_typed before [] [] above are row k x name v column found there = cc
    cells_typed before [] (r ∷ rows) above are row k x name v column found there = absurd are
    cells_typed before (r ∷ records_) [] above are row k x name v column found there = absurd are
    cells_typed before (r ∷ records_) (w ∷ rows) above are zero k x name v column found there =
        let less = slice_get_within columns k x column in
        let long : k < length w.cells = omega (arith, less, are.0.wide) in
        let at : 0 * width + k ≡ k = omega arith in
        let here : slice_get w.cells k ≡ Some v = sym (get_before w.cells (cells_of rows) k long) ∙ ap (λ n. slice_get (w.cells ++ cells_of rows) n) (sym at) ∙ there in
        row_typed before r w above are.0 k x name v column found here
    cells_typed before (r ∷ records_) (w ∷ rows) above are (suc row) k x name v column found there =
        let at : suc row * width + k ≡ length w.cells + (row * width + k) = omega (arith, are.0.wide, wide_) in
        let here : slice_get (cells_of rows) (row * width + k) ≡ Some v =
        sym (get_behind w.cells (cells_of rows) (row * width + k)) ∙ ap (λ n. slice_get (w.cells ++ cells_of rows) n) (sym at) ∙ there in
        cells_typed (Some w) records_ rows (row_typed before r w above are.0) are.1 row k x name v column found here

  rising : (before : Option Row) (records_ : List Record) (rows : List Row) → AreRows form names columns before records_ rows → IsRising (times_of rows)
  rising before records_ [] are = tt
  rising before [] (w ∷ rows) are = absurd are
  rising before (r ∷ records_) (w ∷ []) are = tt
  rising before (r ∷ []) (w ∷ (u ∷ rows)) are = absurd are.1
  rising before (r ∷ (s ∷ records_)) (w ∷ (u ∷ rows)) are = (are.1.0.order, rising (Some w) (s ∷ records_) (u ∷ rows) are.1)

  starts : (records_ : List Record) (rows : List Row) → 0 < length records_ → AreRows form names columns None records_ rows → StartAtZero (times_of rows)
  starts [] rows some are = absurd (omega arith)
  starts (r ∷ records_) [] some are = absurd are
  starts (r ∷ records_) (w ∷ rows) some are = are.0.order

-- the table of the rows is one of the model
pub body_table : (form : Form) (model : FlatModel) (columns : List ℕ) (all : List Record) (header : Record) (table : Table) → AreColumns model.names columns
    → BodyAnswers form model.names columns all header (Ok table) → IsTableOf model table
body_table form model columns all header table inputs (records_, rows, all_is, some, are, columns_are, hold) =
    let names = model.names in
    record {
      times = record {
        first = subst StartAtZero (sym hold.times_are) (starts form names columns records_ rows some are);
        rising = subst IsRising (sym hold.times_are) (rising form names columns None records_ rows are);
        range = hold.range;
      };
      columns = subst (λ cs. AreColumns names cs) (sym columns_are) inputs;
      cells = record {
        count = ap length hold.cells_are ∙ cells_count form names columns (length table.columns) (ap length (sym columns_are)) None records_ rows are
            ∙ ap (λ (ts : List Ratio). length ts * length table.columns) (sym hold.times_are);
        typed = λ row k x name v column found there.
            cells_typed form names columns (length table.columns) (ap length (sym columns_are)) None records_ rows (λ k x name v column found there. cc) are row k x name v
            (subst (λ cs. slice_get cs k ≡ Some x) columns_are column) found (subst (λ vs. slice_get vs (row * length table.columns + k) ≡ Some v) hold.cells_are there);
      };
    }

-- the answers of `read_table`, one by one

pub no_records : (names : List FlatName) (all : List Record) (end : TableEnd) → all ≡ [] → end ≡ Fault I1 (place.Cell 0 1) → Answers names all (Err end)
no_records names all end none is =
    subst (λ rs. Answers names rs (Err end)) (sym none) (subst (λ e. Answers names [] (Err e)) (sym is) no_header)

pub no_form : (names : List FlatName) (all : List Record) (header other : Record) (rest : List Record) (end : TableEnd) → all ≡ header ∷ rest → other ≡ header
    → ((form : Form) → BeginsAs form other → ⊥) → end ≡ Fault I1 (place.Cell 0 1) → Answers names all (Err end)
no_form names all header other rest end all_is same none is =
    subst (λ rs. Answers names rs (Err end)) (sym all_is)
    (subst (λ e. Answers names (header ∷ rest) (Err e)) (sym is) (no_time header rest (λ form begins. none form (subst (λ h. BeginsAs form h) (sym same) begins))))

pub columns_fault : (names names_ : List FlatName) (all : List Record) (header first second : Record) (rest : List Record) (form : Form) (end : TableEnd) → all ≡ header ∷ rest → names_ ≡ names
    → first ≡ header → second ≡ header → BeginsAs form first → ColumnsAre names_ second (Err end) → Answers names all (Err end)
columns_fault names names_ all header first second rest form end all_is names_is first_is second_is begins wrong =
    subst (λ rs. Answers names rs (Err end)) (sym all_is)
    (columns_break names header rest form end (subst (λ h. BeginsAs form h) first_is begins)
    (subst (λ ns. ColumnsAre ns header (Err end)) names_is (subst (λ h. ColumnsAre names_ h (Err end)) second_is wrong)))

pub whole_moved : (names names_ : List FlatName) (header second : Record) (columns : List ℕ) → names_ ≡ names → second ≡ header → AreWhole names_ second columns → AreWhole names header columns
whole_moved names names_ header second columns names_is second_is whole =
    subst (λ ns. AreWhole ns header columns) names_is (subst (λ h. AreWhole names_ h columns) second_is whole)

pub rows_answer : (names names_ : List FlatName) (all : List Record) (header first : Record) (form : Form) (columns : List ℕ) (r : Result Table TableEnd) → names_ ≡ names → first ≡ header
    → BeginsAs form first → AreWhole names header columns → BodyAnswers form names_ columns all header r → Answers names all r
rows_answer names names_ all header first form columns r names_is first_is begins whole answers =
    body_answers form names columns all header r (header_is form names header columns (subst (λ h. BeginsAs form h) first_is begins) whole)
    (subst (λ ns. BodyAnswers form ns columns all header r) names_is answers)

pub rows_table : (model : FlatModel) (names_ : List FlatName) (all : List Record) (header : Record) (form : Form) (columns : List ℕ) (r : Result Table TableEnd) → names_ ≡ model.names
    → AreWhole model.names header columns → BodyAnswers form names_ columns all header r → IfOk r (IsTableOf model)
rows_table model names_ all header form columns (Ok table) names_is whole answers =
    body_table form model columns all header table whole.are (subst (λ ns. BodyAnswers form ns columns all header (Ok table)) names_is answers)
rows_table model names_ all header form columns (Err end) names_is whole answers = tt
