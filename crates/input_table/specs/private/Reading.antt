-- How rows are read one after the other into two lists: the times, and the cells row by row.
use Rattle.std.specs.Prelude.{◌≡◌, ◌≢◌, ℕ, ◌+◌, ◌-◌, ◌<◌, ◌⊎◌, List, [], ◌∷◌, ◌++◌, length, Option, Some, None, slice_get, nat_lt, if◌then◌else◌, Result, Ok, Err, All, Bool, true, false}
use Rattle.rational_time.specs.declared.ratio.Ratio.{Ratio}
use Rattle.rational_time.specs.Fraction.{Below}
use Rattle.sync_values.specs.declared.value.Value.{Value}
use Rattle.flat_model.specs.declared.model.FlatName.{FlatName}
use Rattle.flat_model.specs.declared.place.Place.TheVariants as place
use Rattle.flat_model.specs.declared.table.Table.{Table}
use Rattle.flat_model.specs.Tables.{IsTime}
use Rattle.input_table.specs.declared.ends.TableCode.{TableCode}
use Rattle.input_table.specs.declared.ends.TableCode.TheVariants.{I4, I5, I6}
use Rattle.input_table.specs.declared.ends.TableEnd.{TableEnd}
use Rattle.input_table.specs.declared.ends.TableEnd.TheVariants.{Fault, NoMemory}
use Rattle.input_table.specs.declared.header.Form.{Form}
use Rattle.input_table.specs.Fields.{Record}
use Rattle.input_table.specs.Rows.{Row, IsInstant, IsInOrder, IsRow, BreaksIn, ValueIs, AreRows, last_row, times_of, cells_of}
use Rattle.input_table.specs.declared.records.Records.{Records}
use Rattle.input_table.specs.private.Standing.{IsStanding}
use Rattle.input_table.specs.Tables.{BreaksAt, records_of}

-- the lists hold these rows
pub record Hold (width : ℕ) (rows : List Row) (times : List Ratio) (cells : List Value) : Type 0 where
  pub times_are : times ≡ times_of rows
  pub cells_are : cells ≡ cells_of rows
  pub wide : All (λ (row : Row). length row.cells ≡ width) rows
  pub range : All IsTime times

-- the last of some times
abbrev pub last_time : List Ratio → Option Ratio
last_time times = slice_get times (length times - 1)

-- the value above the next cell: a whole row before it
abbrev pub above_next : ℕ → List Value → Option Value
above_next width cells = if nat_lt (length cells) width then None else slice_get cells (length cells - width)

-- the value above the k-th cell of the next row
abbrev pub above_in : ℕ → List Value → ℕ → Option Value
above_in width cells k = if nat_lt (length cells + k) width then None else slice_get cells (length cells + k - width)

-- the instant of a time field behind another, or the rule that it breaks
abbrev pub TimeAnswers : Form → Option Ratio → List ℕ → Result Ratio TableCode → Type 0
TimeAnswers form before text (Ok t) = IsInstant form before text t × IsInOrder before t × IsTime t
TimeAnswers form before text (Err I4) = (t : Ratio) → IsInstant form before text t → ⊥
TimeAnswers form before text (Err I5) = (before ≡ None) × (t : Ratio) × IsInstant form before text t × (t.num ≢ 0)
TimeAnswers form before text (Err I6) = (last : Ratio) × (before ≡ Some last) × (t : Ratio) × IsInstant form before text t × (Below last t → ⊥)
TimeAnswers form before text (Err code) = ⊥

-- the cells of a record behind those of the rows before it, or the first that is no value
abbrev pub CellsAnswer : Form → List FlatName → List ℕ → Record → ℕ → List Value → Result (Unit {0}) TableEnd → List Value → Type 0
CellsAnswer form names columns record_ number old (Ok done) new = (taken : List Value) × (new ≡ old ++ taken) × (length taken ≡ length columns)
    × ((k : ℕ) (v : Value) → slice_get taken k ≡ Some v → ValueIs form names columns (above_in (length columns) old k) record_ k v)
CellsAnswer form names columns record_ number old (Err (Fault I4 (place.Cell row column))) new = (row ≡ number) × (k : ℕ) × (column ≡ k + 2) × (k < length columns)
    × ((j : ℕ) → j < k → (v : Value) × ValueIs form names columns (above_in (length columns) old j) record_ j v)
    × ((v : Value) → ValueIs form names columns (above_in (length columns) old k) record_ k v → ⊥)
CellsAnswer form names columns record_ number old (Err (Fault code at)) new = ⊥
CellsAnswer form names columns record_ number old (Err NoMemory) new = Unit {0}

-- one row more, or the first rule that its record breaks
abbrev pub RowAnswers : Form → List FlatName → List ℕ → List Row → Record → ℕ → Result (Unit {0}) TableEnd → List Ratio → List Value → Type 0
RowAnswers form names columns rows record_ number (Ok done) times cells = (row : Row) × IsRow form names columns (last_row None rows) record_ row
    × Hold (length columns) (rows ++ row ∷ []) times cells
RowAnswers form names columns rows record_ number (Err (Fault code (place.Cell row column))) times cells = (row ≡ number) × BreaksIn form names columns (last_row None rows) record_ code column
RowAnswers form names columns rows record_ number (Err (Fault code at)) times cells = ⊥
RowAnswers form names columns rows record_ number (Err NoMemory) times cells = Unit {0}

-- the table of the records behind a header, or the first rule that they break
abbrev pub BodyAnswers : Form → List FlatName → List ℕ → List Record → Record → Result Table TableEnd → Type 0
BodyAnswers form names columns all header (Ok table) = (records_ : List Record) × (rows : List Row) × (all ≡ header ∷ records_) × (0 < length records_)
    × AreRows form names columns None records_ rows × (table.columns ≡ columns) × Hold (length columns) rows table.times table.cells
BodyAnswers form names columns all header (Err (Fault code (place.Cell row column))) = (records_ : List Record) × (all ≡ header ∷ records_)
    × (BreaksAt form names columns records_ code row column ⊎ ((records_ ≡ []) × (code ≡ I5) × (row ≡ 1) × (column ≡ 1)))
BodyAnswers form names columns all header (Err (Fault code at)) = ⊥
BodyAnswers form names columns all header (Err NoMemory) = Unit {0}

-- the rows that were read up to the next number, and where the reader stands
pub record IsReading (form : Form) (names : List FlatName) (columns : List ℕ) (text : List ℕ) (header : Record) (number : ℕ) (times : List Ratio) (cells : List Value) (taking : Records) : Type 0 where
  pub records_ : List Record
  pub rows : List Row
  pub count : number ≡ length records_ + 1
  pub standing : IsStanding text (header ∷ records_) taking
  pub are : AreRows form names columns None records_ rows
  pub hold : Hold (length columns) rows times cells

-- after the next row: one row more, none left, or the first rule that its record breaks
abbrev pub NextAnswers : Form → List FlatName → List ℕ → List ℕ → Record → ℕ → Result Bool TableEnd → List Ratio → List Value → Records → Type 0
NextAnswers form names columns text header number (Ok true) times cells taking = IsReading form names columns text header (number + 1) times cells taking
NextAnswers form names columns text header number (Ok false) times cells taking = (at : Records) × (reading : IsReading form names columns text header number times cells at)
    × (records_of text ≡ header ∷ reading.records_)
NextAnswers form names columns text header number (Err end) times cells taking = BodyAnswers form names columns (records_of text) header (Err end)

-- after a row that is written in the plainest way: one row more; else all is as before
abbrev pub ReadsPlain : Form → List FlatName → List ℕ → List Ratio → List Value → Records → Bool → List Ratio → List Value → Records → Type 0
ReadsPlain form names columns times cells taking true new_times new_cells new = (text : List ℕ) (header : Record) (number : ℕ)
    → IsReading form names columns text header number times cells taking → IsReading form names columns text header (number + 1) new_times new_cells new
ReadsPlain form names columns times cells taking false new_times new_cells new = (new_times ≡ times) × (new_cells ≡ cells) × (new ≡ taking)

-- the table of these lists, or I5 where there is no row
abbrev pub WholeAnswers : List Ratio → List ℕ → List Value → Result Table TableEnd → Type 0
WholeAnswers times columns cells (Ok table) = (times ≢ []) × (table.times ≡ times) × (table.columns ≡ columns) × (table.cells ≡ cells)
WholeAnswers times columns cells (Err end) = (times ≡ []) × (end ≡ Fault I5 (place.Cell 1 1))
