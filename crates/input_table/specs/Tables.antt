-- The table that a file stands for, or the first rule that it breaks. This project's own.
use Rattle.std.specs.Prelude.{◌≡◌, ℕ, ◌+◌, ◌<◌, List, [], ◌∷◌, ◌++◌, length, Some, None, slice_get, Result, Ok, Err, true}
use Rattle.csv.specs.Reading.{default_config, records, strip_bom}
use Rattle.rational_time.specs.declared.ratio.Ratio.{Ratio}
use Rattle.flat_model.specs.declared.model.FlatName.{FlatName}
use Rattle.flat_model.specs.declared.place.Place.{Place}
use Rattle.flat_model.specs.declared.place.Place.TheVariants as place
use Rattle.flat_model.specs.declared.table.Table.{Table}
use Rattle.flat_model.specs.Tables.{IsInput}
use Rattle.input_table.specs.declared.ends.TableCode.{TableCode}
use Rattle.input_table.specs.declared.ends.TableCode.TheVariants.{I1, I2, I3, I5}
use Rattle.input_table.specs.declared.ends.TableEnd.{TableEnd}
use Rattle.input_table.specs.declared.ends.TableEnd.TheVariants.{Fault, NoMemory}
use Rattle.input_table.specs.declared.header.Form.{Form}
use Rattle.input_table.specs.Fields.{Record}
use Rattle.input_table.specs.Headers.{BeginsAs, IsHeader, IsWrongColumn, IsMissing}
use Rattle.input_table.specs.Rows.{Row, BreaksIn, AreRows, last_row, times_of, cells_of}

-- how many bytes a table has at most
abbrev pub table_limit : ℕ
table_limit = 16777216

-- the records of the bytes: fields between commas, in double quotes or not, of any number
abbrev pub records_of : List ℕ → List Record
records_of bytes = records default_config (strip_bom bytes)

-- the table of a header and the records behind it
pub record IsTableOfRecords (names : List FlatName) (header : Record) (records_ : List Record) (table : Table) : Type 0 where
  pub form : Form
  pub header_is : IsHeader form names header table.columns
  pub some : 0 < length records_
  pub rows : List Row
  pub are : AreRows form names table.columns None records_ rows
  pub times : table.times ≡ times_of rows
  pub cells : table.cells ≡ cells_of rows

-- a record breaks a rule, and all before it stand for rows
pub record BreaksAt (form : Form) (names : List FlatName) (columns : List ℕ) (records_ : List Record) (code : TableCode) (row column : ℕ) : Type 0 where
  pub front : List Record
  pub broken : Record
  pub rest : List Record
  pub split : records_ ≡ front ++ broken ∷ rest
  pub number : row ≡ length front + 1
  pub rows : List Row
  pub are : AreRows form names columns None front rows
  pub breaks : BreaksIn form names columns (last_row None rows) broken code column

-- the first rule that the records break: first the header, by I1, I3 and I2, then each record in order
pub data Breaks (names : List FlatName) : List Record → TableCode → Place → Type 0 where
  no_header : Breaks names [] I1 (place.Cell 0 1)
  no_time : (header : Record) (records_ : List Record) → ((form : Form) → BeginsAs form header → ⊥) → Breaks names (header ∷ records_) I1 (place.Cell 0 1)
  no_input : (header : Record) (records_ : List Record) (form : Form) → BeginsAs form header → (column : ℕ) → IsWrongColumn names header column
      → ((before : ℕ) → before < column → IsWrongColumn names header before → ⊥) → Breaks names (header ∷ records_) I3 (place.Cell 0 (column + 1))
  missing : (header : Record) (records_ : List Record) (form : Form) → BeginsAs form header → ((column : ℕ) → IsWrongColumn names header column → ⊥)
      → (x : ℕ) (name : FlatName) → IsMissing names header x name → ((y : ℕ) (other : FlatName) → y < x → IsMissing names header y other → ⊥)
      → Breaks names (header ∷ records_) I2 (place.Name name.text)
  in_row : (header : Record) (records_ : List Record) (form : Form) (columns : List ℕ) → IsHeader form names header columns
      → (code : TableCode) (row column : ℕ) → BreaksAt form names columns records_ code row column → Breaks names (header ∷ records_) code (place.Cell row column)
  no_row : (header : Record) (form : Form) (columns : List ℕ) → IsHeader form names header columns → Breaks names (header ∷ []) I5 (place.Cell 1 1)

-- what `read_table` answers
abbrev pub Answers : List FlatName → List Record → Result Table TableEnd → Type 0
Answers names all (Ok table) = (header : Record) × (records_ : List Record) × (all ≡ header ∷ records_) × IsTableOfRecords names header records_ table
Answers names all (Err (Fault code at)) = Breaks names all code at
Answers names all (Err NoMemory) = Unit {0}

-- one row at 0 without columns
pub record IsOneRow (table : Table) : Type 0 where
  pub time : Ratio
  pub times : table.times ≡ time ∷ []
  pub zero_ : time.num ≡ 0
  pub columns : table.columns ≡ []
  pub cells : table.cells ≡ []

-- what `no_table` answers: one row where the model has no input, and else I2 at the first input
abbrev pub AnswersNone : List FlatName → Result Table TableEnd → Type 0
AnswersNone names (Ok table) = ((x : ℕ) → IsInput names x → ⊥) × IsOneRow table
AnswersNone names (Err (Fault I2 (place.Name text))) = (x : ℕ) × (name : FlatName) × (slice_get names x ≡ Some name) × (name.input ≡ true) × (text ≡ name.text)
    × ((y : ℕ) → y < x → IsInput names y → ⊥)
AnswersNone names (Err (Fault code at)) = ⊥
AnswersNone names (Err NoMemory) = Unit {0}
