-- How a row of plain fields is read in one pass, without its record.
use Rattle.std.specs.Prelude.{◌≡◌, ℕ, ◌⊎◌, List, [], ◌∷◌, ◌++◌, length, false, Option, Some, None, slice_get, slice_index_or}
use Rattle.std.specs.Borrow.{Bor}
use Rattle.rational_time.specs.declared.ratio.Ratio.{Ratio}
use Rattle.sync_values.specs.declared.value.Value.{Value}
use Rattle.flat_model.specs.declared.model.FlatName.{FlatName}
use Rattle.input_table.specs.declared.header.Form.{Form}
use Rattle.input_table.specs.Fields.{Record, IsValue}
use Rattle.input_table.specs.Rows.{Row, IsRow, last_row}
use Rattle.input_table.specs.private.Plain.{TakesRecord, has_quote}
use Rattle.input_table.specs.private.Front.{AllPlain}
use Rattle.input_table.specs.private.Reading.{Hold}

-- fields, each behind a comma, and what follows them
abbrev pub in_columns : Record → List ℕ → List ℕ
in_columns [] rest = rest
in_columns (field ∷ fields) rest = 44 ∷ (field ++ in_columns fields rest)

-- the values that fields write, each of the type of its column
abbrev pub AreWritten : List FlatName → List ℕ → Record → List Value → Type 0
AreWritten names columns fields values = (k : ℕ) (v : Value) → slice_get values k ≡ Some v
    → (x : ℕ) × (name : FlatName) × (slice_get columns k ≡ Some x) × (slice_get names x ≡ Some name) × IsValue (slice_index_or fields k []) name.kind v

-- the first cells of a row, their values behind the old ones, and what follows them
pub record CellsFront (names : List FlatName) (columns : List ℕ) (text : List ℕ) (old : List Value) (count : ℕ) (rest : List ℕ) (new : List Value) : Type 0 where
  pub fields : Record
  pub values : List Value
  pub joined : text ≡ in_columns fields rest
  pub plain : AllPlain fields
  pub long : length fields ≡ count
  pub wide : length values ≡ count
  pub new_is : new ≡ old ++ values
  pub written : AreWritten names columns fields values

-- an end of a line, and what follows it
abbrev pub LineEnds : List ℕ → List ℕ → Type 0
LineEnds text rest = (mark : ℕ) × ((mark ≡ 13) ⊎ (mark ≡ 10)) × (text ≡ mark ∷ rest)

-- the cells of a whole row and the end of its line, or some cells alone
abbrev pub CellsTaken : List FlatName → List ℕ → List ℕ → List Value → Option (Bor (List ℕ)) → List Value → Type 0
CellsTaken names columns text old None new = (values : List Value) × (new ≡ old ++ values)
CellsTaken names columns text old (Some rest) new = (end : List ℕ) × LineEnds end rest.now × CellsFront names columns text old (length columns) end new

-- the row of the next record, which was taken of the text, or nothing
abbrev pub RowTaken : Form → List FlatName → List ℕ → List ℕ → List Ratio → List Value → Option (Bor (List ℕ)) → List Ratio → List Value → Type 0
RowTaken form names columns text times cells None new_times new_cells = (new_times ≡ times) × (new_cells ≡ cells)
RowTaken form names columns text times cells (Some rest) new_times new_cells = has_quote text ≡ false → (record_ : Record) × TakesRecord text record_ (Some rest)
    × ((rows : List Row) → Hold (length columns) rows times cells → (row : Row) × IsRow form names columns (last_row None rows) record_ row × Hold (length columns) (rows ++ row ∷ []) new_times new_cells)
