-- The header of a table: `time` or `time2`, then each input once in any order. This project's own.
use Rattle.std.specs.Prelude.{◌≡◌, ℕ, ◌+◌, ◌<◌, ◌⊎◌, true, List, length, codes, Some, slice_get}
use Rattle.flat_model.specs.declared.model.FlatName.{FlatName}
use Rattle.flat_model.specs.Tables.{AreColumns}
use Rattle.input_table.specs.declared.header.Form.{Form}
use Rattle.input_table.specs.declared.header.Form.TheVariants.{Plain, Short}
use Rattle.input_table.specs.Fields.{Record, text_in}

-- the word that begins the header of a form
abbrev pub word_of : Form → List ℕ
word_of Plain = codes "time"
word_of Short = codes "time2"

-- the header begins with the word of the form
abbrev pub BeginsAs : Form → Record → Type 0
BeginsAs form header = (0 < length header) × (text_in header 0 ≡ word_of form)

-- the name of this number is an input with this text
abbrev pub IsInputCalled : List FlatName → List ℕ → ℕ → Type 0
IsInputCalled names text x = (name : FlatName) × (slice_get names x ≡ Some name) × (name.input ≡ true) × (name.text ≡ text)

-- the columns of a header: each input has one, and each stands below its text
pub record IsHeader (form : Form) (names : List FlatName) (header : Record) (columns : List ℕ) : Type 0 where
  pub begins : BeginsAs form header
  pub long : length header ≡ length columns + 1
  pub called : (k x : ℕ) → slice_get columns k ≡ Some x → IsInputCalled names (text_in header (k + 1)) x
  pub are : AreColumns names columns

-- the field in a column, counted from 0, is no input or repeats one before it
pub record IsWrongColumn (names : List FlatName) (header : Record) (column : ℕ) : Type 0 where
  pub later : 0 < column
  pub within : column < length header
  pub wrong : ((x : ℕ) → IsInputCalled names (text_in header column) x → ⊥)
      ⊎ ((before : ℕ) × (0 < before) × (before < column) × (text_in header before ≡ text_in header column))

-- an input without a column
pub record IsMissing (names : List FlatName) (header : Record) (x : ℕ) (name : FlatName) : Type 0 where
  pub found : slice_get names x ≡ Some name
  pub input : name.input ≡ true
  pub absent : (column : ℕ) → 0 < column → column < length header → text_in header column ≡ name.text → ⊥
