-- How the columns of a header are found one after the other.
use Rattle.std.specs.Prelude.{◌≡◌, ℕ, ◌+◌, ◌<◌, true, false, Bool, List, length, Option, Some, None, slice_get, slice_index_or, Result, Ok, Err}
use Rattle.std.specs.Borrow.{Bor}
use Rattle.std.specs.Map.{lookup}
use Rattle.std.specs.Str.{bytes_eq}
use Rattle.flat_model.specs.declared.model.FlatName.{FlatName}
use Rattle.flat_model.specs.declared.place.Place.TheVariants as place
use Rattle.flat_model.specs.Tables.{AreColumns}
use Rattle.input_table.specs.declared.ends.TableCode.TheVariants.{I2, I3}
use Rattle.input_table.specs.declared.ends.TableEnd.{TableEnd}
use Rattle.input_table.specs.declared.ends.TableEnd.TheVariants.{Fault, NoMemory}
use Rattle.input_table.specs.Fields.{Record, text_in}
use Rattle.input_table.specs.Headers.{IsInputCalled, IsWrongColumn, IsMissing}

-- the input of a text, or none
abbrev pub IsFound : List FlatName → List ℕ → Option ℕ → Type 0
IsFound names text None = (x : ℕ) → IsInputCalled names text x → ⊥
IsFound names text (Some x) = IsInputCalled names text x

-- the number that a map has for a text
abbrev pub number_of : List ℕ → List (Bor (List ℕ) × ℕ) → Option ℕ
number_of text entries = lookup (λ key. bytes_eq text key.now) entries

-- a map finds the input of each text
abbrev pub FindsInputs : List FlatName → List (Bor (List ℕ) × ℕ) → Type 0
FindsInputs names entries = (text : List ℕ) → IsFound names text (number_of text entries)

-- the columns before a place, each an input, none twice
pub record AreFirst (names : List FlatName) (header : Record) (place : ℕ) (columns : List ℕ) : Type 0 where
  pub long : length columns + 1 ≡ place
  pub called : (k x : ℕ) → slice_get columns k ≡ Some x → IsInputCalled names (text_in header (k + 1)) x
  pub once : (i j x : ℕ) → slice_get columns i ≡ Some x → slice_get columns j ≡ Some x → i ≡ j

-- the names that have a column are those that are noted
pub record AreNoted (columns : List ℕ) (seen : List Bool) : Type 0 where
  pub noted : (k x : ℕ) → slice_get columns k ≡ Some x → slice_index_or seen x false ≡ true
  pub only : (x : ℕ) → slice_index_or seen x false ≡ true → (k : ℕ) × (slice_get columns k ≡ Some x)

-- a column that is wrong, and none before it
pub record IsFirstWrong (names : List FlatName) (header : Record) (column : ℕ) : Type 0 where
  pub wrong : IsWrongColumn names header column
  pub first : (before : ℕ) → before < column → IsWrongColumn names header before → ⊥

-- an input that is missing, and none before it
pub record IsFirstMissing (names : List FlatName) (header : Record) (text : List ℕ) : Type 0 where
  pub x : ℕ
  pub name : FlatName
  pub is : text ≡ name.text
  pub missing : IsMissing names header x name
  pub first : (y : ℕ) (other : FlatName) → y < x → IsMissing names header y other → ⊥

-- the columns of a header are these
pub record AreWhole (names : List FlatName) (header : Record) (columns : List ℕ) : Type 0 where
  pub long : length header ≡ length columns + 1
  pub called : (k x : ℕ) → slice_get columns k ≡ Some x → IsInputCalled names (text_in header (k + 1)) x
  pub are : AreColumns names columns

-- what the columns of a header are, or the first rule that they break
abbrev pub ColumnsAre : List FlatName → Record → Result (List ℕ) TableEnd → Type 0
ColumnsAre names header (Ok columns) = AreWhole names header columns
ColumnsAre names header (Err (Fault I3 (place.Cell row column))) = (row ≡ 0) × (at : ℕ) × (column ≡ at + 1) × IsFirstWrong names header at
ColumnsAre names header (Err (Fault I2 (place.Name text))) = ((column : ℕ) → IsWrongColumn names header column → ⊥) × IsFirstMissing names header text
ColumnsAre names header (Err (Fault code at)) = ⊥
ColumnsAre names header (Err NoMemory) = Unit {0}

-- the same of a loop over the columns, whose errors are I3 alone
abbrev pub FirstAre : List FlatName → Record → Result (List ℕ) TableEnd → Type 0
FirstAre names header (Ok columns) = AreFirst names header (length header) columns
FirstAre names header (Err (Fault I3 (place.Cell row column))) = (row ≡ 0) × (at : ℕ) × (column ≡ at + 1) × IsFirstWrong names header at
FirstAre names header (Err (Fault code at)) = ⊥
FirstAre names header (Err NoMemory) = Unit {0}

-- I2 at this name, unless memory is refused
abbrev pub IsMissingFault : List ℕ → TableEnd → Type 0
IsMissingFault text (Fault I2 (place.Name other)) = other ≡ text
IsMissingFault text (Fault code at) = ⊥
IsMissingFault text NoMemory = Unit {0}
