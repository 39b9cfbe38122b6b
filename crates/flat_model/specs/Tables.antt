-- What holds of each table of inputs. This project's own.
use Rattle.std.specs.Prelude.{◌≡◌, ◌≢◌, ℕ, ◌+◌, ◌*◌, ◌^◌, ◌<◌, true, List, [], ◌∷◌, length, Some, slice_get, All, AllPairs, Contains}
use Rattle.rational_time.specs.declared.ratio.Ratio.{Ratio}
use Rattle.sync_values.specs.declared.value.Value.{Value}
use Rattle.rational_time.specs.Fraction.{second_limit}
use Rattle.flat_model.specs.declared.model.FlatModel.{FlatModel}
use Rattle.flat_model.specs.declared.model.FlatName.{FlatName}
use Rattle.flat_model.specs.declared.table.Table.{Table}
use Rattle.flat_model.specs.Assignment.{IsOfKind}
use Rattle.flat_model.specs.Moments.{IsRising}

-- a time below 2^20 seconds with a denominator below 2^32
abbrev pub IsTime : Ratio → Type 0
IsTime t = (t.num < second_limit * t.den) × (t.den < 2 ^ 32)

-- there is a first time, and it is 0
abbrev pub StartAtZero : List Ratio → Type 0
StartAtZero [] = ⊥
StartAtZero (t ∷ rest) = t.num ≡ 0

-- the times rise from 0 on
pub record AreTimes (times : List Ratio) : Type 0 where
  pub first : StartAtZero times
  pub rising : IsRising times
  pub range : All IsTime times

-- a name of the model that is an input
abbrev pub IsInput : List FlatName → ℕ → Type 0
IsInput names x = (name : FlatName) × (slice_get names x ≡ Some name) × (name.input ≡ true)

-- the columns are the inputs, each once
pub record AreColumns (names : List FlatName) (columns : List ℕ) : Type 0 where
  pub inputs : All (IsInput names) columns
  pub all : (x : ℕ) → IsInput names x → Contains columns x
  pub once : AllPairs ◌≢◌ columns

-- the cells are, row by row, one value of the column's type for each column
pub record AreCells (names : List FlatName) (table : Table) : Type 0 where
  pub count : length table.cells ≡ length table.times * length table.columns
  pub typed : (row column x : ℕ) (name : FlatName) (v : Value) → slice_get table.columns column ≡ Some x → slice_get names x ≡ Some name
      → slice_get table.cells (row * length table.columns + column) ≡ Some v → IsOfKind name.kind v

-- a table of a model
pub record IsTableOf (model : FlatModel) (table : Table) : Type 0 where
  pub times : AreTimes table.times
  pub columns : AreColumns model.names table.columns
  pub cells : AreCells model.names table
