-- The rows that the records behind a header stand for, each behind the row before it. This project's own.
use Rattle.std.specs.Prelude.{◌≡◌, ◌≢◌, ℕ, ◌+◌, ◌*◌, ◌<◌, List, [], ◌∷◌, ◌++◌, length, min, codes, Option, Some, None, slice_get}
use Rattle.rational_time.specs.declared.ratio.Ratio.{Ratio}
use Rattle.rational_time.specs.Fraction.{Below, IsFraction}
use Rattle.sync_values.specs.declared.value.Value.{Value}
use Rattle.flat_model.specs.declared.model.NameKind.{NameKind}
use Rattle.flat_model.specs.declared.model.FlatName.{FlatName}
use Rattle.flat_model.specs.Tables.{IsTime}
use Rattle.input_table.specs.declared.ends.TableCode.{TableCode}
use Rattle.input_table.specs.declared.ends.TableCode.TheVariants.{I4, I5, I6, I7}
use Rattle.input_table.specs.declared.header.Form.{Form}
use Rattle.input_table.specs.declared.header.Form.TheVariants.{Short}
use Rattle.input_table.specs.Fields.{Record, text_in, IsTimeText, IsValue}

-- an instant, and one value for each column of an input
pub record Row : Type 0 where
  pub time : Ratio
  pub cells : List Value

-- the fraction that a time behind a `+` is added to: the instant of the row before, or 0 in the first row
abbrev pub base_num : Option Ratio → ℕ
base_num None = 0
base_num (Some t) = t.num

abbrev pub base_den : Option Ratio → ℕ
base_den None = 1
base_den (Some t) = t.den

-- t is the sum of a time and the instant of the row before
abbrev pub IsSum : Option Ratio → Ratio → Ratio → Type 0
IsSum before more t = IsFraction t (base_num before * more.den + more.num * base_den before) (base_den before * more.den)

-- the instant that a time field stands for behind a row: the one that it writes or, in the short form, such a sum
pub data IsInstant (form : Form) (before : Option Ratio) (text : List ℕ) (t : Ratio) : Type 0 where
  written : IsTimeText text t → IsInstant form before text t
  added : form ≡ Short → (rest : List ℕ) (more : Ratio) → text ≡ codes "+" ++ rest → IsTimeText rest more → IsSum before more t → IsTime t
      → IsInstant form before text t

-- the value that a field stands for below another: the one that it writes or, in the short form where it is empty, that one
pub data IsCell (form : Form) (before : Option Value) (type : NameKind) (text : List ℕ) (v : Value) : Type 0 where
  written : IsValue text type v → IsCell form before type text v
  kept : form ≡ Short → text ≡ [] → before ≡ Some v → IsCell form before type text v

abbrev pub time_of_row : Option Row → Option Ratio
time_of_row None = None
time_of_row (Some row) = Some row.time

abbrev pub cell_of_row : Option Row → ℕ → Option Value
cell_of_row None k = None
cell_of_row (Some row) k = slice_get row.cells k

-- the first instant is 0, and each later one is above the one before
abbrev pub IsInOrder : Option Ratio → Ratio → Type 0
IsInOrder None t = t.num ≡ 0
IsInOrder (Some last) t = Below last t

-- the value that a record stands for in the k-th column of an input, below another
abbrev pub ValueIs : Form → List FlatName → List ℕ → Option Value → Record → ℕ → Value → Type 0
ValueIs form names columns above record_ k v = (x : ℕ) × (name : FlatName) × (slice_get columns k ≡ Some x) × (slice_get names x ≡ Some name)
    × IsCell form above name.kind (text_in record_ (k + 1)) v

module _ (form : Form) (names : List FlatName) (columns : List ℕ) (before : Option Row) (record_ : Record) where
  -- a record of the length of the header
  abbrev pub IsFull : Type 0
  IsFull = length record_ ≡ length columns + 1

  -- the instant that a record stands for
  abbrev pub TimeIs : Ratio → Type 0
  TimeIs t = IsInstant form (time_of_row before) (text_in record_ 0) t

  -- the row that a record stands for
  pub record IsRow (row : Row) : Type 0 where
    pub full : IsFull
    pub time : TimeIs row.time
    pub order : IsInOrder (time_of_row before) row.time
    pub wide : length row.cells ≡ length columns
    pub values : (k : ℕ) (v : Value) → slice_get row.cells k ≡ Some v → ValueIs form names columns (cell_of_row before k) record_ k v

  -- the first rule that a record breaks, and in which column, counted from 1
  pub data BreaksIn : TableCode → ℕ → Type 0 where
    length_ : length record_ ≢ length columns + 1 → BreaksIn I7 (min (length record_) (length columns + 1) + 1)
    time : IsFull → ((t : Ratio) → TimeIs t → ⊥) → BreaksIn I4 1
    start : IsFull → before ≡ None → (t : Ratio) → TimeIs t → t.num ≢ 0 → BreaksIn I5 1
    rising : IsFull → (last : Row) → before ≡ Some last → (t : Ratio) → TimeIs t → (Below last.time t → ⊥) → BreaksIn I6 1
    value : IsFull → (t : Ratio) → TimeIs t → IsInOrder (time_of_row before) t → (k : ℕ) → k < length columns
        → ((j : ℕ) → j < k → (v : Value) × ValueIs form names columns (cell_of_row before j) record_ j v)
        → ((v : Value) → ValueIs form names columns (cell_of_row before k) record_ k v → ⊥) → BreaksIn I4 (k + 2)

-- the last of the rows behind a row
abbrev pub last_row : Option Row → List Row → Option Row
last_row before [] = before
last_row before (row ∷ rows) = last_row (Some row) rows

-- the records stand for the rows, each behind the one before it
abbrev pub AreRows : Form → List FlatName → List ℕ → Option Row → List Record → List Row → Type 0
AreRows form names columns before [] [] = Unit {0}
AreRows form names columns before [] (row ∷ rows) = ⊥
AreRows form names columns before (record_ ∷ records) [] = ⊥
AreRows form names columns before (record_ ∷ records) (row ∷ rows) = IsRow form names columns before record_ row × AreRows form names columns (Some row) records rows

-- the instants of the rows, and their cells row by row
abbrev pub times_of : List Row → List Ratio
times_of [] = []
times_of (row ∷ rows) = row.time ∷ times_of rows

abbrev pub cells_of : List Row → List Value
cells_of [] = []
cells_of (row ∷ rows) = row.cells ++ cells_of rows
