-- The text of a trace: a header, and a line for each instant.
use Rattle.std.specs.Prelude.{ℕ, suc, Bool, true, false, List, [], ◌∷◌, ◌++◌, Option, Some, None, codes, map, if◌then◌else◌}
use Rattle.std.specs.Fmt.{signed_decimal}
use Rattle.rational_time.specs.declared.ratio.Ratio.{Ratio}
use Rattle.rational_time.specs.Fraction.{instant_text}
use Rattle.sync_values.specs.declared.value.Value.{Value}
use Rattle.sync_values.specs.declared.value.Value.TheVariants as value
use Rattle.flat_model.specs.declared.model.FlatName.{FlatName}
use Rattle.flat_model.specs.declared.model.NameKind.{NameKind}
use Rattle.flat_model.specs.declared.model.NameKind.TheVariants as kind
use Rattle.flat_model.specs.Assignment.{Assignment}

-- Integers in decimal with a minus sign where negative, Booleans in words
abbrev pub value_text : Value → List ℕ
value_text (value.Int z) = signed_decimal z
value_text (value.Bool true) = codes "true"
value_text (value.Bool false) = codes "false"

-- a name that is a column: all but Clocks
abbrev pub is_column : NameKind → Bool
is_column kind.Clock = false
is_column _ = true

-- the numbers and the texts of the columns among names, the first of which has number x
abbrev pub columns_from : ℕ → List FlatName → List ℕ
columns_from x [] = []
columns_from x (name ∷ names) = if is_column name.kind then (x ∷ columns_from (suc x) names) else columns_from (suc x) names

abbrev pub columns_of : List FlatName → List ℕ
columns_of names = columns_from 0 names

-- the rest of a line: each cell behind a comma, and a line feed
abbrev pub cells_text : List (List ℕ) → List ℕ
cells_text [] = codes "\n"
cells_text (cell ∷ cells) = codes "," ++ cell ++ cells_text cells

-- the texts of the columns
abbrev pub column_texts : List FlatName → List (List ℕ)
column_texts [] = []
column_texts (name ∷ names) = if is_column name.kind then (name.text ∷ column_texts names) else column_texts names

abbrev pub header_text : List FlatName → List ℕ
header_text names = codes "time" ++ cells_text (column_texts names)

-- a cell: the value, or nothing where the name has none
abbrev pub cell_text : Option Value → List ℕ
cell_text None = []
cell_text (Some v) = value_text v

abbrev pub row_text : Ratio → List (Option Value) → List ℕ
row_text t values = instant_text t ++ cells_text (map cell_text values)

-- the rows of instants, the first of which is moment m
abbrev pub rows_text : List ℕ → Assignment → ℕ → List Ratio → List ℕ
rows_text columns S m [] = []
rows_text columns S m (t ∷ rest) = row_text t (map (λ x. S x m) columns) ++ rows_text columns S (suc m) rest

-- the header and the rows of instants, the first of which is moment 1
abbrev pub trace_text : List FlatName → Assignment → List Ratio → List ℕ
trace_text names S instants = header_text names ++ rows_text (columns_of names) S 1 instants
