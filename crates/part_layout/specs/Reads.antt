-- What the equations of a base partition read, and so what cells they need. This project's own.
use Rattle.std.specs.Prelude.{◌≡◌, ℕ, ◌≤◌, ◌^◌, List, [], ◌∷◌, ◌++◌, length, map, flat_map, Result, Ok, Err}
use Rattle.sync_values.specs.Relation.{rank}
use Rattle.flat_model.specs.declared.expression.Expr.{Expr}
use Rattle.flat_model.specs.declared.clock.ClockExpr.TheOpen.{Expr-F}
use Rattle.flat_model.specs.declared.clock.ClockExpr.TheFolds.{fold-Expr}
use Rattle.cell_keys.specs.declared.key.CellKey.{CellKey}
use Rattle.cell_keys.specs.declared.key.CellKey.TheVariants as key
use Rattle.cell_keys.specs.declared.keys.NoCell.{NoCell}
use Rattle.cell_keys.specs.declared.keys.NoCell.TheVariants.{Memory, Large}
use Rattle.cell_keys.specs.Cells.{with_keys}
use Rattle.cell_keys.specs.declared.sight.Sight.{Sight}
use Rattle.cell_keys.specs.declared.sight.Sight.TheVariants.{Now, Left, Far}
use Rattle.part_layout.specs.declared.lines.PartLine.{PartLine}

-- the keys that an expression of a class reads, seen from a moment
abbrev pub Reading : Type 0
Reading = ℕ → Sight → List CellKey

-- one moment further back, as an argument of `sample` is seen
abbrev pub before : Sight → Sight
before Now = Left
before Left = Far
before Far = Far

abbrev pub value_keys : Sight → ℕ → List CellKey
value_keys Now x = key.Value x ∷ []
value_keys Left x = key.Left x ∷ []
value_keys Far x = []

-- the value at the tick before is taken from where the last value stands
abbrev pub previous_keys : Sight → ℕ → List CellKey
previous_keys Now x = key.Value x ∷ (key.Previous x ∷ [])
previous_keys _ x = []

abbrev pub last_keys : Sight → ℕ → List CellKey
last_keys Now x = key.Value x ∷ []
last_keys Left x = key.LeftLast x ∷ []
last_keys Far x = []

abbrev pub first_keys : Sight → ℕ → List CellKey
first_keys Now class = key.First class ∷ []
first_keys _ class = []

abbrev pub interval_keys : Sight → ℕ → ℕ → List CellKey
interval_keys Now class times = key.Interval class times ∷ (key.Unfit class times ∷ [])
interval_keys _ class times = []

abbrev pub keys_of_all : List Reading → Reading
keys_of_all parts class sight = flat_map (λ part. part class sight) parts

abbrev pub keys_of_level : Expr-F (Unit {0}) Reading → Reading
keys_of_level (Expr-F.Const v) class sight = key.Constant (rank v) ∷ []
keys_of_level (Expr-F.Read x) class sight = value_keys sight x
keys_of_level (Expr-F.Chain parts ops) class sight = keys_of_all parts class sight
keys_of_level (Expr-F.Relation rel left right) class sight = left class sight ++ right class sight
keys_of_level (Expr-F.Neg part) class sight = part class sight
keys_of_level (Expr-F.Not part) class sight = part class sight
keys_of_level (Expr-F.If conditions branches other) class sight = keys_of_all conditions class sight ++ (keys_of_all branches class sight ++ other class sight)
keys_of_level (Expr-F.Apply function parts) class sight = keys_of_all parts class sight
keys_of_level (Expr-F.Previous x) class sight = previous_keys sight x
keys_of_level (Expr-F.FirstTick x) class sight = first_keys sight class
keys_of_level (Expr-F.IntervalTimes x k) class sight = interval_keys sight class k
keys_of_level (Expr-F.Hold x) class sight = last_keys sight x
keys_of_level (Expr-F.«Expr::Convert» conversion x) class sight = last_keys sight x
keys_of_level (Expr-F.Sample part clock) class sight = part class (before sight)

unfoldable pub keys_read : Expr → Reading
keys_read = fold-Expr (Unit {0}) Reading (λ _. tt) keys_of_level

-- the keys that several expressions read
abbrev pub all_keys_read : List Expr → Reading
all_keys_read parts class sight = keys_of_all (map keys_read parts) class sight

-- the keys of an equation: its name's, and what its side reads
abbrev pub keys_of_line : PartLine → List CellKey
keys_of_line line = key.Value line.name ∷ keys_read line.side.now line.class Now

abbrev pub keys_of_lines : List PartLine → List CellKey
keys_of_lines lines = flat_map keys_of_line lines

-- the layout that has these keys and no others, or they are too many
abbrev pub Lays : List CellKey → Result (List CellKey) NoCell → Type 0
Lays asked (Ok keys) = keys ≡ with_keys [] asked
Lays asked (Err Memory) = Unit {0}
Lays asked (Err Large) = 2 ^ 32 ≤ length (with_keys [] asked)
