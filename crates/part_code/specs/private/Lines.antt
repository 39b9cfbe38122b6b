-- The lines of entries, as they are found and given cells.
use Rattle.std.specs.Prelude.{◌≡◌, ℕ, List, length, Some, slice_get}
use Rattle.flat_model.specs.declared.equation.Equation.{Equation}
use Rattle.flat_model.specs.declared.expression.Expr.{Expr}
use Rattle.flat_model.specs.declared.model.FlatName.{FlatName}
use Rattle.flat_model.specs.Typing.{types_in}
use Rattle.cell_keys.specs.declared.key.CellKey.{CellKey}
use Rattle.cell_keys.specs.declared.key.CellKey.TheVariants.{Value}
use Rattle.cell_keys.specs.Cells.{cell_of}
use Rattle.step_lines.specs.declared.stretch.Line.{Line}
use Rattle.part_layout.specs.declared.lines.PartLine.{PartLine}
use Rattle.part_layout.specs.Keyed.{is_boolean}
use Rattle.tree_step.specs.declared.taking.Entry.{Entry}
use Rattle.part_code.specs.declared.coded.Landing.{Landing}
use Rattle.part_code.specs.declared.sides.NameSide.{NameSide}
use Rattle.part_code.specs.declared.sides.NameSide.TheVariants.{Lent, Made}
use Rattle.part_code.specs.Coded.{IsSideOf}

-- the expression of a side
abbrev pub expr_of : NameSide → Expr
expr_of (Lent side) = side.now
expr_of (Made side) = side

-- the first entries have their sides
pub record AreSidesTo (equations : List Equation) (entries : List Entry) (i : ℕ) (sides : List NameSide) : Type 0 where
  pub size : length sides ≡ i
  pub each : (j : ℕ) (side : NameSide) → slice_get sides j ≡ Some side → (entry : Entry) × (slice_get entries j ≡ Some entry) × IsSideOf equations entry (expr_of side)

-- the first lines are made of entries and of sides
pub record AreJoinedTo (entries : List Entry) (sides : List NameSide) (i : ℕ) (lines : List PartLine) : Type 0 where
  pub size : length lines ≡ i
  pub entry : (j : ℕ) (line : PartLine) → slice_get lines j ≡ Some line → (entry : Entry) × (slice_get entries j ≡ Some entry) × (line.name ≡ entry.name) × (line.class ≡ entry.clock)
  pub side : (j : ℕ) (line : PartLine) → slice_get lines j ≡ Some line → (side : NameSide) × (slice_get sides j ≡ Some side) × (line.side.now ≡ expr_of side)

-- a line is that of an entry
pub record IsLineOf (equations : List Equation) (entry : Entry) (line : PartLine) : Type 0 where
  pub side : IsSideOf equations entry line.side.now
  pub name : line.name ≡ entry.name
  pub class : line.class ≡ entry.clock

-- the first entries have their lines
pub record ArePartLines (equations : List Equation) (entries : List Entry) (i : ℕ) (lines : List PartLine) : Type 0 where
  pub size : length lines ≡ i
  pub each : (j : ℕ) (line : PartLine) → slice_get lines j ≡ Some line → (entry : Entry) × (slice_get entries j ≡ Some entry) × IsLineOf equations entry line

-- the values of the first lines' names have their cells
pub record AreLandedTo (names : List FlatName) (keys : List CellKey) (lines : List PartLine) (i : ℕ) (landings : List Landing) : Type 0 where
  pub size : length landings ≡ i
  pub each : (j : ℕ) (landing : Landing) → slice_get landings j ≡ Some landing → (line : PartLine) × (slice_get lines j ≡ Some line) × (cell_of keys (Value line.name) ≡ Some landing.cell) × (landing.boolean ≡ is_boolean (types_in names line.name))

-- the first lines have the cells of their names
pub record AreCodeLines (keys : List CellKey) (lines : List PartLine) (i : ℕ) (coded : List Line) : Type 0 where
  pub size : length coded ≡ i
  pub each : (j : ℕ) (one : Line) → slice_get coded j ≡ Some one → (line : PartLine) × (slice_get lines j ≡ Some line) × (cell_of keys (Value line.name) ≡ Some one.cell) × (one.name ≡ line.name) × (one.side.now ≡ line.side.now)
