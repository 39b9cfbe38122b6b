-- The code of the uses of a base partition. This project's own.
use Rattle.std.specs.Prelude.{◌≡◌, ℕ, ◌≤◌, ◌⊎◌, true, List, [], ◌∷◌, ◌++◌, length, vec_len, Some, slice_get, All}
use Rattle.std.specs.List.{list_any}
use Rattle.flat_model.specs.declared.equation.Equation.{Equation}
use Rattle.flat_model.specs.declared.expression.Expr.{Expr}
use Rattle.flat_model.specs.declared.model.FlatName.{FlatName}
use Rattle.flat_model.specs.Typing.{types_in}
use Rattle.cell_keys.specs.declared.key.CellKey.{CellKey}
use Rattle.cell_keys.specs.declared.key.CellKey.TheVariants.{Value}
use Rattle.cell_keys.specs.declared.sight.Sight.TheVariants.{Now}
use Rattle.cell_keys.specs.Cells.{same_key, cell_of, AreWhole}
use Rattle.step_code.specs.Lines.{Line}
use Rattle.step_lines.specs.Stretches.{IsStretch}
use Rattle.part_layout.specs.Keyed.{is_boolean, keyed_cells}
use Rattle.part_layout.specs.LayoutLaws.{AreLaid}
use Rattle.part_layout.specs.Reads.{keys_read}
use Rattle.part_stretches.specs.declared.running.ClassStretch.{ClassStretch}
use Rattle.part_stretches.specs.Running.{IsRunWithin}
use Rattle.tree_step.specs.declared.taking.Entry.{Entry}
use Rattle.tree_step.specs.Starts.{IsAmong}
use Rattle.undone_side.specs.Undone.{IsSolvedSide}
use Rattle.part_code.specs.declared.coded.Landing.{Landing}
use Rattle.part_code.specs.declared.coded.Coded.{Coded}

-- a side is what the name of an entry is by its equation
pub record IsSideOf (equations : List Equation) (entry : Entry) (side : Expr) : Type 0 where
  pub equation : Equation
  pub found : slice_get equations entry.equation ≡ Some equation
  pub solved : IsSolvedSide entry.name equation side

-- the lines are those of entries whose clock has this place, one for each
abbrev pub AreLinesFor : List Equation → ℕ → List Entry → List Line → Type 0
AreLinesFor equations place [] [] = Unit {0}
AreLinesFor equations place (entry ∷ entries) (line ∷ lines) = (IsSideOf equations entry line.side × (line.name ≡ entry.name) × (entry.clock ≡ place)) × AreLinesFor equations place entries lines
AreLinesFor equations place _ _ = ⊥

-- a stretch has the code of entries of one clock, whose place is its class
pub record IsStretchOf (equations : List Equation) (names : List FlatName) (keys : List CellKey) (entries : List Entry) (one : ClassStretch) : Type 0 where
  pub lines : List Line
  pub are : AreLinesFor equations one.class entries lines
  pub laid : AreLaid keys one.class lines
  pub stretch : IsStretch (keyed_cells keys names one.class) (length keys) lines one.stretch

-- stretches have the code of entries, one behind the other, and none of them is empty
abbrev pub AreStretchesOf : List Equation → List FlatName → List CellKey → List Entry → List ClassStretch → Type 0
AreStretchesOf equations names keys entries [] = entries ≡ []
AreStretchesOf equations names keys entries (one ∷ rest) =
    (first : Entry) × (front : List Entry) × (behind : List Entry) × (entries ≡ first ∷ (front ++ behind)) × IsStretchOf equations names keys (first ∷ front) one × AreStretchesOf equations names keys behind rest

-- a key is among others
abbrev pub Has : List CellKey → CellKey → Type 0
Has keys k = list_any (same_key k) keys ≡ true

-- a key is for an entry's name, or for what its side reads
pub record IsAskedBy (equations : List Equation) (entries : List Entry) (k : CellKey) : Type 0 where
  pub entry : Entry
  pub among : IsAmong entry entries
  pub side : Expr
  pub of : IsSideOf equations entry side
  pub asks : (k ≡ Value entry.name) ⊎ Has (keys_read side entry.clock Now) k

-- the value of an entry's name has its cell, and its kind is told
pub record IsLandingOf (names : List FlatName) (keys : List CellKey) (entry : Entry) (landing : Landing) : Type 0 where
  pub cell : cell_of keys (Value entry.name) ≡ Some landing.cell
  pub boolean : landing.boolean ≡ is_boolean (types_in names entry.name)

-- the code is that of the uses of entries, and there is room for its words
pub record IsCodeOf (equations : List Equation) (names : List FlatName) (entries : List Entry) (code : Coded) : Type 0 where
  pub stretches : AreStretchesOf equations names code.keys entries code.stretches.items
  pub whole : AreWhole code.keys
  pub asked : (k : CellKey) (c : ℕ) → cell_of code.keys k ≡ Some c → IsAskedBy equations entries k
  pub landings : (i : ℕ) (entry : Entry) → slice_get entries i ≡ Some entry → (landing : Landing) × (slice_get code.landings.items i ≡ Some landing) × IsLandingOf names code.keys entry landing
  pub room : length code.keys ≤ vec_len code.words
  pub within : All (IsRunWithin (vec_len code.words)) code.stretches.items
