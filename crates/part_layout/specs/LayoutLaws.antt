-- What the layout of the cells of a base partition is good for. This project's own.
use Rattle.std.specs.Prelude.{◌≡◌, ℕ, true, List, [], ◌∷◌, length, Some, IsSome}
use Rattle.std.specs.List.{list_all, list_any}
use Rattle.flat_model.specs.declared.model.NameKind.{NameKind}
use Rattle.flat_model.specs.Samples.{samples_are_plain}
use Rattle.flat_model.specs.Setting.{Setting}
use Rattle.flat_model.specs.Typing.{types_in, valued_type, type_of}
use Rattle.cell_keys.specs.declared.key.CellKey.{CellKey}
use Rattle.cell_keys.specs.declared.key.CellKey.TheVariants.{Value}
use Rattle.cell_keys.specs.Cells.{same_key, cell_of, with_keys, AreWhole}
use Rattle.cell_keys.specs.declared.sight.Sight.TheVariants.{Now}
use Rattle.step_code.specs.Code.{Cells}
use Rattle.part_layout.specs.Keyed.{keyed_cells}
use Rattle.step_code.specs.Lines.{Line, AreApart}
use Rattle.side_theory.specs.Kept.{IsLaidOut}
use Rattle.side_theory.specs.Runs.{AreCelled, AreBooleans}
use Rattle.side_theory.specs.SetOn.{AreNoClockCells}
use Rattle.part_layout.specs.declared.lines.PartLine.{PartLine}
use Rattle.part_layout.specs.Reads.{keys_read, keys_of_lines}

-- all these keys have cells
abbrev pub HasAll : List CellKey → List CellKey → Type 0
HasAll keys asked = list_all (λ key. list_any (same_key key) keys) asked ≡ true

-- each line has its name's cell, and what its side reads has cells
abbrev pub AreLaid : List CellKey → ℕ → List Line → Type 0
AreLaid keys class [] = Unit {0}
AreLaid keys class (l ∷ ls) = ((cell_of keys (Value l.name) ≡ Some l.cell) × HasAll keys (keys_read l.side class Now)) × AreLaid keys class ls

-- the side of a line is of the type of its name, and what stands in its samples may do so
pub record IsTypedLine (s : Setting) (l : Line) : Type 0 where
  pub type : NameKind
  pub side : type_of (types_in s.model.names) l.side ≡ Some type
  pub name : valued_type (types_in s.model.names l.name) ≡ Some type
  pub plain : samples_are_plain l.side ≡ true

abbrev pub AreTypedLines : Setting → List Line → Type 0
AreTypedLines s [] = Unit {0}
AreTypedLines s (l ∷ ls) = IsTypedLine s l × AreTypedLines s ls

-- the table of the cells of keys, as an equation has it whose clock has this number in keys, is one over which code of uses of any class may run
pub record IsTable (s : Setting) (keys : List CellKey) (class : ℕ) (at : Cells) : Type 0 where
  pub laid : IsLaidOut at
  pub apart : AreApart at
  pub booleans : AreBooleans s at
  pub celled : (ls : List Line) → AreTypedLines s ls → AreLaid keys class ls → AreCelled at (length keys) ls
  pub clock : (ls : List Line) → AreLaid keys class ls → AreNoClockCells at ls

abbrev pub TableLaw : Type 0
TableLaw = (s : Setting) (keys : List CellKey) (class : ℕ) → IsTable s keys class (keyed_cells keys s.model.names class)

-- an equation has a cell for its name, and all that its side reads has cells
abbrev pub IsLaidOutFor : List CellKey → PartLine → Type 0
IsLaidOutFor keys line = IsSome (cell_of keys (Value line.name)) × HasAll keys (keys_read line.side.now line.class Now)

abbrev pub AreLaidOutFor : List CellKey → List PartLine → Type 0
AreLaidOutFor keys [] = Unit {0}
AreLaidOutFor keys (line ∷ lines) = IsLaidOutFor keys line × AreLaidOutFor keys lines

-- the keys of equations have cells for each of them, and are whole
abbrev pub LaidLaw : Type 0
LaidLaw = (lines : List PartLine) → AreLaidOutFor (with_keys [] (keys_of_lines lines)) lines × AreWhole (with_keys [] (keys_of_lines lines))
