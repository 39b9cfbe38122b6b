-- Why a step of the preparation gives nothing.
use Rattle.std.specs.Prelude.{◌≡◌, ℕ, ◌+◌, ◌-◌, ◌≤◌, ◌^◌, ◌⊎◌, false, List, length, Some, slice_get, take, drop}
use Rattle.flat_model.specs.declared.model.FlatName.{FlatName}
use Rattle.cell_keys.specs.declared.key.CellKey.{CellKey}
use Rattle.step_code.specs.declared.compile.NoCode.{NoCode}
use Rattle.step_code.specs.declared.compile.NoCode.TheVariants.{Memory, Unknown, Large}
use Rattle.step_code.specs.Code.{Cells}
use Rattle.step_code.specs.Lines as plain
use Rattle.step_lines.specs.declared.stretch.Line.{Line}
use Rattle.step_lines.specs.Stretches.{lines_of, are_known}
use Rattle.part_layout.specs.Keyed.{keyed_cells}
use Rattle.tree_step.specs.declared.taking.Entry.{Entry}
use Rattle.part_code.specs.private.Stretching.{IsEnd}

-- memory may be refused at any time; all else has a cause
abbrev pub IsDueTo : Type 0 → NoCode → Type 0
IsDueTo cause Memory = Unit {0}
IsDueTo cause Unknown = cause
IsDueTo cause Large = cause

-- lines have no code over these cells: a side is not known, or there are too many instructions
abbrev pub HaveNoCode : Cells → ℕ → List plain.Line → Type 0
HaveNoCode at t lines = (are_known at lines ≡ false) ⊎ (2 ^ 32 ≤ t + length (plain.lines_code at t lines))

-- the lines from a place up to an end, which are of one clock, have no code
pub record IsRefusedRun (names : List FlatName) (keys : List CellKey) (entries : List Entry) (lines : List Line) : Type 0 where
  pub start : ℕ
  pub end : ℕ
  pub first : Entry
  pub found : slice_get entries start ≡ Some first
  pub run : IsEnd entries start end
  pub refused : HaveNoCode (keyed_cells keys names first.clock) (length keys) (lines_of (take (end - start) (drop start lines)))
