-- The stretches of entries, as they are made.
use Rattle.std.specs.Prelude.{◌≡◌, ℕ, ◌<◌, ◌≤◌, ◌-◌, List, [], ◌∷◌, length, Option, Some, None, slice_get, take, drop}
use Rattle.flat_model.specs.declared.model.FlatName.{FlatName}
use Rattle.cell_keys.specs.declared.key.CellKey.{CellKey}
use Rattle.step_lines.specs.declared.stretch.Line.{Line}
use Rattle.step_lines.specs.Stretches.{lines_of, IsStretch}
use Rattle.part_layout.specs.Keyed.{keyed_cells}
use Rattle.part_stretches.specs.declared.running.ClassStretch.{ClassStretch}
use Rattle.tree_step.specs.declared.taking.Entry.{Entry}

-- the clock of an entry that may be there
abbrev pub clock_in : Option Entry → ℕ
clock_in None = 0
clock_in (Some entry) = entry.clock

-- the entries from a place up to an end are of one clock
pub record IsEnd (entries : List Entry) (start end : ℕ) : Type 0 where
  pub more : start < end
  pub within : end ≤ length entries
  pub same : (j : ℕ) (first entry : Entry) → slice_get entries start ≡ Some first → start ≤ j → j < end → slice_get entries j ≡ Some entry → entry.clock ≡ first.clock

-- a stretch has the code of the lines from a place up to an end
pub record IsCodedRun (names : List FlatName) (keys : List CellKey) (entries : List Entry) (lines : List Line) (start end : ℕ) (one : ClassStretch) : Type 0 where
  pub first : Entry
  pub found : slice_get entries start ≡ Some first
  pub class : one.class ≡ first.clock
  pub run : IsEnd entries start end
  pub stretch : IsStretch (keyed_cells keys names one.class) (length keys) (lines_of (take (end - start) (drop start lines))) one.stretch

-- stretches have the code of the lines from a place up to another, one behind the other
abbrev pub AreCodedFrom : List FlatName → List CellKey → List Entry → List Line → ℕ → ℕ → List ClassStretch → Type 0
AreCodedFrom names keys entries lines start end [] = start ≡ end
AreCodedFrom names keys entries lines start end (one ∷ rest) = (mid : ℕ) × IsCodedRun names keys entries lines start mid one × AreCodedFrom names keys entries lines mid end rest

abbrev pub AreCodedTo : List FlatName → List CellKey → List Entry → List Line → ℕ → List ClassStretch → Type 0
AreCodedTo names keys entries lines end stretches = AreCodedFrom names keys entries lines 0 end stretches
