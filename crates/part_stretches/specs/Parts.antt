-- What a run of the stretches of a base partition does to its uses at a moment. This project's own.
use Rattle.std.specs.Prelude.{◌≡◌, ℕ, ◌+◌, true, Bool, ℤ, List, [], ◌∷◌, ◌++◌, Option, Some, None, slice_get}
use Rattle.sync_values.specs.declared.value.Value.{Value}
use Rattle.flat_model.specs.Assignment.{Assignment}
use Rattle.flat_model.specs.Faults.{EquationFails}
use Rattle.flat_model.specs.Given.{Row, with_row}
use Rattle.flat_model.specs.Setting.{Setting, partition_of, class_ticks}
use Rattle.flat_model.specs.Uses.{Use}
use Rattle.moment_theory.specs.Free.{IsOrdered}
use Rattle.moment_theory.specs.Sound.{IsClear}
use Rattle.moment_theory.specs.Taken.{AreTaken}
use Rattle.step_code.specs.Code.{Cells}
use Rattle.step_code.specs.Lines.{Line, AreApart}
use Rattle.step_lines.specs.Stretches.{IsStretch}
use Rattle.side_theory.specs.Counted.{Begins}
use Rattle.side_theory.specs.Kept.{IsLaidOut, IsSet, IsClockSet}
use Rattle.side_theory.specs.Runs.{AreCelled, AreBooleans}
use Rattle.side_theory.specs.Stretches.{AreLinesOf}
use Rattle.part_stretches.specs.declared.running.ClassStretch.{ClassStretch}
use Rattle.part_stretches.specs.declared.running.PartFailing.{PartFailing}
use Rattle.part_stretches.specs.Running.{tick_in, RunsFrom}

-- what a stretch is the code of: uses of one class, their lines, and the cells as an equation of the class has them
pub record Block : Type 0 where
  pub class : ℕ
  pub entries : List Use
  pub lines : List Line
  pub at : Cells

-- the uses of several stretches
abbrev pub entries_of : List Block → List Use
entries_of [] = []
entries_of (block ∷ blocks) = block.entries ++ entries_of blocks

-- two tables of cells are the same but for what is shown of clocks
pub record AreAlike (a b : Cells) : Type 0 where
  pub now : (k x : ℕ) → (a k).now x ≡ (b k).now x
  pub previous : (k x : ℕ) → (a k).previous x ≡ (b k).previous x
  pub last : (k x : ℕ) → (a k).last x ≡ (b k).last x
  pub const : (k : ℕ) (v : Value) → (a k).const v ≡ (b k).const v

-- a stretch has the code of a block, whose class is of base partition p
pub record IsBlock (s : Setting) (uses : List Use) (p : Option ℕ) (common : Cells) (t : ℕ) (one : ClassStretch) (block : Block) : Type 0 where
  pub class_is : one.class ≡ block.class
  pub partition : partition_of s (Some block.class) ≡ p
  pub stretch : IsStretch block.at t block.lines one.stretch
  pub lines : AreLinesOf s uses block.class block.entries block.lines
  pub alike : AreAlike common block.at
  pub apart : AreApart block.at
  pub celled : AreCelled block.at t block.lines
  pub booleans : AreBooleans s block.at
  pub laid : IsLaidOut block.at

abbrev pub AreBlocks : Setting → List Use → Option ℕ → Cells → ℕ → List ClassStretch → List Block → Type 0
AreBlocks s uses p common t [] [] = Unit {0}
AreBlocks s uses p common t (one ∷ rest) (block ∷ blocks) = IsBlock s uses p common t one block × AreBlocks s uses p common t rest blocks
AreBlocks s uses p common t _ _ = ⊥

-- it is shown of each block whether its class ticks, and where it does its clock's cells are set
abbrev pub AreShown : Setting → Assignment → ℕ → Row → List Bool → ℕ → List ℤ → List Block → Type 0
AreShown s S m row ticking t cells [] = Unit {0}
AreShown s S m row ticking t cells (block ∷ blocks) =
    ((tick_in ticking block.class ≡ class_ticks s (with_row S m row) (Some block.class) m) × (tick_in ticking block.class ≡ true → IsClockSet s S m block.class block.at t cells)) × AreShown s S m row ticking t cells blocks

-- a stretch of any class of the base partition that ticks begins with the row
abbrev pub AllBegin : Setting → Option ℕ → Assignment → ℕ → Row → List Use → Type 0
AllBegin s p S m row before = (class : ℕ) → partition_of s (Some class) ≡ p → class_ticks s (with_row S m row) (Some class) m ≡ true → Begins s S m row class before

-- the first use to fail stands at this place of this stretch: those before it were taken, and over the row that they left its equation fails so
pub record PartFails (s : Setting) (uses : List Use) (S : Assignment) (m : ℕ) (row : Row) (i : ℕ) (blocks : List Block) (failing : PartFailing) : Type 0 where
  pub done : List Use
  pub entry : Use
  pub rest : List Use
  pub entries_are : entries_of blocks ≡ done ++ entry ∷ rest
  pub number : ℕ
  pub stretch_is : failing.stretch ≡ i + number
  pub block : Block
  pub found : slice_get blocks number ≡ Some block
  pub place : slice_get block.entries failing.place ≡ Some entry
  pub last : Row
  pub taken : AreTaken s S m done row last
  pub fails : EquationFails s (with_row S m last) uses m entry.equation failing.kind

-- all uses were taken, and the cells are set over the row that they left; or the first failed
abbrev pub PartTaken : Setting → List Use → Assignment → ℕ → Row → ℕ → List Block → Cells → ℕ → List ℤ → Option PartFailing → Type 0
PartTaken s uses S m row i blocks common t new None = (last : Row) × AreTaken s S m (entries_of blocks) row last × IsSet s S m last common t new
PartTaken s uses S m row i blocks common t new (Some failing) = PartFails s uses S m row i blocks failing

-- over cells that are set for a moment, a run of the stretches of a base partition takes the uses of their equations, or tells the first of them to fail
abbrev pub PartLaw : Type 0
PartLaw = (s : Setting) (uses before after : List Use) (blocks : List Block) → IsOrdered s uses (before ++ (entries_of blocks ++ after)) → (p : Option ℕ) (common : Cells) (t : ℕ) (stretches : List ClassStretch) → AreBlocks s uses p common t stretches blocks
    → (S : Assignment) (m : ℕ) (row : Row) → AllBegin s p S m row before → IsClear (entries_of blocks) row → (ticking : List Bool) (i : ℕ) (old new : List ℤ) (result : Option PartFailing) → IsSet s S m row common t old → AreShown s S m row ticking t old blocks
    → RunsFrom i ticking stretches old new result → PartTaken s uses S m row i blocks common t new result
