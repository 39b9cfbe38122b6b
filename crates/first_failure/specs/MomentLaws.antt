-- From the failed run of a base partition to its careful run, and from there to the moment. This project's own.
use Rattle.std.specs.Prelude.{◌≡◌, ℕ, Bool, ℤ, List, ◌++◌, Option, Some, IsSome, slice_get}
use Rattle.flat_model.specs.Assignment.{Assignment}
use Rattle.flat_model.specs.Given.{Row, with_row}
use Rattle.flat_model.specs.Setting.{Setting}
use Rattle.flat_model.specs.Uses.{Use}
use Rattle.moment_theory.specs.Division.{joined}
use Rattle.moment_theory.specs.Free.{IsOrdered}
use Rattle.moment_theory.specs.Pieces.{AreApart as ArePiecesApart, AreTakenAlone, AreBeside}
use Rattle.moment_theory.specs.Sound.{IsSound, IsClear}
use Rattle.moment_theory.specs.Taken.{AreInputs, AreTaken}
use Rattle.step_code.specs.Code.{Cells}
use Rattle.step_code.specs.Lines.{AreApart}
use Rattle.side_theory.specs.Kept.{IsSet, IsClockSet}
use Rattle.part_stretches.specs.declared.running.ClassStretch.{ClassStretch}
use Rattle.part_stretches.specs.declared.running.PartFailing.{PartFailing}
use Rattle.part_stretches.specs.Parts.{Block, entries_of, AreAlike, AreBlocks, AreShown, AllBegin, PartFails}
use Rattle.part_stretches.specs.Running.{RunsFrom}
use Rattle.first_failure.specs.declared.least.EquationFailing.{EquationFailing}
use Rattle.first_failure.specs.Turns.{FailsAmong, IsLeast}

-- a run of stretches that ended with a failure leaves the cells set over the row with which it began, and what they tell of any clock
abbrev pub AgainLaw : Type 0
AgainLaw = (s : Setting) (uses before after : List Use) (blocks : List Block) → IsOrdered s uses (before ++ (entries_of blocks ++ after)) → (p : Option ℕ) (common : Cells) (t : ℕ) (stretches : List ClassStretch) → AreBlocks s uses p common t stretches blocks
    → (S : Assignment) (m : ℕ) (row : Row) → AllBegin s p S m row before → IsClear (entries_of blocks) row → (ticking : List Bool) (i : ℕ) (old new : List ℤ) (failing : PartFailing) → IsSet s S m row common t old → AreShown s S m row ticking t old blocks
    → RunsFrom i ticking stretches old new (Some failing)
    → IsSet s S m row common t new × ((class : ℕ) (at : Cells) → AreAlike common at → AreApart at → IsClockSet s S m class at t old → IsClockSet s S m class at t new)

-- where a use failed at its turn, the least that fails over the last row is told: it is not that none fails
abbrev pub SomeLaw : Type 0
SomeLaw = (s : Setting) (uses before after : List Use) (blocks : List Block) → IsOrdered s uses (before ++ (entries_of blocks ++ after)) → (S : Assignment) (m : ℕ) (row last : Row) → IsSound s (with_row S m row) m → IsClear (entries_of blocks) row
    → AreTaken s S m (entries_of blocks) row last → (i : ℕ) (failing : PartFailing) → PartFails s uses S m row i blocks failing
    → (result : Option EquationFailing) → IsLeast (FailsAmong s uses S m (entries_of blocks) last) result → IsSome result

-- what is told of a piece of the moment's uses, over the row that it left by itself, is so over the row that they all leave
abbrev pub MomentLaw : Type 0
MomentLaw = (s : Setting) (uses first rest : List Use) (pieces : List (List Use)) → IsOrdered s uses (first ++ (joined pieces ++ rest)) → ArePiecesApart s pieces
    → (S : Assignment) (m : ℕ) (inputs base : Row) → AreInputs s m inputs → AreTaken s S m first inputs base → (owns : ℕ → Row) → AreTakenAlone s S m base owns pieces
    → (row : Row) → AreTaken s S m (first ++ joined pieces) inputs row → AreBeside base owns pieces row → (last : Row) → AreTaken s S m rest row last
    → (i : ℕ) (piece : List Use) → slice_get pieces i ≡ Some piece → (told : Option EquationFailing)
    → IsLeast (FailsAmong s uses S m piece (owns i)) told → IsLeast (FailsAmong s uses S m piece last) told
