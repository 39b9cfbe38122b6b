-- A share of the uses of a setting, which can be run by itself. This project's own.
use Rattle.std.specs.Prelude.{◌≡◌, ℕ, List, ◌++◌, Some, slice_get, Contains}
use Rattle.flat_model.specs.declared.equation.Equation.{Equation}
use Rattle.flat_model.specs.Setting.{Setting}
use Rattle.flat_model.specs.Uses.{Use}
use Rattle.moment_theory.specs.Free.{IsReachedBy}
use Rattle.moment_join.specs.Sites.{ReachSites}
use Rattle.moment_join.specs.Staged.{AreStagesOf}
use Rattle.part_groups.specs.Units.{EquationNames}

-- the uses of a setting, as a share divides them: those that rest on no clock, those of each of its base partitions, its unclocked ones that wait for a clock, and all that are of other shares
pub record Division : Type 0 where
  pub pure : List Use
  pub pieces : List (List Use)
  pub waiting : List Use
  pub others : List Use

-- no equation of these uses asks, at a moment or before it, for a name that the others reach
abbrev pub AskNothingOf : Setting → List Use → List Use → Type 0
AskNothingOf s own others =
    (entry : Use) (equation : Equation) (x : ℕ) → Contains own entry → slice_get s.model.equations entry.equation ≡ Some equation → EquationNames equation x → IsReachedBy x others → ⊥

-- behind the pure uses those of the share may be taken before all others, and they ask for nothing that these reach
pub record IsShareOf (s : Setting) (uses : List Use) (d : Division) : Type 0 where
  pub staged : AreStagesOf s uses d.pure d.pieces (d.waiting ++ d.others)
  pub reach : ReachSites s d.pure
  pub pieces_alone : (i : ℕ) (piece : List Use) → slice_get d.pieces i ≡ Some piece → AskNothingOf s piece d.others
  pub waiting_alone : AskNothingOf s d.waiting d.others
