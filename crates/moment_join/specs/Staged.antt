-- A moment by its stages. This project's own.
use Rattle.std.specs.Prelude.{◌≡◌, ℕ, List, ◌++◌, Option, Some, None, slice_get, Contains}
use Rattle.flat_model.specs.Assignment.{Assignment}
use Rattle.flat_model.specs.Given.{Row}
use Rattle.flat_model.specs.declared.equation.Equation.{Equation}
use Rattle.flat_model.specs.Setting.{Setting, class_of_equation}
use Rattle.flat_model.specs.Uses.{Use}
use Rattle.moment_theory.specs.Division.{joined}
use Rattle.moment_theory.specs.Free.{AsksLast, IsOrdered}
use Rattle.moment_theory.specs.Pieces.{AreApart, AreTakenAlone, AreBeside}
use Rattle.moment_theory.specs.Taken.{AreInputs, AreTaken}
use Rattle.first_failure.specs.declared.least.EquationFailing.{EquationFailing}
use Rattle.first_failure.specs.Turns.{FailsAmong, IsLeast}

-- a use that rests on no clock: its equation is unclocked, and asks for no last value
pub record IsClockless (s : Setting) (entry : Use) : Type 0 where
  pub unclocked : class_of_equation s entry.equation ≡ None
  pub plain : (equation : Equation) (z : ℕ) → slice_get s.model.equations entry.equation ≡ Some equation → AsksLast equation z → ⊥

-- the uses of a setting by stages: behind each other they are a free order, the pure ones rest on no clock, and the pieces need nothing of each other
pub record AreStagesOf (s : Setting) (uses pure : List Use) (pieces : List (List Use)) (waiting : List Use) : Type 0 where
  pub ordered : IsOrdered s uses (pure ++ (joined pieces ++ waiting))
  pub clockless : (entry : Use) → Contains pure entry → IsClockless s entry
  pub apart : AreApart s pieces

-- the stages of a moment: the pure uses are taken from the inputs, each piece by itself from the row that they left, and the waiting uses from a row with the values of all pieces
pub record IsStaged (s : Setting) (S : Assignment) (m : ℕ) (pure : List Use) (pieces : List (List Use)) (waiting : List Use) (inputs base : Row) (owns : ℕ → Row) (row last : Row) : Type 0 where
  pub are : AreInputs s m inputs
  pub first : AreTaken s S m pure inputs base
  pub alone : AreTakenAlone s S m base owns pieces
  pub beside : AreBeside base owns pieces row
  pub behind : AreTaken s S m waiting row last

-- each stage tells the least equation of its uses that fails, over the row that it left
pub record AreTold (s : Setting) (uses : List Use) (S : Assignment) (m : ℕ) (pure : List Use) (pieces : List (List Use)) (waiting : List Use) (base : Row) (owns : ℕ → Row) (last : Row)
    (first : Option EquationFailing) (each : List (Option EquationFailing)) (behind : Option EquationFailing) : Type 0 where
  pub first_told : IsLeast (FailsAmong s uses S m pure base) first
  pub each_told : (i : ℕ) (piece : List Use) → slice_get pieces i ≡ Some piece → (told : Option EquationFailing) × (slice_get each i ≡ Some told) × IsLeast (FailsAmong s uses S m piece (owns i)) told
  pub no_more : (i : ℕ) (told : Option EquationFailing) → slice_get each i ≡ Some told → (piece : List Use) × (slice_get pieces i ≡ Some piece)
  pub behind_told : IsLeast (FailsAmong s uses S m waiting last) behind
