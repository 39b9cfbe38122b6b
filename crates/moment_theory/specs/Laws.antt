-- Laws of the values that uses give, and of a run.
use Rattle.std.specs.Prelude.{◌≡◌, ℕ, suc, ◌≤◌, ◌⊎◌, List, length, Some}
use Rattle.sync_values.specs.declared.value.Fail.{Fail}
use Rattle.flat_model.specs.declared.clock.Moment.{Moment}
use Rattle.flat_model.specs.declared.fault.FaultPlace.{FaultPlace}
use Rattle.flat_model.specs.Assignment.{Assignment}
use Rattle.flat_model.specs.Faults.{SomethingFails, IsFirstToFail, IsFirstFault}
use Rattle.flat_model.specs.Given.{Row, with_row, IsGiven}
use Rattle.flat_model.specs.Meets.{Meets, MeetsBefore}
use Rattle.flat_model.specs.Moments.{moment_at}
use Rattle.flat_model.specs.Runs.{IsWholeRun, IsFaultedRun}
use Rattle.flat_model.specs.Setting.{Setting}
use Rattle.flat_model.specs.Uses.{Use}
use Rattle.moment_theory.specs.Free.{AreFree, AreSameUses, IsOrdered}
use Rattle.moment_theory.specs.Going.{AgreeBefore, IsOnlyBefore, HasRun, SitesHold, AllSolved}
use Rattle.moment_theory.specs.Taken.{AreInputs, AreTaken}

-- uses taken in a free order over the inputs give exactly the given values
abbrev pub TakenLaw : Type 0
TakenLaw = (s : Setting) (uses order : List Use) → IsOrdered s uses order → (S : Assignment) (m : ℕ) (inputs last : Row) → AreInputs s m inputs
    → AreTaken s S m order inputs last → IsGiven s S uses m last

-- whatever free order is taken
abbrev pub OrderLaw : Type 0
OrderLaw = (s : Setting) (uses first second : List Use) → IsOrdered s uses first → AreSameUses uses second → AreFree s second
    → (S : Assignment) (m : ℕ) (inputs one two : Row) → AreInputs s m inputs → AreTaken s S m first inputs one → AreTaken s S m second inputs two
    → (x : ℕ) → one x ≡ two x

-- where each site and each use has a value, what meets the model before a moment goes on, alone
abbrev pub NextLaw : Type 0
NextLaw = (s : Setting) (uses order : List Use) → IsOrdered s uses order → (S : Assignment) (m : ℕ) → IsOnlyBefore s S m
    → (at : Moment) → moment_at s.instants m ≡ Some at → (inputs last : Row) → AreInputs s m inputs → AreTaken s S m order inputs last
    → SitesHold s (with_row S m last) m → AllSolved s (with_row S m last) uses m → IsOnlyBefore s (with_row S m last) (suc m)

-- where something fails, nothing meets the model up to the moment
abbrev pub StopLaw : Type 0
StopLaw = (s : Setting) (uses order : List Use) → IsOrdered s uses order → (S : Assignment) (m : ℕ) → IsOnlyBefore s S m
    → (inputs last : Row) → AreInputs s m inputs → AreTaken s S m order inputs last
    → SomethingFails s (with_row S m last) uses m → (T : Assignment) → Meets s T m → ⊥

-- and what fails first there is the first fault
abbrev pub FaultLaw : Type 0
FaultLaw = (s : Setting) (uses order : List Use) → IsOrdered s uses order → (S : Assignment) (m : ℕ) → HasRun s uses S m
    → (inputs last : Row) → AreInputs s m inputs → AreTaken s S m order inputs last
    → (at : FaultPlace) (kind : Fail) → IsFirstToFail s (with_row S m last) uses m at kind → IsFirstFault s S m at kind

-- what meets a model before a moment of the run is alone in that, and nothing failed
abbrev pub MetLaw : Type 0
MetLaw = (s : Setting) (uses order : List Use) → IsOrdered s uses order → (S : Assignment) (m : ℕ) → m ≤ suc (length s.instants) → MeetsBefore s S m
    → HasRun s uses S m

-- so it is the only solution
abbrev pub OnlyLaw : Type 0
OnlyLaw = (s : Setting) (uses order : List Use) → IsOrdered s uses order → (S T : Assignment) (m : ℕ) → m ≤ length s.instants → Meets s S m → Meets s T m
    → AgreeBefore S T (suc m)

-- a run has one first fault
abbrev pub OneFaultLaw : Type 0
OneFaultLaw = (s : Setting) (uses order : List Use) → IsOrdered s uses order → (S T : Assignment) (m n : ℕ) → m ≤ length s.instants → n ≤ length s.instants
    → (at place : FaultPlace) (kind failure : Fail) → IsFirstFault s S m at kind → IsFirstFault s T n place failure
    → (m ≡ n) × (at ≡ place) × (kind ≡ failure)

-- and none where an assignment meets the model at its moment
abbrev pub WholeLaw : Type 0
WholeLaw = (s : Setting) (uses order : List Use) → IsOrdered s uses order → (S T : Assignment) (m n : ℕ) → m ≤ n → n ≤ length s.instants → Meets s S n
    → (at : FaultPlace) (kind : Fail) → IsFirstFault s T m at kind → ⊥

-- a run: an assignment meets the model to its end, or there is a first fault
abbrev pub IsRun : Setting → List ℕ → List ℕ → Type 0
IsRun s out err = IsWholeRun s out err ⊎ IsFaultedRun s out err

-- what it puts on out and err is one
abbrev pub OneRunLaw : Type 0
OneRunLaw = (s : Setting) (uses order : List Use) → IsOrdered s uses order → (out err text line : List ℕ) → IsRun s out err → IsRun s text line
    → (out ≡ text) × (err ≡ line)
