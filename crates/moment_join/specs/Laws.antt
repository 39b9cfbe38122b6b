-- How a moment ends that was run by its stages.
use Rattle.std.specs.Prelude.{◌≡◌, ℕ, suc, List, ◌∷◌, ◌++◌, Option, Some, None, Contains}
use Rattle.sync_values.specs.declared.value.Fail.{Fail}
use Rattle.flat_model.specs.declared.clock.Moment.{Moment}
use Rattle.flat_model.specs.Assignment.{Assignment}
use Rattle.flat_model.specs.Faults.{EquationFails, SiteFails}
use Rattle.flat_model.specs.Given.{Row, with_row}
use Rattle.flat_model.specs.Moments.{moment_at}
use Rattle.flat_model.specs.Setting.{Setting}
use Rattle.flat_model.specs.Uses.{Use}
use Rattle.moment_theory.specs.Division.{joined}
use Rattle.moment_theory.specs.Free.{IsOrdered}
use Rattle.moment_theory.specs.Going.{HasRun, SitesHold}
use Rattle.moment_theory.specs.Taken.{AreInputs, AreTaken}
use Rattle.first_failure.specs.declared.least.EquationFailing.{EquationFailing}
use Rattle.first_failure.specs.Turns.{FailsAmong, IsLeast}
use Rattle.moment_join.specs.Sites.{ReachSites, AnswerAlike}
use Rattle.moment_join.specs.Staged.{IsClockless, AreStagesOf, IsStaged, AreTold}
use Rattle.moment_join.specs.Told.{earliest}

-- the stages behind each other take all uses from the inputs
abbrev pub TakenLaw : Type 0
TakenLaw = (s : Setting) (uses pure : List Use) (pieces : List (List Use)) (waiting : List Use) → AreStagesOf s uses pure pieces waiting
    → (S : Assignment) (m : ℕ) (inputs base : Row) (owns : ℕ → Row) (row last : Row) → IsStaged s S m pure pieces waiting inputs base owns row last
    → AreTaken s S m (pure ++ (joined pieces ++ waiting)) inputs last

-- and the least failure that a stage tells is the least over the last row
abbrev pub ToldLaw : Type 0
ToldLaw = (s : Setting) (uses pure : List Use) (pieces : List (List Use)) (waiting : List Use) → AreStagesOf s uses pure pieces waiting
    → (S : Assignment) (m : ℕ) (inputs base : Row) (owns : ℕ → Row) (row last : Row) → IsStaged s S m pure pieces waiting inputs base owns row last
    → (first : Option EquationFailing) (each : List (Option EquationFailing)) (behind : Option EquationFailing) → AreTold s uses S m pure pieces waiting base owns last first each behind
    → IsLeast (EquationFails s (with_row S m last) uses m) (earliest (first ∷ (behind ∷ each)))

-- sites answer over what the pure uses left as over the last row
abbrev pub SitesLaw : Type 0
SitesLaw = (s : Setting) (uses pure : List Use) (pieces : List (List Use)) (waiting : List Use) → AreStagesOf s uses pure pieces waiting → ReachSites s pure
    → (S : Assignment) (m : ℕ) (inputs base : Row) (owns : ℕ → Row) (row last : Row) → IsStaged s S m pure pieces waiting inputs base owns row last
    → AnswerAlike s S m base last

-- where no equation fails over the row that all uses left and all sites have values, the run goes on with that row
abbrev pub GoesOnLaw : Type 0
GoesOnLaw = (s : Setting) (uses order : List Use) → IsOrdered s uses order → (S : Assignment) (m : ℕ) → HasRun s uses S m → (at : Moment) → moment_at s.instants m ≡ Some at
    → (inputs last : Row) → AreInputs s m inputs → AreTaken s S m order inputs last
    → SitesHold s (with_row S m last) m → IsLeast (EquationFails s (with_row S m last) uses m) None → HasRun s uses (with_row S m last) (suc m)

-- where no pure use fails and no site does, over what the pure uses left, the condition of each site has a value
abbrev pub HoldsLaw : Type 0
HoldsLaw = (s : Setting) (uses pure rest : List Use) → IsOrdered s uses (pure ++ rest) → ((entry : Use) → Contains pure entry → IsClockless s entry) → ReachSites s pure
    → (S : Assignment) (m : ℕ) (at : Moment) → moment_at s.instants m ≡ Some at → (inputs base : Row) → AreInputs s m inputs → AreTaken s S m pure inputs base
    → IsLeast (FailsAmong s uses S m pure base) None → ((site : ℕ) (kind : Fail) → SiteFails s (with_row S m base) m site kind → ⊥) → SitesHold s (with_row S m base) m
