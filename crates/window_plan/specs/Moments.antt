-- What is planned of a moment. This project's own.
use Rattle.std.specs.Prelude.{◌≡◌, ℕ, ◌+◌, ◌<◌, List, length, Some, None, slice_get}
use Rattle.flat_model.specs.Values.{value_in, truth_in}
use Rattle.flat_model.specs.Assignment.{Assignment}
use Rattle.flat_model.specs.Given.{Row, with_row}
use Rattle.flat_model.specs.Moments.{moment_at}
use Rattle.flat_model.specs.Setting.{Setting, site_answer, class_ticks}
use Rattle.flat_model.specs.Uses.{Use}
use Rattle.moment_theory.specs.Taken.{AreInputs, AreTaken}
use Rattle.first_failure.specs.Turns.{FailsAmong, IsLeast}
use Rattle.moment_body.specs.Stages.{Stages}
use Rattle.moment_moves.specs.Moments.{IsFirstSite}
use Rattle.moment_steps.specs.Ticked.{row_ticks}
use Rattle.side_theory.specs.Typed.{AreValuedBefore}
use Rattle.site_risings.specs.Risings.{answer_of}
use Rattle.window_plan.specs.declared.moment.PlannedMoment.{PlannedMoment}

-- the values that rest on no clock, as a row
abbrev pub base_of : PlannedMoment → Row
base_of moment = value_in moment.base.items

-- room for the names, sites and classes of a setting
pub record HasRoom (s : Setting) (moment : PlannedMoment) : Type 0 where
  pub base : length moment.base.items ≡ length s.model.names
  pub answers : length moment.answers.items ≡ length s.clocking.sites
  pub ticks : length moment.ticks.items ≡ length s.clocking.clocks

-- moment n as it is planned for S: the pure uses were taken over its inputs, and over the row that they left sites answer, the first that fails is told, and classes tick
pub record IsPlannedAt (s : Setting) (uses : List Use) (stages : Stages) (S : Assignment) (n : ℕ) (moment : PlannedMoment) : Type 0 where
  pub here : moment_at s.instants n ≡ Some moment.at
  pub room : HasRoom s moment
  pub inputs : Row
  pub are : AreInputs s n inputs
  pub taken : AreTaken s S n stages.pure inputs (base_of moment)
  pub told_is : IsLeast (FailsAmong s uses S n stages.pure (base_of moment)) moment.told
  pub answers_are : (site : ℕ) → answer_of moment.answers.items site ≡ truth_in (site_answer s (with_row S n (base_of moment)) site n)
  pub site_is : IsFirstSite s (with_row S n (base_of moment)) n moment.site
  pub ticks_are : (class : ℕ) → row_ticks moment.ticks.items class ≡ class_ticks s (with_row S n (base_of moment)) (Some class) n

-- sites answer at m over S as over a row
abbrev pub AnswersAs : Setting → Assignment → ℕ → Row → Type 0
AnswersAs s S m base = (site : ℕ) → site_answer s (with_row S m base) site m ≡ site_answer s S site m

-- S goes on from n by the first moments of a list: its names have values before what comes behind them, and its sites answer at each as they are planned
pub record GoesBy (s : Setting) (S : Assignment) (n : ℕ) (moments : List PlannedMoment) (count : ℕ) : Type 0 where
  pub valued : AreValuedBefore s S (n + count)
  pub alike : (j : ℕ) (moment : PlannedMoment) → j < count → slice_get moments j ≡ Some moment → AnswersAs s S (n + j) (base_of moment)

-- nothing failed so far
pub record IsQuiet (moment : PlannedMoment) : Type 0 where
  pub site : moment.site ≡ None
  pub told : moment.told ≡ None
