-- A window that was planned, and run by shares. This project's own.
use Rattle.std.specs.Prelude.{◌≡◌, ℕ, ◌<◌, List, length, take, Option, Some, None, slice_get}
use Rattle.sync_values.specs.declared.value.Value.{Value}
use Rattle.flat_model.specs.declared.fault.Fault.{Fault}
use Rattle.flat_model.specs.Values.{value_in}
use Rattle.flat_model.specs.Assignment.{Assignment}
use Rattle.flat_model.specs.Setting.{Setting}
use Rattle.flat_model.specs.Trace.{columns_of}
use Rattle.flat_model.specs.Uses.{Use}
use Rattle.moment_body.specs.Stages.{Stages}
use Rattle.moment_moves.specs.Moments.{fault_of}
use Rattle.moment_theory.specs.Free.{IsReachedBy}
use Rattle.run_ahead.specs.Ahead.{Window}
use Rattle.run_moments.specs.Moving.{IsPlanBefore}
use Rattle.share_join.specs.Shares.{own_uses, all_uses, AreSharesOf}
use Rattle.share_moments.specs.Sharing.{uses_beside}
use Rattle.share_run.specs.Standing.{IsShareBefore, pieces_of}
use Rattle.window_plan.specs.declared.moment.PlannedMoment.{PlannedMoment}
use Rattle.window_plan.specs.Drafts.{AreLows, WereLow}
use Rattle.window_plan.specs.Moments.{base_of}
use Rattle.window_plan.specs.Pure.{ArePure}
use Rattle.window_plan.specs.Windows.{Course, HaveRoom, HasCourse, EndsSo}
use Rattle.window_shares.specs.Sharing.{ShareRan, share_in, shares_in, HaveRun, AreQuiet, told_by}

-- the value of a name at moment j of a window, as the shares left it: the share that reaches it shows it, or it is that of the base where none does
pub record IsLeftBy (runs : List ShareRan) (moment : PlannedMoment) (j x : ℕ) (value : Option Value) : Type 0 where
  pub own : (i : ℕ) (ran : ShareRan) → slice_get runs i ≡ Some ran → IsReachedBy x (own_uses (share_in ran))
      → (at : ℕ) × (slice_get ran.own at ≡ Some x) × (at < length (ran.rows j)) × (value ≡ value_in (ran.rows j) at)
  pub rest : (IsReachedBy x (all_uses (shares_in runs)) → ⊥) → value ≡ base_of moment x

-- a row has the values of such columns
pub record IsRowOf (columns : List ℕ) (runs : List ShareRan) (moment : PlannedMoment) (j : ℕ) (row : List (Option Value)) : Type 0 where
  pub long : length row ≡ length columns
  pub cells : (c x : ℕ) → slice_get columns c ≡ Some x → IsLeftBy runs moment j x (value_in row c)

-- a window has the first of these moments, with such a row of each
pub record ShowsLeft (columns : List ℕ) (moments : List PlannedMoment) (runs : List ShareRan) (done : ℕ) (window : Window) : Type 0 where
  pub long : length window.moments ≡ done
  pub moments_are : (j : ℕ) (moment : PlannedMoment) → j < done → slice_get moments j ≡ Some moment → slice_get window.moments j ≡ Some moment.at
  pub rows_are : (j : ℕ) (moment : PlannedMoment) → j < done → slice_get moments j ≡ Some moment → (row : List (Option Value)) × (slice_get window.rows j ≡ Some row) × IsRowOf columns runs moment j row

-- it ends behind the last of them, or with the fault of the first moment at which anything failed
abbrev pub ClosesAs : List PlannedMoment → List ShareRan → ℕ → Option Fault → Type 0
ClosesAs moments runs done None = done ≡ length moments
ClosesAs moments runs done (Some fault) = (moment : PlannedMoment) × (slice_get moments done ≡ Some moment) × (fault_of moment.at moment.site (told_by moment runs done) ≡ Some fault)

-- moments from n on that were planned, and run by shares of the uses, as a window shows them
pub record IsRunBy (s : Setting) (uses : List Use) (stages : Stages) (A : Assignment) (n : ℕ) (old course : Course) (count : ℕ) (runs : List ShareRan) (done : ℕ) (window : Window) : Type 0 where
  pub shares_are : AreSharesOf s uses stages.pure (shares_in runs)
  pub planned : HasCourse s uses stages A n course count
  pub ends : EndsSo old course count
  pub some : 0 < length course.moments
  pub ran : HaveRun s uses (take count course.moments) A n runs
  pub quiet : AreQuiet (take count course.moments) runs done
  pub shows : ShowsLeft (columns_of s.model.names) (take count course.moments) runs done window
  pub closes : ClosesAs (take count course.moments) runs done window.fault

-- what is kept before moment m of S: each share stands with the same base partitions, and so does the plan, with which sites were low
pub record IsBehind (uses : List Use) (stages : Stages) (runs : List ShareRan) (course : Course) (s : Setting) (S : Assignment) (m : ℕ) : Type 0 where
  pub shares_stand : (i : ℕ) (ran : ShareRan) → slice_get runs i ≡ Some ran → IsShareBefore s uses (uses_beside i (shares_in runs)) S m ran.new
  pub same : (i : ℕ) (ran : ShareRan) → slice_get runs i ≡ Some ran → pieces_of ran.new ≡ pieces_of ran.old
  pub pure : ArePure s stages.pure course.pure
  pub room : HaveRoom s course.moments
  pub plan_is : IsPlanBefore s S m course.plan
  pub lows : AreLows s m course.low
  pub were_low : WereLow s S m course.low
