-- A window of moments that shares ran side by side. This project's own.
use Rattle.std.specs.Prelude.{◌≡◌, ℕ, ◌+◌, ◌<◌, ◌≤◌, ◌==◌, List, ◌∷◌, length, map, Option, Some, None, slice_get, if◌then◌else◌}
use Rattle.sync_values.specs.declared.value.Value.{Value}
use Rattle.first_failure.specs.declared.least.EquationFailing.{EquationFailing}
use Rattle.flat_model.specs.Values.{value_in}
use Rattle.flat_model.specs.Assignment.{Assignment}
use Rattle.flat_model.specs.Setting.{Setting}
use Rattle.flat_model.specs.Uses.{Use}
use Rattle.moment_body.specs.Stages.{Stages}
use Rattle.moment_join.specs.Told.{earliest}
use Rattle.moment_theory.specs.Free.{IsReachedBy}
use Rattle.moment_theory.specs.Going.{AgreeBefore}
use Rattle.run_ahead.specs.Ahead.{IsAloneBefore}
use Rattle.share_join.specs.Shares.{Share, own_uses, all_pieces, all_waiting, all_uses}
use Rattle.share_moments.specs.Sharing.{share_of, uses_beside}
use Rattle.share_run.specs.Standing.{Holding, IsShareBefore}
use Rattle.share_window.specs.Windows.{GoesByShare, HasRunShare}
use Rattle.window_join.specs.Moments.{IsRunAt, AreRun}
use Rattle.window_plan.specs.declared.moment.PlannedMoment.{PlannedMoment}
use Rattle.window_plan.specs.Moments.{base_of, GoesBy, IsQuiet}

-- a share that was run over a window: what it had before it and has behind it, the names that its rows show, these rows, at how many moments it went well, and its failure at the one behind them
pub record ShareRan : Type 0 where
  pub old : Holding
  pub new : Holding
  pub own : List ℕ
  pub rows : ℕ → List (Option Value)
  pub done : ℕ
  pub told : Option EquationFailing

-- its uses
abbrev pub share_in : ShareRan → Share
share_in ran = share_of ran.old

abbrev pub shares_in : List ShareRan → List Share
shares_in runs = map share_in runs

-- the stages of a moment that several shares take behind the pure uses
abbrev pub stages_by : List Use → List Share → Stages
stages_by pure shares = record { pure = pure; pieces = all_pieces shares; waiting = all_waiting shares }

-- each was run over the moments from n on, beside all others
abbrev pub HaveRun : Setting → List Use → List PlannedMoment → Assignment → ℕ → List ShareRan → Type 0
HaveRun s uses moments A n runs = (i : ℕ) (ran : ShareRan) → slice_get runs i ≡ Some ran
    → HasRunShare ran.old ran.new moments ran.own ran.rows ran.done ran.told s uses (uses_beside i (shares_in runs)) A n

-- nothing failed at the first moments of a window: no site and no pure use, and no share stopped at one
pub record AreQuiet (moments : List PlannedMoment) (runs : List ShareRan) (count : ℕ) : Type 0 where
  pub within : count ≤ length moments
  pub quiet : (j : ℕ) (moment : PlannedMoment) → j < count → slice_get moments j ≡ Some moment → IsQuiet moment
  pub went : (i : ℕ) (ran : ShareRan) → slice_get runs i ≡ Some ran → count ≤ ran.done

-- the failure of a share at a moment, where it stopped there
abbrev pub told_at : ℕ → ShareRan → Option EquationFailing
told_at j ran = if ran.done == j then ran.told else None

-- the earliest failure at a moment, of the pure uses and of all shares
abbrev pub told_by : PlannedMoment → List ShareRan → ℕ → Option EquationFailing
told_by moment runs j = earliest (moment.told ∷ map (told_at j) runs)

-- U has the first moments of a window as the shares left them: each was run, the one behind them was run with what is told of it, and where there is none all shares stand
pub record HasWindow (s : Setting) (uses pure : List Use) (moments : List PlannedMoment) (A : Assignment) (n : ℕ) (runs : List ShareRan) (have : HaveRun s uses moments A n runs) (count : ℕ) (U : Assignment) : Type 0 where
  pub agrees : AgreeBefore A U n
  pub alone : IsAloneBefore s U (n + count)
  pub goes : GoesBy s U n moments count
  pub beside : (i : ℕ) (ran : ShareRan) (found : slice_get runs i ≡ Some ran) → GoesByShare s (uses_beside i (shares_in runs)) U n moments (λ j. value_in ((have i ran found).lasts j)) count
  pub shown : (i : ℕ) (ran : ShareRan) (j at name : ℕ) → slice_get runs i ≡ Some ran → j < count → slice_get ran.own at ≡ Some name → at < length (ran.rows j) → IsReachedBy name (own_uses (share_in ran))
      → U name (n + j) ≡ value_in (ran.rows j) at
  pub rest : (j x : ℕ) (moment : PlannedMoment) → j < count → slice_get moments j ≡ Some moment → (IsReachedBy x (all_uses (shares_in runs)) → ⊥) → U x (n + j) ≡ base_of moment x
  pub run : AreRun s uses (stages_by pure (shares_in runs)) U n count
  pub stops : (moment : PlannedMoment) → slice_get moments count ≡ Some moment → IsRunAt s uses (stages_by pure (shares_in runs)) U (n + count) moment.site (told_by moment runs count)
  pub stand : count ≡ length moments → (i : ℕ) (ran : ShareRan) → slice_get runs i ≡ Some ran → IsShareBefore s uses (uses_beside i (shares_in runs)) U (n + count) ran.new
