-- Laws of a window that shares ran side by side.
use Rattle.std.specs.Prelude.{◌≡◌, ℕ, List, length, take, Some, slice_get}
use Rattle.flat_model.specs.Assignment.{Assignment}
use Rattle.flat_model.specs.Setting.{Setting}
use Rattle.flat_model.specs.Uses.{Use}
use Rattle.moment_body.specs.declared.model.ClockedModel.{ClockedModel}
use Rattle.moment_body.specs.Stages.{Stages, IsModelOf}
use Rattle.run_ahead.specs.Ahead.{Window, IsAloneBefore, HasRunOn}
use Rattle.share_join.specs.Shares.{Share, AreSharesOf}
use Rattle.share_moments.specs.Sharing.{share_of, AreShares, uses_beside}
use Rattle.share_run.specs.Standing.{Holding, IsShareBefore}
use Rattle.share_run.specs.Taking.{Values}
use Rattle.share_window.specs.Windows.{ArePlanned, IsShareWindow}
use Rattle.side_theory.specs.Typed.{AreValuedBefore}
use Rattle.window_plan.specs.declared.moment.PlannedMoment.{PlannedMoment}
use Rattle.window_plan.specs.Windows.{Course, HasCourse, EndsSo}
use Rattle.window_shares.specs.Running.{ClosesAs, IsRunBy, IsBehind}
use Rattle.window_shares.specs.Sharing.{ShareRan, shares_in, HaveRun, AreQuiet, HasWindow}
use Rattle.window_shares.specs.Stopping.{IsFirstStop, fault_at}

-- where shares of the uses were run over planned moments, something has these moments as they left them, up to the first at which anything failed
abbrev pub AcrossLaw : Type 0
AcrossLaw = (s : Setting) (uses : List Use) (stages : Stages) (moments : List PlannedMoment) (A : Assignment) (n : ℕ) (runs : List ShareRan) (count : ℕ)
    → AreSharesOf s uses stages.pure (shares_in runs) → IsAloneBefore s A n → ArePlanned s uses stages A n moments → (have : HaveRun s uses moments A n runs) → AreQuiet moments runs count
    → (U : Assignment) × HasWindow s uses stages.pure moments A n runs have count U

-- moments that were planned one behind the other are planned for shares
abbrev pub PlannedLaw : Type 0
PlannedLaw = (s : Setting) (uses : List Use) (stages : Stages) (A : Assignment) (n : ℕ) (course : Course) (count : ℕ) → HasCourse s uses stages A n course count → ArePlanned s uses stages A n (take count course.moments)

-- shares of which none names what another reaches may each run a window that was planned, where they stand before it
abbrev pub ShareLaw : Type 0
ShareLaw = (s : Setting) (uses : List Use) (stages : Stages) (A : Assignment) (n : ℕ) (model : ClockedModel) (old course : Course) (count : ℕ) (shares : List Share) → AreShares s uses stages.pure shares → IsModelOf s model
    → AreValuedBefore s A n → HasCourse s uses stages A n course count → EndsSo old course count
    → (i : ℕ) (h : Holding) (now : Values) → slice_get shares i ≡ Some (share_of h) → IsShareBefore s uses (uses_beside i shares) A n h → length now ≡ length s.model.names
    → IsShareWindow h model (take count course.moments) now s uses stages (uses_beside i shares) A n

-- where a window was run up to the first moment at which anything failed, it ends as what is told of this moment says
abbrev pub StopLaw : Type 0
StopLaw = (s : Setting) (uses : List Use) (moments : List PlannedMoment) (A : Assignment) (n : ℕ) (runs : List ShareRan) → HaveRun s uses moments A n runs
    → (done : ℕ) → IsFirstStop moments runs done → ClosesAs moments runs done (fault_at moments runs done)

-- what shares ran of a window that was planned is a window of a run, and where nothing failed what stands of its shares and its plan is kept
abbrev pub RunsLaw : Type 0
RunsLaw = (s : Setting) (uses : List Use) (stages : Stages) (A : Assignment) (n : ℕ) (old course : Course) (count : ℕ) (runs : List ShareRan) (done : ℕ) (window : Window)
    → IsAloneBefore s A n → IsRunBy s uses stages A n old course count runs done window → HasRunOn (IsBehind uses stages runs course) s A n window
