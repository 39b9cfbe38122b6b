-- Laws of a window of moments.
use Rattle.std.specs.Prelude.{◌≡◌, ℕ, ◌+◌, ◌<◌, List, length, Option, Some, None}
use Rattle.flat_model.specs.declared.fault.Fault.{Fault}
use Rattle.flat_model.specs.Assignment.{Assignment}
use Rattle.flat_model.specs.Faults.{IsFirstFault}
use Rattle.flat_model.specs.Given.{Row}
use Rattle.flat_model.specs.Meets.{Meets}
use Rattle.flat_model.specs.Moments.{moment_at}
use Rattle.flat_model.specs.Setting.{Setting}
use Rattle.flat_model.specs.Uses.{Use}
use Rattle.moment_theory.specs.Going.{AgreeBefore}
use Rattle.first_failure.specs.declared.least.EquationFailing.{EquationFailing}
use Rattle.run_ahead.specs.Ahead.{Window, IsAloneBefore, ShowsFrom, HasRunOn}
use Rattle.site_risings.specs.declared.answers.SiteFailing.{SiteFailing}
use Rattle.moment_moves.specs.Moments.{fault_of}
use Rattle.moment_body.specs.Stages.{Stages}
use Rattle.window_join.specs.Moments.{windowed, IsRunAt, AreRun}

-- an assignment with the rows of a window has them, and is as it was before
abbrev pub RowsLaw : Type 0
RowsLaw = (A : Assignment) (n : ℕ) (rows : ℕ → Row) → AgreeBefore A (windowed A n rows) n × ((x j : ℕ) → windowed A n rows x (n + j) ≡ rows j x)

-- where nothing failed at so many moments, U alone meets the model behind them
abbrev pub AloneLaw : Type 0
AloneLaw = (s : Setting) (uses : List Use) (stages : Stages) (A U : Assignment) (n count : ℕ) → AgreeBefore A U n → IsAloneBefore s A n → AreRun s uses stages U n count → IsAloneBefore s U (n + count)

-- what fails at a moment is the first fault, and nothing meets the model up to it
abbrev pub FailsLaw : Type 0
FailsLaw = (s : Setting) (uses : List Use) (stages : Stages) (U : Assignment) (m : ℕ) (site : Option SiteFailing) (told : Option EquationFailing) (fault : Fault) → (is : IsRunAt s uses stages U m site told) → fault_of is.at site told ≡ Some fault
    → (moment_at s.instants m ≡ Some fault.moment) × IsFirstFault s U m fault.place fault.kind × ((T : Assignment) → Meets s T m → ⊥)

-- behind a window nothing is asked, or the next moment was run and the fault is that of what fails at it
abbrev pub Closes : Setting → List Use → Stages → Assignment → ℕ → Option Fault → Type 0
Closes s uses stages U m None = Unit {0}
Closes s uses stages U m (Some fault) = (site : Option SiteFailing) × (told : Option EquationFailing) × (is : IsRunAt s uses stages U m site told) × (fault_of is.at site told ≡ Some fault)

-- whatever is kept
abbrev pub Anything : Setting → Assignment → ℕ → Type 0
Anything s S m = Unit {0}

-- moments that were run of U, shown from n on, are a window that was run from what A left, but for what is kept
abbrev pub WindowLaw : Type 0
WindowLaw = (s : Setting) (uses : List Use) (stages : Stages) (A U : Assignment) (n : ℕ) (window : Window) → AgreeBefore A U n → IsAloneBefore s A n
    → AreRun s uses stages U n (length window.moments) → ShowsFrom s U n 0 window
    → (IsAloneBefore s U (n + length window.moments) → Closes s uses stages U (n + length window.moments) window.fault)
    → (length window.moments ≡ 0 → window.fault ≡ None → length s.instants < n) → HasRunOn Anything s A n window
