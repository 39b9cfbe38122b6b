-- What a run puts on out and err. This project's own.
use Rattle.std.specs.Prelude.{◌≡◌, ℕ, ◌+◌, ◌-◌, List, [], ◌++◌, codes, decimal, Some, length, take}
use Rattle.sync_values.specs.declared.value.Fail.{Fail}
use Rattle.sync_values.specs.declared.value.Fail.TheVariants as fail
use Rattle.rational_time.specs.Fraction.{instant_text}
use Rattle.flat_model.specs.declared.clock.Moment.{Moment}
use Rattle.flat_model.specs.declared.clock.Moment.TheVariants.{Initial, At}
use Rattle.flat_model.specs.declared.fault.FaultPlace.{FaultPlace}
use Rattle.flat_model.specs.declared.fault.FaultPlace.TheVariants.{Equation, Site}
use Rattle.flat_model.specs.Assignment.{Assignment}
use Rattle.flat_model.specs.Moments.{moment_at}
use Rattle.flat_model.specs.Setting.{Setting}
use Rattle.flat_model.specs.Meets.{Meets}
use Rattle.flat_model.specs.Faults.{IsFirstFault}
use Rattle.flat_model.specs.Trace.{trace_text}

abbrev pub kind_text : Fail → List ℕ
kind_text fail.Divide = codes "divide"
kind_text fail.TooLarge = codes "too-large"

abbrev pub moment_text : Moment → List ℕ
moment_text Initial = codes "initial"
moment_text (At t) = instant_text t

-- equations and clocks are printed from 1
abbrev pub place_text : FaultPlace → List ℕ
place_text (Equation i) = codes "equation " ++ decimal (i + 1)
place_text (Site i) = codes "clock " ++ decimal (i + 1)

abbrev pub fault_line : Moment → FaultPlace → Fail → List ℕ
fault_line moment place kind = codes "fault " ++ kind_text kind ++ codes " at " ++ moment_text moment ++ codes " in " ++ place_text place ++ codes "\n"

-- out has the trace of an assignment that meets the model up to the last moment
pub record IsWholeRun (s : Setting) (out err : List ℕ) : Type 0 where
  pub assignment : Assignment
  pub meets : Meets s assignment (length s.instants)
  pub out_is : out ≡ trace_text s.model.names assignment s.instants
  pub err_is : err ≡ []

-- out has the trace up to the moment before the first fault, and err names the fault
pub record IsFaultedRun (s : Setting) (out err : List ℕ) : Type 0 where
  pub assignment : Assignment
  pub moment : ℕ
  pub at : Moment
  pub place : FaultPlace
  pub kind : Fail
  pub found : moment_at s.instants moment ≡ Some at
  pub fault : IsFirstFault s assignment moment place kind
  pub out_is : out ≡ trace_text s.model.names assignment (take (moment - 1) s.instants)
  pub err_is : err ≡ fault_line at place kind
