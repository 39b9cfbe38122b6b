-- What the steps of a moment stand on, and what they leave. This project's own.
use Rattle.std.specs.Prelude.{◌≡◌, ℕ, suc, Bool, List, ◌∷◌, length, Option, Some, slice_get}
use Rattle.sync_values.specs.declared.value.Value.{Value}
use Rattle.flat_model.specs.declared.clock.Moment.{Moment}
use Rattle.flat_model.specs.Values.{value_in, truth_in}
use Rattle.flat_model.specs.Assignment.{Assignment}
use Rattle.flat_model.specs.Given.{Row, with_row}
use Rattle.flat_model.specs.Meets.{MeetsBefore}
use Rattle.flat_model.specs.Moments.{moment_at}
use Rattle.flat_model.specs.Runnable.{IsRunnable}
use Rattle.flat_model.specs.Setting.{Setting, site_answer, class_ticks}
use Rattle.flat_model.specs.Uses.{Use}
use Rattle.moment_theory.specs.Pieces.{AreTakenAlone, AreBeside}
use Rattle.moment_theory.specs.Taken.{AreInputs, AreTaken}
use Rattle.first_failure.specs.declared.least.EquationFailing.{EquationFailing}
use Rattle.first_failure.specs.Turns.{FailsAmong, IsLeast}
use Rattle.moment_join.specs.Sites.{AnswerAlike}
use Rattle.moment_join.specs.Told.{earliest}
use Rattle.site_risings.specs.Risings.{answer_of}
use Rattle.moment_body.specs.declared.model.ClockedModel.{ClockedModel}
use Rattle.moment_body.specs.Stages.{Stages, IsModelOf, IsMoment}

-- the values of a moment by the numbers of names, as code has them
abbrev pub Values : Type 0
Values = List (Option Value)

-- what holds of an assignment before a moment of a setting
abbrev pub Standing : Type 1
Standing = Setting → Assignment → ℕ → Type 0

-- what holds of it at the moment, over the row that the pure uses left
abbrev pub Based : Type 1
Based = Setting → Assignment → ℕ → Row → Type 0

-- and over that row and the last one
abbrev pub Ended : Type 1
Ended = Setting → Assignment → ℕ → Row → Row → Type 0

-- the model of a setting, at a moment of it, with room for each name
pub record IsModelAt (s : Setting) (n : ℕ) (model : ClockedModel) (at : Moment) (now : Values) : Type 0 where
  pub runs : IsRunnable s
  pub model_is : IsModelOf s model
  pub here : moment_at s.instants n ≡ Some at
  pub wide : length now ≡ length s.model.names

-- it is so of some setting
abbrev pub CanFill : ClockedModel → Moment → Values → Type 0
CanFill model at old = (s : Setting) × (n : ℕ) × IsModelAt s n model at old

-- the values are those of the inputs, and no others
abbrev pub FillsInputs : ClockedModel → Moment → Values → Values → Type 0
FillsInputs model at old new = (s : Setting) (n : ℕ) → IsModelAt s n model at old → AreInputs s n (value_in new)

-- the values of the inputs at a moment, before any use is taken
pub record IsBefore (stages : Stages) (before : Standing) (model : ClockedModel) (inputs : Values) (s : Setting) (uses : List Use) (A : Assignment) (n : ℕ) : Type 0 where
  pub at : Moment
  pub moment : IsMoment s uses stages A n at
  pub model_is : IsModelOf s model
  pub wide : length inputs ≡ length s.model.names
  pub are : AreInputs s n (value_in inputs)
  pub stands : before s A n

-- it is so of some run
abbrev pub CanTakePure : Stages → Standing → ClockedModel → Values → Type 0
CanTakePure stages before model inputs = (s : Setting) × (uses : List Use) × (A : Assignment) × (n : ℕ) × IsBefore stages before model inputs s uses A n

-- the pure uses were taken, and the least of their equations that fails is told
pub record HasTakenPure (stages : Stages) (after : Based) (inputs base : Values) (told : Option EquationFailing) (s : Setting) (uses : List Use) (A : Assignment) (n : ℕ) : Type 0 where
  pub taken : AreTaken s A n stages.pure (value_in inputs) (value_in base)
  pub told_is : IsLeast (FailsAmong s uses A n stages.pure (value_in base)) told
  pub based : after s A n (value_in base)

-- whatever run it is
abbrev pub TakesPure : Stages → Standing → ClockedModel → Values → Based → Values → Option EquationFailing → Type 0
TakesPure stages before model inputs after base told =
    (s : Setting) (uses : List Use) (A : Assignment) (n : ℕ) → IsBefore stages before model inputs s uses A n → HasTakenPure stages after inputs base told s uses A n

-- what the pure uses left, with the answers of the sites over it and the ticks of the classes
pub record IsBetween (stages : Stages) (before : Based) (model : ClockedModel) (at : Moment) (ticks : ℕ → Bool) (answers : List (Option Bool)) (base : Values)
    (s : Setting) (uses : List Use) (A : Assignment) (n : ℕ) : Type 0 where
  pub moment : IsMoment s uses stages A n at
  pub model_is : IsModelOf s model
  pub wide : length base ≡ length s.model.names
  pub inputs : Row
  pub are : AreInputs s n inputs
  pub taken : AreTaken s A n stages.pure inputs (value_in base)
  pub based : before s A n (value_in base)
  pub answers_are : (site : ℕ) → answer_of answers site ≡ truth_in (site_answer s (with_row A n (value_in base)) site n)
  pub ticks_are : (class : ℕ) → ticks class ≡ class_ticks s (with_row A n (value_in base)) (Some class) n

-- it is so of some run
abbrev pub CanTakeRest : Stages → Based → ClockedModel → Moment → (ℕ → Bool) → List (Option Bool) → Values → Type 0
CanTakeRest stages before model at ticks answers base =
    (s : Setting) × (uses : List Use) × (A : Assignment) × (n : ℕ) × IsBetween stages before model at ticks answers base s uses A n

-- each piece was taken by itself from what the pure uses left, the waiting uses from a row with the values of all pieces, and of what fails the least equation is told
pub record HasTakenRest (stages : Stages) (after : Ended) (base last : Values) (told : Option EquationFailing) (s : Setting) (uses : List Use) (A : Assignment) (n : ℕ) : Type 0 where
  pub owns : ℕ → Row
  pub row : Row
  pub each : List (Option EquationFailing)
  pub behind : Option EquationFailing
  pub alone : AreTakenAlone s A n (value_in base) owns stages.pieces
  pub beside : AreBeside (value_in base) owns stages.pieces row
  pub waited : AreTaken s A n stages.waiting row (value_in last)
  pub each_told : (i : ℕ) (piece : List Use) → slice_get stages.pieces i ≡ Some piece → (failing : Option EquationFailing) × (slice_get each i ≡ Some failing) × IsLeast (FailsAmong s uses A n piece (owns i)) failing
  pub no_more : (i : ℕ) (failing : Option EquationFailing) → slice_get each i ≡ Some failing → (piece : List Use) × (slice_get stages.pieces i ≡ Some piece)
  pub behind_told : IsLeast (FailsAmong s uses A n stages.waiting (value_in last)) behind
  pub told_is : told ≡ earliest (behind ∷ each)
  pub ended : after s A n (value_in base) (value_in last)

-- whatever run it is
abbrev pub TakesRest : Stages → Based → ClockedModel → Moment → (ℕ → Bool) → List (Option Bool) → Values → Ended → Values → Option EquationFailing → Type 0
TakesRest stages before model at ticks answers base after last told =
    (s : Setting) (uses : List Use) (A : Assignment) (n : ℕ) → IsBetween stages before model at ticks answers base s uses A n → HasTakenRest stages after base last told s uses A n

-- the last row of a moment, with which the assignment meets the model, sites answering as over what the pure uses left
pub record IsBehind (stages : Stages) (before : Ended) (last : Values) (s : Setting) (uses : List Use) (A : Assignment) (n : ℕ) (base : Row) : Type 0 where
  pub at : Moment
  pub moment : IsMoment s uses stages A n at
  pub wide : length last ≡ length s.model.names
  pub ended : before s A n base (value_in last)
  pub alike : AnswerAlike s A n base (value_in last)
  pub meets : MeetsBefore s (with_row A n (value_in last)) (suc n)

-- it is so of some run
abbrev pub CanKeep : Stages → Ended → Values → Type 0
CanKeep stages before last = (s : Setting) × (uses : List Use) × (A : Assignment) × (n : ℕ) × (base : Row) × IsBehind stages before last s uses A n base

-- what is kept is that of the assignment with the last row, before the next moment
abbrev pub Keeps : Stages → Ended → Values → Standing → Type 0
Keeps stages before last after =
    (s : Setting) (uses : List Use) (A : Assignment) (n : ℕ) (base : Row) → IsBehind stages before last s uses A n base → after s (with_row A n (value_in last)) (suc n)
