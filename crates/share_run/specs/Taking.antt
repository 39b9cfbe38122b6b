-- One moment of a share. This project's own.
use Rattle.std.specs.Prelude.{◌≡◌, ℕ, suc, Bool, List, ◌∷◌, length, map, Option, Some, None, slice_get}
use Rattle.sync_values.specs.declared.value.Value.{Value}
use Rattle.first_failure.specs.declared.least.EquationFailing.{EquationFailing}
use Rattle.first_failure.specs.Turns.{FailsAmong, IsLeast}
use Rattle.flat_model.specs.declared.clock.Moment.{Moment}
use Rattle.flat_model.specs.Values.{value_in, truth_in}
use Rattle.flat_model.specs.Assignment.{Assignment}
use Rattle.flat_model.specs.Given.{Row, with_row}
use Rattle.flat_model.specs.Moments.{moment_at}
use Rattle.flat_model.specs.Setting.{Setting, site_answer, class_ticks}
use Rattle.flat_model.specs.Uses.{Use}
use Rattle.fork_steps.specs.declared.slot.Slot.{Slot}
use Rattle.moment_body.specs.declared.model.ClockedModel.{ClockedModel}
use Rattle.moment_body.specs.Stages.{IsModelOf}
use Rattle.moment_join.specs.Told.{earliest}
use Rattle.moment_moves.specs.Moments.{IsFirstSite}
use Rattle.moment_steps.specs.declared.piece.Piece.{Piece}
use Rattle.moment_steps.specs.Settled.{own_uses}
use Rattle.moment_steps.specs.Ticked.{row_ticks}
use Rattle.moment_theory.specs.Free.{IsReachedBy}
use Rattle.moment_theory.specs.Going.{AgreeBefore}
use Rattle.moment_theory.specs.Pieces.{AreTakenAlone, AreBeside}
use Rattle.moment_theory.specs.Taken.{AreInputs, AreTaken}
use Rattle.partition_step.specs.Parts.{StandsFor}
use Rattle.side_theory.specs.Typed.{AreValuedAt, AreValuedBefore}
use Rattle.site_risings.specs.Risings.{answer_of}
use Rattle.share_run.specs.Shares.{IsShareOf}
use Rattle.share_run.specs.Standing.{Holding, IsShareBefore, IsShareSlot, division_of, pieces_of}
use Rattle.tree_step.specs.Starts.{uses_of}
use Rattle.window_plan.specs.declared.moment.PlannedMoment.{PlannedMoment}

-- the values of a moment by the numbers of names, as code has them
abbrev pub Values : Type 0
Values = List (Option Value)

-- what is planned of a moment: its instant, which classes tick and what sites answer
pub record Plan : Type 0 where
  pub at : Moment
  pub ticks : ℕ → Bool
  pub answers : List (Option Bool)

abbrev pub plan_of : PlannedMoment → Plan
plan_of moment = record { at = moment.at; ticks = row_ticks moment.ticks.items; answers = moment.answers.items }

-- a share before moment n of an assignment whose names have values before it, with what the pure uses left and what is planned over that
pub record IsShareAt (h : Holding) (model : ClockedModel) (plan : Plan) (base : Values) (s : Setting) (uses pure others : List Use) (A : Assignment) (n : ℕ) : Type 0 where
  pub division : IsShareOf s uses (division_of pure others h)
  pub model_is : IsModelOf s model
  pub here : moment_at s.instants n ≡ Some plan.at
  pub valued : AreValuedBefore s A n
  pub wide : length base ≡ length s.model.names
  pub inputs : Row
  pub are : AreInputs s n inputs
  pub taken : AreTaken s A n pure inputs (value_in base)
  pub answers_are : (site : ℕ) → answer_of plan.answers site ≡ truth_in (site_answer s (with_row A n (value_in base)) site n)
  pub ticks_are : (class : ℕ) → plan.ticks class ≡ class_ticks s (with_row A n (value_in base)) (Some class) n
  pub before : IsShareBefore s uses others A n h

-- it is so of some assignment
abbrev pub CanTakeShare : Holding → ClockedModel → Plan → Values → Type 0
CanTakeShare h model plan base = (s : Setting) × (uses : List Use) × (pure : List Use) × (others : List Use) × (A : Assignment) × (n : ℕ) × IsShareAt h model plan base s uses pure others A n

-- T goes on from A at n with the values of a row for all names but those that the others reach, and the classes that are planned tick
pub record GoesOnBeside (s : Setting) (others : List Use) (A : Assignment) (n : ℕ) (row : Row) (ticks : ℕ → Bool) (T : Assignment) : Type 0 where
  pub agrees : AgreeBefore A T n
  pub meets : AreValuedAt s T n
  pub values : (x : ℕ) → (IsReachedBy x others → ⊥) → T x n ≡ row x
  pub ticks_are : (class : ℕ) → ticks class ≡ class_ticks s T (Some class) n

-- each base partition of the share was taken by itself from what the pure uses left, the waiting uses from a row with the values of all of these, the least equation that fails is told, and where none fails each part stands before the next moment for whatever goes on with the row that is left
pub record HasTakenShare (h : Holding) (slots : List (Slot Piece)) (plan : Plan) (base last : Values) (told : Option EquationFailing) (s : Setting) (uses others : List Use) (A : Assignment) (n : ℕ) : Type 0 where
  pub owns : ℕ → Row
  pub row : Row
  pub each : List (Option EquationFailing)
  pub behind : Option EquationFailing
  pub alone : AreTakenAlone s A n (value_in base) owns (pieces_of h)
  pub beside : AreBeside (value_in base) owns (pieces_of h) row
  pub waited : AreTaken s A n (uses_of h.waiting) row (value_in last)
  pub each_told : (i : ℕ) (piece : List Use) → slice_get (pieces_of h) i ≡ Some piece → (failing : Option EquationFailing) × (slice_get each i ≡ Some failing) × IsLeast (FailsAmong s uses A n piece (owns i)) failing
  pub no_more : (i : ℕ) (failing : Option EquationFailing) → slice_get each i ≡ Some failing → (piece : List Use) × (slice_get (pieces_of h) i ≡ Some piece)
  pub behind_told : IsLeast (FailsAmong s uses A n (uses_of h.waiting) (value_in last)) behind
  pub told_is : told ≡ earliest (behind ∷ each)
  pub same : map own_uses slots ≡ pieces_of h
  pub slots_are : (i : ℕ) (slot : Slot Piece) → slice_get slots i ≡ Some slot → IsShareSlot s uses h.classes h.places i slot
  pub goes_on : told ≡ None → (T : Assignment) → GoesOnBeside s others A n (value_in last) plan.ticks T → (i : ℕ) (slot : Slot Piece) → slice_get slots i ≡ Some slot → StandsFor s T (suc n) slot.piece.part

-- whatever assignment it is
abbrev pub TakesShare : Holding → ClockedModel → Plan → List (Slot Piece) → Values → Values → Option EquationFailing → Type 0
TakesShare h model plan slots base last told =
    (s : Setting) (uses pure others : List Use) (A : Assignment) (n : ℕ) → IsShareAt h model plan base s uses pure others A n → HasTakenShare h slots plan base last told s uses others A n

-- where none failed, the share is that of whatever goes on with the row that is left, before the next moment
abbrev pub KeepsShare : Holding → Holding → ClockedModel → Plan → Values → Values → Option EquationFailing → Type 0
KeepsShare h new model plan base last told = told ≡ None → (s : Setting) (uses pure others : List Use) (A : Assignment) (n : ℕ) → IsShareAt h model plan base s uses pure others A n
    → (T : Assignment) → GoesOnBeside s others A n (value_in last) plan.ticks T → IsShareBefore s uses others T (suc n) new

-- over what the pure uses left neither one of them fails nor a site
pub record IsQuietOver (s : Setting) (uses pure : List Use) (A : Assignment) (n : ℕ) (base : Row) : Type 0 where
  pub pure_told : IsLeast (FailsAmong s uses A n pure base) None
  pub site_told : IsFirstSite s (with_row A n base) n None

-- something goes on with a row, whatever the others give, and its sites answer as over what the pure uses left
pub record HasNext (s : Setting) (others : List Use) (A : Assignment) (n : ℕ) (base row : Row) (ticks : ℕ → Bool) : Type 0 where
  pub next : Assignment
  pub goes_on : GoesOnBeside s others A n row ticks next
  pub alike : (site : ℕ) → site_answer s (with_row A n base) site n ≡ site_answer s next site n

-- so it is where no pure use, no site and no use of the share fails
abbrev pub GoesOnShare : Holding → ClockedModel → Plan → Values → Values → Option EquationFailing → Type 0
GoesOnShare h model plan base last told = told ≡ None → (s : Setting) (uses pure others : List Use) (A : Assignment) (n : ℕ) → IsShareAt h model plan base s uses pure others A n
    → IsQuietOver s uses pure A n (value_in base) → HasNext s others A n (value_in base) (value_in last) plan.ticks
