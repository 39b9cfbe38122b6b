-- A share over the moments of a window. This project's own.
use Rattle.std.specs.Global.{Global}
use Rattle.std.specs.declared.vec.Vec.{Vec}
use Rattle.std.specs.Prelude.{◌≡◌, ℕ, suc, ◌+◌, ◌<◌, List, [], length, Option, Some, None, slice_get}
use Rattle.sync_values.specs.declared.value.Value.{Value}
use Rattle.first_failure.specs.declared.least.EquationFailing.{EquationFailing}
use Rattle.flat_model.specs.Values.{value_in}
use Rattle.flat_model.specs.Assignment.{Assignment}
use Rattle.flat_model.specs.Given.{Row}
use Rattle.flat_model.specs.Setting.{Setting}
use Rattle.flat_model.specs.Uses.{Use}
use Rattle.fork_steps.specs.declared.slot.Slot.{Slot}
use Rattle.moment_body.specs.declared.model.ClockedModel.{ClockedModel}
use Rattle.moment_body.specs.Stages.{Stages, IsModelOf}
use Rattle.moment_steps.specs.declared.piece.Piece.{Piece}
use Rattle.moment_theory.specs.Free.{IsReachedBy}
use Rattle.moment_theory.specs.Going.{AgreeBefore}
use Rattle.share_run.specs.Shares.{IsShareOf}
use Rattle.share_run.specs.Standing.{Holding, IsShareBefore, division_of, pieces_of}
use Rattle.share_run.specs.Taking.{Values, plan_of, HasTakenShare}
use Rattle.side_theory.specs.Typed.{AreValuedBefore}
use Rattle.window_plan.specs.declared.moment.PlannedMoment.{PlannedMoment}
use Rattle.window_plan.specs.Moments.{GoesBy, IsPlannedAt, IsQuiet}

-- each moment is planned for whatever agrees with A before n and goes by the moments before it
abbrev pub ArePlanned : Setting → List Use → Stages → Assignment → ℕ → List PlannedMoment → Type 0
ArePlanned s uses stages A n moments =
    (S : Assignment) → AgreeBefore A S n → (j : ℕ) (moment : PlannedMoment) → slice_get moments j ≡ Some moment → GoesBy s S n moments j → IsPlannedAt s uses stages S (n + j) moment

-- U goes by the first moments of a window as a share left them: names have values before what comes behind them, sites answer as they are planned, and what the others do not reach has the values of these rows
pub record GoesByShare (s : Setting) (others : List Use) (U : Assignment) (n : ℕ) (moments : List PlannedMoment) (rows : ℕ → Row) (count : ℕ) : Type 0 where
  pub goes : GoesBy s U n moments count
  pub values : (j x : ℕ) → j < count → (IsReachedBy x others → ⊥) → U x (n + j) ≡ rows j x

-- a share before the moments of a window, of which nothing that rests on no clock fails before the last one
pub record IsShareWindow (h : Holding) (model : ClockedModel) (moments : List PlannedMoment) (now : Values) (s : Setting) (uses : List Use) (stages : Stages) (others : List Use) (A : Assignment) (n : ℕ) : Type 0 where
  pub division : IsShareOf s uses (division_of stages.pure others h)
  pub model_is : IsModelOf s model
  pub valued : AreValuedBefore s A n
  pub before : IsShareBefore s uses others A n h
  pub planned : ArePlanned s uses stages A n moments
  pub quiet : (j : ℕ) (moment : PlannedMoment) → suc j < length moments → slice_get moments j ≡ Some moment → IsQuiet moment
  pub wide : length now ≡ length s.model.names

abbrev pub CanRunShare : Holding → ClockedModel → List PlannedMoment → Values → Type 0
CanRunShare h model moments now =
    (s : Setting) × (uses : List Use) × (stages : Stages) × (others : List Use) × (A : Assignment) × (n : ℕ) × IsShareWindow h model moments now s uses stages others A n

-- a share was taken at a moment, whatever it held then
pub record WasTaken (h : Holding) (moment : PlannedMoment) (last : Values) (told : Option EquationFailing) (s : Setting) (uses others : List Use) (U : Assignment) (m : ℕ) : Type 0 where
  pub held : Holding
  pub slots : List (Slot Piece)
  pub pieces : pieces_of held ≡ pieces_of h
  pub waiting : held.waiting ≡ h.waiting
  pub taken : HasTakenShare held slots (plan_of moment) moment.base.items last told s uses others U m

-- a share was run over the first moments of a window: each was taken for whatever goes by those before it, the rows show its own names, at the moment behind them its failure is told, or none came and it stands behind them for whatever goes by all
pub record HasRunShare (h new : Holding) (moments : List PlannedMoment) (own : List ℕ) (rows : ℕ → List (Option Value)) (done : ℕ) (told : Option EquationFailing) (s : Setting) (uses others : List Use) (A : Assignment) (n : ℕ) : Type 0 where
  pub same : pieces_of new ≡ pieces_of h
  pub lasts : ℕ → Values
  pub taken : (U : Assignment) → AgreeBefore A U n → (j : ℕ) (moment : PlannedMoment) → j < done → slice_get moments j ≡ Some moment → GoesByShare s others U n moments (λ i. value_in (lasts i)) j → WasTaken h moment (lasts j) None s uses others U (n + j)
  pub shown : (j at name : ℕ) → j < done → slice_get own at ≡ Some name → at < length (rows j) → value_in (rows j) at ≡ value_in (lasts j) name
  pub fails : (failing : EquationFailing) → told ≡ Some failing → (U : Assignment) → AgreeBefore A U n → (moment : PlannedMoment) → slice_get moments done ≡ Some moment → GoesByShare s others U n moments (λ i. value_in (lasts i)) done → WasTaken h moment (lasts done) told s uses others U (n + done)
  pub within : (failing : EquationFailing) → told ≡ Some failing → done < length moments
  pub whole : told ≡ None → done ≡ length moments
  pub stands : told ≡ None → (U : Assignment) → AgreeBefore A U n → GoesByShare s others U n moments (λ i. value_in (lasts i)) done → IsShareBefore s uses others U (n + done) new

-- the row in a place, none where there is no place
abbrev pub row_from : Option (Vec (Option Value) Global) → List (Option Value)
row_from None = []
row_from (Some row) = row.items

-- each row is as wide as it was
abbrev pub AreAsWide : List (Vec (Option Value) Global) → List (Vec (Option Value) Global) → Type 0
AreAsWide old new = (j : ℕ) → length (row_from (slice_get new j)) ≡ length (row_from (slice_get old j))

-- whatever run it is
abbrev pub RunsShare : Holding → Holding → ClockedModel → List PlannedMoment → Values → List ℕ → List (Vec (Option Value) Global) → ℕ → Option EquationFailing → Type 0
RunsShare h new model moments now own rows done told =
    (s : Setting) (uses : List Use) (stages : Stages) (others : List Use) (A : Assignment) (n : ℕ) → IsShareWindow h model moments now s uses stages others A n
    → HasRunShare h new moments own (λ j. row_from (slice_get rows j)) done told s uses others A n
