-- What a moment begins with.
use Rattle.std.proofs.Common.{◌≡◌, ap, ◌∙◌, ℕ, length, Some}
use Rattle.flat_model.specs.declared.clock.Moment.{Moment}
use Rattle.flat_model.specs.Assignment.{Assignment}
use Rattle.flat_model.specs.Meets.{MeetsBefore}
use Rattle.flat_model.specs.Moments.{moment_at}
use Rattle.flat_model.specs.Runnable.{IsRunnable}
use Rattle.flat_model.specs.Setting.{Setting}
use Rattle.tick_plan.specs.Plans.{Planned}
use Rattle.run_moments.specs.Moving.{IsThere}
use Rattle.moment_body.specs.declared.model.ClockedModel.{ClockedModel}
use Rattle.moment_body.specs.declared.sheet.Sheet.{Sheet}
use Rattle.moment_body.specs.Kept.{IsKeptBy}
use Rattle.moment_body.specs.Stages.{Stages, IsMoment}
use Rattle.moment_body.specs.Stepping.{Values, Standing, IsModelAt, CanFill, FillsInputs, IsBefore, CanTakePure}

module _ (stages : Stages) (stands : Standing) (model : ClockedModel) (sheet : Sheet) (s : Setting) (A : Assignment) (n : ℕ) (kept : IsKeptBy stages stands model sheet s A n) (at : Moment) (here : moment_at s.instants n ≡ Some at) where
  pub runs : IsRunnable s
  runs = kept.staged.are.ordered.runs

  pub model_at : (old : Values) → old ≡ sheet.now.items → IsModelAt s n model at old
  model_at old old_is = record { runs = runs; model_is = kept.model_is; here = here; wide = ap length old_is ∙ kept.sheet_is.now }

  pub moment_of : MeetsBefore s A n → IsMoment s kept.uses stages A n at
  moment_of meets = record { staged = kept.staged; meets = meets; here = here }

  -- the inputs are filled
  pub before_at : MeetsBefore s A n → (old inputs : Values) → old ≡ sheet.now.items → length inputs ≡ length old → FillsInputs model at old inputs → IsBefore stages stands model inputs s kept.uses A n
  before_at meets old inputs old_is long fills = record {
    at = at;
    moment = moment_of meets;
    model_is = kept.model_is;
    wide = long ∙ ap length old_is ∙ kept.sheet_is.now;
    are = fills s n (model_at old old_is);
    stands = kept.stands_for;
  }

module _ (stages : Stages) (stands : Standing) (model : ClockedModel) (sheet : Sheet) (taken : Planned) (at : Moment) (there : IsThere (IsKeptBy stages stands model sheet) taken at) (old : Values) (old_is : old ≡ sheet.now.items) where
  pub can_take_pure : (inputs : Values) → length inputs ≡ length old → FillsInputs model at old inputs → CanTakePure stages stands model inputs
  can_take_pure inputs long fills =
      let (s, A, n, kept, plan, here, alone) = there in
      (s, kept.uses, A, n, before_at stages stands model sheet s A n kept at here alone.meets old inputs old_is long fills)
