-- What was run over the parts of a share was run over the share.
use Rattle.std.proofs.Common.{◌≡◌, sym, subst, ℕ, List, Option}
use Rattle.std.specs.Global.{Global}
use Rattle.std.specs.declared.vec.Vec.{Vec}
use Rattle.sync_values.specs.declared.value.Value.{Value}
use Rattle.first_failure.specs.declared.least.EquationFailing.{EquationFailing}
use Rattle.moment_body.specs.declared.model.ClockedModel.{ClockedModel}
use Rattle.share_run.specs.Standing.{Holding}
use Rattle.share_run.specs.Taking.{Values}
use Rattle.share_window.specs.Windows.{CanRunShare, RunsShare}
use Rattle.window_plan.specs.declared.moment.PlannedMoment.{PlannedMoment}

pub may_carry : (model : ClockedModel) (moments : List PlannedMoment) (h k : Holding) (now shown : Values) → h ≡ k → now ≡ shown → CanRunShare k model moments shown → CanRunShare h model moments now
may_carry model moments h k now shown same seen can =
    subst (λ z. CanRunShare z model moments now) (sym same) (subst (λ z. CanRunShare k model moments z) (sym seen) can)

pub carried : (model : ClockedModel) (moments : List PlannedMoment) (done : ℕ) (told : Option EquationFailing) (h k new newer : Holding) (now shown : Values) (own named : List ℕ) (rows written : List (Vec (Option Value) Global))
    → h ≡ k → new ≡ newer → now ≡ shown → own ≡ named → rows ≡ written → RunsShare h new model moments now own rows done told → RunsShare k newer model moments shown named written done told
carried model moments done told h k new newer now shown own named rows written same later seen names rest runs =
    subst (λ z. RunsShare z newer model moments shown named written done told) same
    (subst (λ z. RunsShare h z model moments shown named written done told) later
    (subst (λ z. RunsShare h new model moments z named written done told) seen
    (subst (λ z. RunsShare h new model moments now z written done told) names
    (subst (λ z. RunsShare h new model moments now own z done told) rest runs))))
