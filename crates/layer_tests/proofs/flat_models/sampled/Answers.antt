use Rattle.std.proofs.Common.{◌≡◌, ◌≢◌, refl, ap, ◌∙◌, sym, ℕ, ◌+◌, ◌*◌, true, pos, Option, Some, None}
use Rattle.sync_values.specs.declared.value.Value.{Value}
use Rattle.sync_values.specs.declared.value.Value.TheVariants as value
use Rattle.flat_model.specs.declared.clock.ClockExpr.{ClockExpr}
use Rattle.flat_model.specs.declared.expression.Expr.{Expr}
use Rattle.flat_model.specs.declared.expression.Expr.TheVariants.{Read, Sample}
use Rattle.flat_model.specs.declared.evaluate.Vantage.TheVariants.{Now, Left}
use Rattle.flat_model.specs.Operators.{Is, Absent, read}
use Rattle.flat_model.specs.Views.{Views, before}
use Rattle.flat_model.specs.Meaning.{value_of}
use Rattle.flat_model.specs.Samples.{may_stand}
use Rattle.flat_model.proofs.Values.{value_of-Sample, value_of-Read}
use Rattle.flat_model.proofs.Standings.{may_stand-Sample, may_stand-Read}
use Rattle.layer_tests.proofs.flat_models.sampled.Goals as goal

apart : (v : Value) → Is v ≢ Absent
apart v absent = absurd (cc absent)

sample_present : (part : Expr) (clock : Option ClockExpr) (x : ℕ) (views : Views) (v : Value) → part ≡ Read x → (views 1).now x ≡ Some v → value_of (Sample part clock) views ≢ Absent
sample_present part clock x views v is some absent =
    let whole = value_of-Sample part clock views ∙ ap (λ e. value_of e (before views)) is ∙ value_of-Read x (before views) in
    apart v (sym (ap read some) ∙ sym whole ∙ absent)

sample_plain : (part : Expr) (clock : Option ClockExpr) (x : ℕ) → part ≡ Read x → may_stand (Sample part clock) Now ≡ true
sample_plain part clock x is = may_stand-Sample part clock Now ∙ ap (λ e. may_stand e Left) is ∙ may_stand-Read x Left

pub value-requires-clause-present : goal.value-requires-clause-present
value-requires-clause-present g c = sample_present c.boxed-part.result None c.args.name _ (value.Int (pos (c.args.name + 1000 * 1))) c.boxed-part.ensures refl

pub value-requires-clause-samples : goal.value-requires-clause-samples
value-requires-clause-samples g c = sample_plain c.boxed-part.result None c.args.name c.boxed-part.ensures
