use Rattle.std.proofs.Common.{rules, ◌≡◌, ◌≢◌, refl, [], ◌∷◌, true, ℤ}
use Rattle.sync_values.specs.declared.value.Value.TheVariants as value
use Rattle.sync_values.specs.Arithmetic.{over, exact_div, exact_modulo, exact_rem}
use Rattle.flat_model.specs.declared.expression.Fun.{Fun}
use Rattle.flat_model.specs.declared.expression.Fun.TheVariants.{Div, Mod, Rem, Abs, Min, Max}
use Rattle.flat_model.specs.declared.expression.Expr.TheVariants.{Const, Apply}
use Rattle.flat_model.specs.declared.evaluate.Vantage.TheVariants.{Now}
use Rattle.flat_model.specs.Operators.{Absent}
use Rattle.flat_model.specs.Functions.{called_with_two}
use Rattle.flat_model.specs.Views.{Views}
use Rattle.flat_model.specs.Meaning.{value_of}
use Rattle.flat_model.specs.Samples.{may_stand}
use Rattle.flat_model.proofs.Values.{value_of-Apply, value_of-Const}
use Rattle.flat_model.proofs.Standings.{may_stand-Apply, may_stand-Const}
use Rattle.flat_model.proofs.Evaluations.{settled_present}
use Rattle.layer_tests.proofs.flat_models.called.Goals as goal

two_present : (function : Fun) (a b : ℤ) → function ≢ Abs → called_with_two function a b ≢ Absent
two_present Div a b some = settled_present (over b (exact_div a b))
two_present Mod a b some = settled_present (over b (exact_modulo a b))
two_present Rem a b some = settled_present (over b (exact_rem a b))
two_present Min a b some = λ absent. absurd (cc absent)
two_present Max a b some = λ absent. absurd (cc absent)
two_present Abs a b some = absurd (some refl)

call_present : (function : Fun) (a b : ℤ) (views : Views) → function ≢ Abs → value_of (Apply function (Const (value.Int a) ∷ (Const (value.Int b) ∷ []))) views ≢ Absent
call_present function a b views some = simp (value_of-Apply, value_of-Const) (two_present function a b some)

call_plain : (function : Fun) (a b : ℤ) → may_stand (Apply function (Const (value.Int a) ∷ (Const (value.Int b) ∷ []))) Now ≡ true
call_plain function a b = simp (may_stand-Apply, may_stand-Const) refl

pub value-requires-clause-present : goal.value-requires-clause-present
value-requires-clause-present g c =
    let parts : c.two.result ≡ Const (value.Int c.args.a) ∷ (Const (value.Int c.args.b) ∷ []) = search rules in
    rw parts (call_present c.args.function c.args.a c.args.b _ c.requires)

pub value-requires-clause-samples : goal.value-requires-clause-samples
value-requires-clause-samples g c =
    let parts : c.two.result ≡ Const (value.Int c.args.a) ∷ (Const (value.Int c.args.b) ∷ []) = search rules in
    rw parts (call_plain c.args.function c.args.a c.args.b)
