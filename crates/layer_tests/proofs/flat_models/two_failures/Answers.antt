use Rattle.std.proofs.Common.{◌≡◌, ◌≢◌, refl, [], ◌∷◌, true}
use Rattle.sync_values.specs.declared.value.Fail.{Fail}
use Rattle.sync_values.specs.declared.value.ChainOp.TheVariants.{Plus}
use Rattle.flat_model.specs.declared.expression.Expr.{Expr}
use Rattle.flat_model.specs.declared.expression.Expr.TheVariants.{Chain}
use Rattle.flat_model.specs.declared.evaluate.Vantage.TheVariants.{Now}
use Rattle.flat_model.specs.Operators.{Fails, Absent}
use Rattle.flat_model.specs.Views.{Views}
use Rattle.flat_model.specs.Meaning.{value_of}
use Rattle.flat_model.specs.Samples.{may_stand}
use Rattle.flat_model.proofs.Values.{value_of-Chain}
use Rattle.flat_model.proofs.Standings.{may_stand-Chain}
use Rattle.layer_tests.proofs.flat_models.two_failures.Goals as goal

two_present : (first second : Expr) (kind : Fail) (views : Views) → value_of first views ≡ Fails kind → value_of (Chain (first ∷ (second ∷ [])) (Plus ∷ [])) views ≢ Absent
two_present first second kind views fails = simp (value_of-Chain, fails) (λ absent. absurd (cc absent))

two_plain : (first second : Expr) → may_stand first Now ≡ true → may_stand second Now ≡ true → may_stand (Chain (first ∷ (second ∷ [])) (Plus ∷ [])) Now ≡ true
two_plain first second first_plain second_plain = simp (may_stand-Chain, first_plain, second_plain) refl

pub value-requires-clause-present : goal.value-requires-clause-present
value-requires-clause-present g c = rw c.chain-whole.ensures (two_present c.failing-left.result c.failing-right.result c.args.first _ (c.failing-left.ensures.fails _))

pub value-requires-clause-samples : goal.value-requires-clause-samples
value-requires-clause-samples g c = rw c.chain-whole.ensures (two_plain c.failing-left.result c.failing-right.result (c.failing-left.ensures.plain Now) (c.failing-right.ensures.plain Now))
