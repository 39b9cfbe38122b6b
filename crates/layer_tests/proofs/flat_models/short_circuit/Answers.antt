use Rattle.std.proofs.Common.{◌≡◌, ◌≢◌, refl, [], ◌∷◌, Bool, true, false}
use Rattle.sync_values.specs.declared.value.Value.TheVariants as value
use Rattle.sync_values.specs.declared.value.Fail.{Fail}
use Rattle.sync_values.specs.declared.value.Fail.TheVariants.{Divide}
use Rattle.sync_values.specs.declared.value.ChainOp.{ChainOp}
use Rattle.sync_values.specs.declared.value.ChainOp.TheVariants.{Plus, Minus, Times, Over, And, Or}
use Rattle.flat_model.specs.declared.expression.Expr.{Expr}
use Rattle.flat_model.specs.declared.expression.Expr.TheVariants.{Const, Chain}
use Rattle.flat_model.specs.declared.evaluate.Vantage.TheVariants.{Now}
use Rattle.flat_model.specs.Operators.{Is, Fails, Absent, joined}
use Rattle.flat_model.specs.Views.{Views}
use Rattle.flat_model.specs.Meaning.{value_of}
use Rattle.flat_model.specs.Samples.{may_stand}
use Rattle.flat_model.proofs.Values.{value_of-Chain, value_of-Const}
use Rattle.flat_model.proofs.Standings.{may_stand-Chain, may_stand-Const}
use Rattle.layer_tests.proofs.flat_models.short_circuit.Goals as goal

joined_present : (op : ChainOp) (b : Bool) (kind : Fail) → joined op (Is (value.Bool b)) (Fails kind) ≢ Absent
joined_present Plus b kind absent = absurd (cc absent)
joined_present Minus b kind absent = absurd (cc absent)
joined_present Times b kind absent = absurd (cc absent)
joined_present Over b kind absent = absurd (cc absent)
joined_present And true kind absent = absurd (cc absent)
joined_present And false kind absent = absurd (cc absent)
joined_present Or true kind absent = absurd (cc absent)
joined_present Or false kind absent = absurd (cc absent)

short_present : (b : Bool) (op : ChainOp) (part : Expr) (kind : Fail) (views : Views) → value_of part views ≡ Fails kind → value_of (Chain (Const (value.Bool b) ∷ (part ∷ [])) (op ∷ [])) views ≢ Absent
short_present b op part kind views fails = simp (value_of-Chain, value_of-Const, fails) (joined_present op b kind)

short_plain : (b : Bool) (op : ChainOp) (part : Expr) → may_stand part Now ≡ true → may_stand (Chain (Const (value.Bool b) ∷ (part ∷ [])) (op ∷ [])) Now ≡ true
short_plain b op part plain = simp (may_stand-Chain, may_stand-Const, plain) refl

pub value-requires-clause-present : goal.value-requires-clause-present
value-requires-clause-present g c = rw c.chain-whole.ensures (short_present c.args.b c.args.op c.failing-failed.result Divide _ (c.failing-failed.ensures.fails _))

pub value-requires-clause-samples : goal.value-requires-clause-samples
value-requires-clause-samples g c = rw c.chain-whole.ensures (short_plain c.args.b c.args.op c.failing-failed.result (c.failing-failed.ensures.plain Now))
