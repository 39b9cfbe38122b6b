use Rattle.std.proofs.Common.{rules, ◌≡◌, ◌≢◌, refl, [], ◌∷◌, true, ℤ, ◌+ℤ◌, ◌-ℤ◌, ◌*ℤ◌}
use Rattle.sync_values.specs.declared.value.Value.TheVariants as value
use Rattle.sync_values.specs.declared.value.ChainOp.{ChainOp}
use Rattle.sync_values.specs.declared.value.ChainOp.TheVariants.{Plus, Minus, Times, Over, And, Or}
use Rattle.sync_values.specs.Arithmetic.{fitted}
use Rattle.flat_model.specs.declared.expression.Expr.TheVariants.{Const, Chain}
use Rattle.flat_model.specs.declared.evaluate.Vantage.TheVariants.{Now}
use Rattle.flat_model.specs.Operators.{Absent}
use Rattle.flat_model.specs.Views.{Views}
use Rattle.flat_model.specs.Meaning.{value_of}
use Rattle.flat_model.specs.Samples.{may_stand}
use Rattle.flat_model.proofs.Values.{value_of-Chain, value_of-Const}
use Rattle.flat_model.proofs.Standings.{may_stand-Chain, may_stand-Const}
use Rattle.flat_model.proofs.Evaluations.{settled_present}
use Rattle.layer_tests.proofs.flat_models.joined.Goals as goal

chain_present : (op : ChainOp) (a b : ℤ) (views : Views) → op ≢ Over → op ≢ And → op ≢ Or → value_of (Chain (Const (value.Int a) ∷ (Const (value.Int b) ∷ [])) (op ∷ [])) views ≢ Absent
chain_present Plus a b views over and or = simp (value_of-Chain, value_of-Const) (settled_present (fitted (a +ℤ b)))
chain_present Minus a b views over and or = simp (value_of-Chain, value_of-Const) (settled_present (fitted (a -ℤ b)))
chain_present Times a b views over and or = simp (value_of-Chain, value_of-Const) (settled_present (fitted (a *ℤ b)))
chain_present Over a b views over and or = absurd (over refl)
chain_present And a b views over and or = absurd (and refl)
chain_present Or a b views over and or = absurd (or refl)

chain_plain : (op : ChainOp) (a b : ℤ) → may_stand (Chain (Const (value.Int a) ∷ (Const (value.Int b) ∷ [])) (op ∷ [])) Now ≡ true
chain_plain op a b = simp (may_stand-Chain, may_stand-Const) refl

pub value-requires-clause-present : goal.value-requires-clause-present
value-requires-clause-present g c =
    let whole : c.chain.result ≡ Chain (Const (value.Int c.args.a) ∷ (Const (value.Int c.args.b) ∷ [])) (c.args.op ∷ []) = search rules in
    rw whole (chain_present c.args.op c.args.a c.args.b _ c.requires.over c.requires.and c.requires.or)

pub value-requires-clause-samples : goal.value-requires-clause-samples
value-requires-clause-samples g c =
    let whole : c.chain.result ≡ Chain (Const (value.Int c.args.a) ∷ (Const (value.Int c.args.b) ∷ [])) (c.args.op ∷ []) = search rules in
    rw whole (chain_plain c.args.op c.args.a c.args.b)
