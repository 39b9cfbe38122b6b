use Rattle.std.proofs.Common.{◌≡◌, refl, ap, ◌∙◌, sym, [], ◌∷◌, Some, None, true, false, Bool}
use Rattle.std.specs.Prelude.{is_none, if◌then◌else◌}
use Rattle.flat_model.specs.declared.model.NameKind.TheVariants as kind
use Rattle.flat_model.specs.Typing.{is_type}
use Rattle.flat_types.specs.Outcomes.{first_broken}
use Rattle.flat_types.specs.Readings.{node_of}
use Rattle.flat_types.proofs.Nodes.{reading-Const, reading-Name, reading-Call, reading-Chain, reading-Relation, reading-Neg, reading-Not, reading-Power, reading-If, reading-Time, nodes_found}
use Rattle.flat_types.proofs.reader.Reader.gives_boolean.Goals as goal

pub returns-in-Const : goal.returns-in-Const
returns-in-Const c = rw (c.in-Const.is, reading-Const c.args.self.now.names.now c.in-Const.value) (c.is_type.ensures ∙ ap (λ k. is_type kind.Boolean (Some k)) c.type_of_value.ensures)

pub returns-in-Name : goal.returns-in-Name
returns-in-Name c = rw (c.in-Name.is, reading-Name c.args.self.now.names.now c.in-Name.x) (c.is_type-in-Name.ensures ∙ ap (is_type kind.Boolean) c.kind_of_name.ensures)

pub returns-in-Call : goal.returns-in-Call
returns-in-Call c = rw (c.in-Call.is, reading-Call c.args.self.now.names.now c.in-Call.name c.in-Call.parts, ← c.as_bytes.ensures, ← c.called.ensures, ← c.as_slice.ensures) c.call_gives_boolean.ensures

pub returns-in-Chain : goal.returns-in-Chain
returns-in-Chain c =
    rw (c.in-Chain.is, reading-Chain c.args.self.now.names.now c.in-Chain.parts c.in-Chain.ops, nodes_found c.args.self.now.names.now c.in-Chain.parts, ← c.as_slice-in-Chain.ensures, ← c.as_slice-in-Chain-2.ensures)
    c.chain_gives_boolean.ensures

pub returns-in-Relation : goal.returns-in-Relation
returns-in-Relation c =
    rw (c.in-Relation.is, reading-Relation c.args.self.now.names.now c.in-Relation.field-0 c.in-Relation.left c.in-Relation.right, ← c.get.ensures, ← c.get-in-Relation.ensures) c.relation_gives_boolean.ensures

pub returns-in-Not : goal.returns-in-Not
returns-in-Not c = rw (c.in-Not.is, reading-Not c.args.self.now.names.now c.in-Not.part, ← c.get-in-Not.ensures) c.inverse_gives_boolean.ensures

pub returns-in-If : goal.returns-in-If
returns-in-If c =
    rw (
      c.in-If.is,
      reading-If c.args.self.now.names.now c.in-If.conditions c.in-If.branches c.in-If.other,
      nodes_found c.args.self.now.names.now c.in-If.conditions,
      nodes_found c.args.self.now.names.now c.in-If.branches,
      ← c.as_slice-in-If.ensures,
      ← c.as_slice-in-If-2.ensures,
      ← c.get-in-If.ensures,
    )
    c.choice_gives_boolean.ensures

by_broken : (b : Bool) → is_type kind.Boolean (if b then Some kind.Integer else None) ≡ false
by_broken true = refl
by_broken false = refl

pub returns-in-Neg : goal.returns-in-Neg
returns-in-Neg c = rw (c.in-Neg.is, reading-Neg c.args.self.now.names.now c.in-Neg.field-0) (sym (by_broken (is_none (first_broken (node_of c.args.self.now.names.now c.in-Neg.field-0 ∷ [])))))

pub returns-in-Power : goal.returns-in-Power
returns-in-Power c = rw (c.in-Power.is, reading-Power c.args.self.now.names.now c.in-Power.field-0 c.in-Power.field-1)

pub returns-in-Time : goal.returns-in-Time
returns-in-Time c = rw (c.in-Time.is, reading-Time c.args.self.now.names.now)
