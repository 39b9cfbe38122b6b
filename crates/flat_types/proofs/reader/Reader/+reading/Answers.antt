use Rattle.std.proofs.Common.{◌≡◌, ap, ◌∙◌, sym, map}
use Rattle.flat_types.specs.declared.outcome.Outcome.TheVariants.{Valued}
use Rattle.flat_model.specs.declared.expression.Expr.TheVariants as e
use Rattle.flat_types.specs.Readings.{node_of}
use Rattle.flat_types.proofs.Nodes.{node-Const, node-Name, node-Call, node-Chain, node-Relation, node-Neg, node-Not, node-Power, node-If, node-Time}
use Rattle.flat_types.specs.declared.ends.TypeCode.TheVariants.{Y1, Y3}
use Rattle.flat_types.specs.declared.outcome.Outcome.TheVariants.{Broken}
use Rattle.flat_types.specs.Readings.{after, after_one, of_product, first_interval, second_interval, integer_found}
use Rattle.flat_types.proofs.Forms.{other_call, not_one, product_first, product_second, product_neither}
use Rattle.flat_types.proofs.reader.Reader.+reading.Goals as goal

pub read-returns-in-Const : goal.read-returns-in-Const
read-returns-in-Const t c = rw (c.in-Const.is, node-Const c.args.self.now.names.now c.in-Const.value) (ap (λ k. Valued (e.Const c.in-Const.value) k) c.type_of_value.ensures)

pub read-returns-in-Name : goal.read-returns-in-Name
read-returns-in-Name t c = rw (c.in-Name.is, node-Name c.args.self.now.names.now c.in-Name.x)

pub read-returns-in-Time : goal.read-returns-in-Time
read-returns-in-Time t c = rw (c.in-Time.is, node-Time c.args.self.now.names.now)

pub read-returns-in-Call : goal.read-returns-in-Call
read-returns-in-Call t c =
    rw (c.in-Call.is, node-Call c.args.self.now.names.now c.in-Call.name c.in-Call.parts, ← c.as_bytes.ensures, ← c.called.ensures, ← c.as_slice.ensures) c.call.ensures

pub read-returns-in_ok-all-in-Chain : goal.read-returns-in_ok-all-in-Chain
read-returns-in_ok-all-in-Chain t c =
    let parts : c.in_ok-all-in-Chain.field-0 ≡ map (node_of c.args.self.now.names.now) c.in-Chain.parts =
    c.in_ok-all-in-Chain.ensures ∙ ap (map (node_of c.args.self.now.names.now)) c.as_slice-in-Chain.ensures in
    rw (c.in-Chain.is, node-Chain c.args.self.now.names.now c.in-Chain.parts c.in-Chain.ops, ← parts, ← c.as_slice-in-Chain-2.ensures) c.chain.ensures

pub read-returns-in_ok-right-in-Relation : goal.read-returns-in_ok-right-in-Relation
read-returns-in_ok-right-in-Relation t c =
    let left : c.in_ok-left-in-Relation.left ≡ node_of c.args.self.now.names.now c.in-Relation.left = c.in_ok-left-in-Relation.ensures ∙ ap (node_of c.args.self.now.names.now) c.get.ensures in
    let right : c.in_ok-right-in-Relation.right ≡ node_of c.args.self.now.names.now c.in-Relation.right =
    c.in_ok-right-in-Relation.ensures ∙ ap (node_of c.args.self.now.names.now) c.get-in-Relation.ensures in
    rw (c.in-Relation.is, node-Relation c.args.self.now.names.now c.in-Relation.rel c.in-Relation.left c.in-Relation.right, ← left, ← right) c.relation.ensures

pub read-returns-in_ok-read-in-Neg : goal.read-returns-in_ok-read-in-Neg
read-returns-in_ok-read-in-Neg t c =
    let part : c.in_ok-read-in-Neg.field-0 ≡ node_of c.args.self.now.names.now c.in-Neg.part = c.in_ok-read-in-Neg.ensures ∙ ap (node_of c.args.self.now.names.now) c.get-in-Neg.ensures in
    rw (c.in-Neg.is, node-Neg c.args.self.now.names.now c.in-Neg.part, ← part) c.negated.ensures

pub read-returns-in_ok-read-in-Not : goal.read-returns-in_ok-read-in-Not
read-returns-in_ok-read-in-Not t c =
    let part : c.in_ok-read-in-Not.field-0 ≡ node_of c.args.self.now.names.now c.in-Not.part = c.in_ok-read-in-Not.ensures ∙ ap (node_of c.args.self.now.names.now) c.get-in-Not.ensures in
    rw (c.in-Not.is, node-Not c.args.self.now.names.now c.in-Not.part, ← part) c.inverted.ensures

pub read-returns-in_ok-right-in-Power : goal.read-returns-in_ok-right-in-Power
read-returns-in_ok-right-in-Power t c =
    let left : c.in_ok-left-in-Power.left ≡ node_of c.args.self.now.names.now c.in-Power.left = c.in_ok-left-in-Power.ensures ∙ ap (node_of c.args.self.now.names.now) c.get-in-Power.ensures in
    let right : c.in_ok-right-in-Power.right ≡ node_of c.args.self.now.names.now c.in-Power.right =
    c.in_ok-right-in-Power.ensures ∙ ap (node_of c.args.self.now.names.now) c.get-in-Power-2.ensures in
    rw (c.in-Power.is, node-Power c.args.self.now.names.now c.in-Power.left c.in-Power.right, ← left, ← right) c.power.ensures

pub read-returns-in_ok-other-in-If : goal.read-returns-in_ok-other-in-If
read-returns-in_ok-other-in-If t c =
    let conditions : c.in_ok-conditions-in-If.conditions ≡ map (node_of c.args.self.now.names.now) c.in-If.conditions =
    c.in_ok-conditions-in-If.ensures ∙ ap (map (node_of c.args.self.now.names.now)) c.as_slice-in-If.ensures in
    let branches : c.in_ok-branches-in-If.branches ≡ map (node_of c.args.self.now.names.now) c.in-If.branches =
    c.in_ok-branches-in-If.ensures ∙ ap (map (node_of c.args.self.now.names.now)) c.as_slice-in-If-2.ensures in
    let other : c.in_ok-other-in-If.other ≡ node_of c.args.self.now.names.now c.in-If.other = c.in_ok-other-in-If.ensures ∙ ap (node_of c.args.self.now.names.now) c.get-in-If.ensures in
    rw (c.in-If.is, node-If c.args.self.now.names.now c.in-If.conditions c.in-If.branches c.in-If.other, ← conditions, ← branches, ← other) c.choice.ensures

pub call-returns-in_ok-all-in_default : goal.call-returns-in_ok-all-in_default
call-returns-in_ok-all-in_default t c =
    let parts : c.in_ok-all-in_default.field-0 ≡ map (node_of c.args.self.now.names.now) c.args.parts.now = c.in_ok-all-in_default.ensures in
    rw (other_call c.args.self.now.names.now c.args.callee c.args.parts.now c.in_default.not-Integer, ← parts) c.call.ensures

pub integer-returns-in_default : goal.integer-returns-in_default
integer-returns-in_default t c =
    let parts : c.as_slice.result.now ≡ map (node_of c.args.self.now.names.now) c.args.parts.now = c.as_slice.ensures ∙ c.in_ok-parts.ensures in
    c.refused.ensures ∙ ap (λ found. after found (Broken Y3)) parts ∙ sym (not_one c.args.self.now.names.now c.args.parts.now c.in_default.ensures)

pub whole-returns-in-Some-interval_arguments : goal.whole-returns-in-Some-interval_arguments
whole-returns-in-Some-interval_arguments t c =
    let called = c.in-Some-interval_arguments.ensures in
    c.interval_first.ensures ∙ ap (λ k. of_product (first_interval c.in_ok-interval.interval k)) c.in_ok-read-2.ensures
    ∙ sym (product_first c.args.self.now.names.now c.args.part.now c.in-Some.a.now c.in-Some.b.now called.0 c.in-Some-interval_arguments.parts.now c.in_ok-interval.interval
    c.in-Some.ensures called.1 called.2 c.in_ok-interval.ensures)

pub whole-returns-in-Some-interval_arguments-2 : goal.whole-returns-in-Some-interval_arguments-2
whole-returns-in-Some-interval_arguments-2 t c =
    let called = c.in-Some-interval_arguments-2.ensures in
    c.interval_second.ensures ∙ ap (λ k. of_product (second_interval k c.in_ok-interval-2.interval)) c.in_ok-read-3.ensures
    ∙ sym (product_second c.args.self.now.names.now c.args.part.now c.in-Some.a.now c.in-Some.b.now called.0 c.in-Some-interval_arguments-2.parts.now c.in_ok-interval-2.interval
    c.in-Some.ensures (c.in_default-interval_arguments.ensures c.args.self.now.names.now) called.1 called.2 c.in_ok-interval-2.ensures)

pub whole-returns : goal.whole-returns
whole-returns t c =
    let neither = product_neither c.args.self.now.names.now c.args.part.now c.in-Some.a.now c.in-Some.b.now c.in-Some.ensures
    (c.in_default-interval_arguments.ensures c.args.self.now.names.now) (c.in_default-interval_arguments-2.ensures c.args.self.now.names.now) in
    c.no_product-2.ensures ∙ ap (λ k. after_one k (Broken Y1)) c.in_ok-read-4.ensures
    ∙ sym (ap (λ product. integer_found (node_of c.args.self.now.names.now c.args.part.now) product) neither)
