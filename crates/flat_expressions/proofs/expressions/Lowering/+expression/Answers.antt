use Rattle.class_scopes.specs.Tables.{number_of}
use Rattle.parameter_values.specs.Slots.{seen}
use Rattle.flat_expressions.proofs.Lowerings.{lowered-Const, lowered-Name, lowered-Call, lowered-Chain, lowered-Relation, lowered-Neg, lowered-Not, lowered-Power, lowered-If}
use Rattle.flat_expressions.proofs.expressions.Lowering.+expression.Goals as goal

pub expr_lowered-returns-in-Const : goal.expr_lowered-returns-in-Const
expr_lowered-returns-in-Const t c =
    rw (lowered-Const c.args.self.now.text.now (seen c.args.self.now.parameters.now c.args.self.now.values.now) (number_of c.args.self.now.names.now) c.args.scope.now c.args.expr.now c.in-Const.value c.in-Const.is)

pub expr_lowered-returns-in-Name : goal.expr_lowered-returns-in-Name
expr_lowered-returns-in-Name t c =
    rw (lowered-Name c.args.self.now.text.now (seen c.args.self.now.parameters.now c.args.self.now.values.now) (number_of c.args.self.now.names.now) c.args.scope.now c.args.expr.now c.in-Name.path c.in-Name.is) c.name_lowered.ensures

pub expr_lowered-returns-in-Call : goal.expr_lowered-returns-in-Call
expr_lowered-returns-in-Call t c =
    let arguments = rw c.as_slice.ensures at c.all_lowered.ensures in
    rw (lowered-Call c.args.self.now.text.now (seen c.args.self.now.parameters.now c.args.self.now.values.now) (number_of c.args.self.now.names.now) c.args.scope.now c.args.expr.now c.in-Call.path c.in-Call.arguments c.in-Call.is)
    (c.called.ensures _ _ c.function.ensures arguments)

pub expr_lowered-returns-in-Chain : goal.expr_lowered-returns-in-Chain
expr_lowered-returns-in-Chain t c =
    let parts = rw c.as_slice-in-Chain.ensures at c.all_lowered-in-Chain.ensures in
    rw (lowered-Chain c.args.self.now.text.now (seen c.args.self.now.parameters.now c.args.self.now.values.now) (number_of c.args.self.now.names.now) c.args.scope.now c.args.expr.now c.in-Chain.parts c.in-Chain.ops c.in-Chain.is)
    (c.chained.ensures _ parts)

pub expr_lowered-returns-in-Relation : goal.expr_lowered-returns-in-Relation
expr_lowered-returns-in-Relation t c =
    let left = rw c.get.ensures at c.boxed_lowered.ensures in
    let right = rw c.get-in-Relation.ensures at c.boxed_lowered-in-Relation.ensures in
    rw (lowered-Relation c.args.self.now.text.now (seen c.args.self.now.parameters.now c.args.self.now.values.now) (number_of c.args.self.now.names.now) c.args.scope.now c.args.expr.now c.in-Relation.rel c.in-Relation.left c.in-Relation.right c.in-Relation.is)
    (c.related.ensures _ _ left right)

pub expr_lowered-returns-in-Neg : goal.expr_lowered-returns-in-Neg
expr_lowered-returns-in-Neg t c =
    let part = rw c.get-in-Neg.ensures at c.boxed_lowered-in-Neg.ensures in
    rw (lowered-Neg c.args.self.now.text.now (seen c.args.self.now.parameters.now c.args.self.now.values.now) (number_of c.args.self.now.names.now) c.args.scope.now c.args.expr.now c.in-Neg.part c.in-Neg.is)
    (c.negated.ensures _ part)

pub expr_lowered-returns-in-Not : goal.expr_lowered-returns-in-Not
expr_lowered-returns-in-Not t c =
    let part = rw c.get-in-Not.ensures at c.boxed_lowered-in-Not.ensures in
    rw (lowered-Not c.args.self.now.text.now (seen c.args.self.now.parameters.now c.args.self.now.values.now) (number_of c.args.self.now.names.now) c.args.scope.now c.args.expr.now c.in-Not.part c.in-Not.is)
    (c.inverted.ensures _ part)

pub expr_lowered-returns-in-Power : goal.expr_lowered-returns-in-Power
expr_lowered-returns-in-Power t c =
    let base = rw c.get-in-Power.ensures at c.boxed_lowered-in-Power.ensures in
    let exponent = rw c.get-in-Power-2.ensures at c.boxed_lowered-in-Power-2.ensures in
    rw (lowered-Power c.args.self.now.text.now (seen c.args.self.now.parameters.now c.args.self.now.values.now) (number_of c.args.self.now.names.now) c.args.scope.now c.args.expr.now c.in-Power.base c.in-Power.exponent c.in-Power.is)
    (c.raised.ensures _ _ base exponent)

pub expr_lowered-returns-in-If : goal.expr_lowered-returns-in-If
expr_lowered-returns-in-If t c =
    let conditions = rw c.as_slice-in-If.ensures at c.all_lowered-in-If.ensures in
    let branches = rw c.as_slice-in-If-2.ensures at c.all_lowered-in-If-2.ensures in
    let other = rw c.get-in-If.ensures at c.boxed_lowered-in-If.ensures in
    rw (lowered-If c.args.self.now.text.now (seen c.args.self.now.parameters.now c.args.self.now.values.now) (number_of c.args.self.now.names.now) c.args.scope.now c.args.expr.now c.in-If.conditions c.in-If.branches c.in-If.other c.in-If.is)
    (c.chosen.ensures _ _ _ conditions branches other)
