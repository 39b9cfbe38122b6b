use Rattle.std.proofs.Common.{rules, arith, ◌≡◌, ◌+◌, ◌-◌, ◌<◌, ap, ◌∙◌, sym, length, map, ◌∷◌}
use Rattle.flat_model.proofs.Nodes.{nodes, all_nodes, nodes_within, nodes-Chain, nodes-Relation, nodes-Neg, nodes-Not, nodes-If, nodes-Apply, nodes-Sample}
use Rattle.step_code.specs.Code.{piece_of, is_if}
use Rattle.keyed_code.specs.Table.{table_of}
use Rattle.step_code.proofs.Refusing.{cell_emits, emits_err, chain_part, choice_other, choice_part, choice_long, not_both, other_branches, length_map}
use Rattle.step_code.proofs.Pieces.{leaf-Const, leaf-Read, leaf-Previous, leaf-FirstTick, leaf-Hold, leaf-Convert, piece_of-Const, piece_of-Read, piece_of-Previous, piece_of-FirstTick, piece_of-Hold, piece_of-Convert, piece_of-Neg, piece_of-Not, piece_of-Relation, piece_of-If, piece_of-Apply, piece_of-Sample}
use Rattle.step_code.proofs.Emitting.{chain_turn, choice_turn}
use Rattle.keyed_code.proofs.emitting.+emit.Goals as goal

pub emit-emit_chain-requires : goal.emit-emit_chain-requires
emit-emit_chain-requires t c =
    let size = ap nodes c.in-Chain.is ∙ nodes-Chain c.in-Chain.parts c.in-Chain.ops in
    let same = ap all_nodes c.as_slice.ensures in
    (omega (arith, c.decreases, size, same), tt)

pub emit-emit_binary-requires : goal.emit-emit_binary-requires
emit-emit_binary-requires t c =
    let size = ap nodes c.in-Relation.is ∙ nodes-Relation c.in-Relation.rel c.in-Relation.left c.in-Relation.right in
    let left = ap nodes c.get.ensures in
    let right = ap nodes c.get-in-Relation.ensures in
    (omega (arith, c.decreases, size, left, right), tt)

pub emit-emit_unary-requires : goal.emit-emit_unary-requires
emit-emit_unary-requires t c =
    let size = ap nodes c.in-Neg.is ∙ nodes-Neg c.in-Neg.part in
    let same = ap nodes c.get-in-Neg.ensures in
    (omega (arith, c.decreases, size, same), tt)

pub emit-emit_unary-requires-in-Not : goal.emit-emit_unary-requires-in-Not
emit-emit_unary-requires-in-Not t c =
    let size = ap nodes c.in-Not.is ∙ nodes-Not c.in-Not.part in
    let same = ap nodes c.get-in-Not.ensures in
    (omega (arith, c.decreases, size, same), tt)

pub emit-emit_choice-requires : goal.emit-emit_choice-requires
emit-emit_choice-requires t c =
    let size = ap nodes c.in-If.is ∙ nodes-If c.in-If.conditions c.in-If.branches c.in-If.other in
    let cs = ap all_nodes c.as_slice-in-If.ensures in
    let bs = ap all_nodes c.as_slice-in-If-2.ensures in
    let other = ap nodes c.get-in-If.ensures in
    (omega (arith, c.decreases, size, cs, bs, other), tt)

pub emit-emit_call-requires : goal.emit-emit_call-requires
emit-emit_call-requires t c =
    let size = ap nodes c.in-Apply.is ∙ nodes-Apply c.in-Apply.function c.in-Apply.parts in
    let same = ap all_nodes c.as_slice-in-Apply.ensures in
    (omega (arith, c.decreases, size, same), tt)

pub emit-returns-in-Relation : goal.emit-returns-in-Relation
emit-returns-in-Relation t c =
    rw (c.in-Relation.is, piece_of-Relation) (rw (c.get.ensures, c.get-in-Relation.ensures, c.op_of_relation.ensures) at c.emit_binary.ensures)

pub emit-returns-in-If : goal.emit-returns-in-If
emit-returns-in-If t c =
    rw (c.in-If.is, piece_of-If) (rw (c.as_slice-in-If.ensures, c.as_slice-in-If-2.ensures, c.get-in-If.ensures) at c.emit_choice.ensures)

pub emit-returns-in-Apply : goal.emit-returns-in-Apply
emit-returns-in-Apply t c =
    rw (c.in-Apply.is, piece_of-Apply) (rw c.as_slice-in-Apply.ensures at c.emit_call.ensures)

pub emit-emit-requires : goal.emit-emit-requires
emit-emit-requires t c =
    let size = ap nodes c.in-Sample.is ∙ nodes-Sample c.in-Sample.part c.in-Sample.field-1 in
    let same = ap nodes c.get-in-Sample.ensures in
    (omega (arith, c.decreases, size, same), tt)

pub emit-returns-in-Sample : goal.emit-returns-in-Sample
emit-returns-in-Sample t c = rw (c.in-Sample.is, piece_of-Sample) (rw (c.from_left.ensures, c.get-in-Sample.ensures) at c.emit.ensures)

pub emit_chain-emit_joined-requires : goal.emit_chain-emit_joined-requires
emit_chain-emit_joined-requires t c =
    let rest = c.in-Some-split_first.rest.now in
    let first : all_nodes c.args.parts.now ≡ nodes c.in-Some.first.now + all_nodes c.in-Some.rest.now = ap all_nodes c.in-Some.ensures.cases.0 in
    let second : all_nodes c.in-Some.rest.now ≡ nodes c.in-Some-split_first.second.now + all_nodes rest = ap all_nodes c.in-Some-split_first.ensures.cases.0 in
    let same : length rest ≡ length c.in-Some-split_first-2.others.now = search rules in
    let inside : c.loop-i.i - 1 < length rest = omega (arith, c.loop-i-test.true, c.loop-i.invariant.within, same) in
    let few = nodes_within rest (c.loop-i.i - 1) c.index-rest-i.result inside c.index-rest-i.is in
    (omega (arith, c.decreases, first, second, few), tt)

pub emit_chain-loop-i-preserved : goal.emit_chain-loop-i-preserved
emit_chain-loop-i-preserved t c =
    let same : length c.in-Some-split_first.rest.now ≡ length c.in-Some-split_first-2.others.now = search rules in
    chain_turn (table_of c.args.table.now) _ _ _ c.in-Some-split_first-2.others.now c.in-Some-split_first.rest.now c.loop-i.i _ c.index-rest-i.result _ _ c.loop-i-test.true same c.loop-i.invariant c.index-rest-i.is c.in_ok-emit_joined.ensures

pub emit_choice-emit_turn-requires : goal.emit_choice-emit_turn-requires
emit_choice-emit_turn-requires t c =
    let same : length c.args.conditions.now ≡ length c.args.branches.now = search rules in
    let in_cs : c.loop-i.i - 1 < length c.args.conditions.now = omega (arith, c.loop-i-test.true, c.loop-i.invariant.within) in
    let in_bs : c.loop-i.i - 1 < length c.args.branches.now = omega (arith, in_cs, same) in
    let a = nodes_within c.args.conditions.now (c.loop-i.i - 1) c.index-conditions-i.result in_cs c.index-conditions-i.is in
    let b = nodes_within c.args.branches.now (c.loop-i.i - 1) c.index-branches-i.result in_bs c.index-branches-i.is in
    (omega (arith, c.decreases, a, b), tt)

pub emit_choice-loop-i-preserved : goal.emit_choice-loop-i-preserved
emit_choice-loop-i-preserved t c =
    let same : length c.args.conditions.now ≡ length c.args.branches.now = search rules in
    let was : c.len-before.result ≡ length c.args.out.now = search rules in
    let size : c.in_ok-after.after ≡ length c.loop-i.out - c.len-before.result = search rules in
    choice_turn (table_of c.args.table.now) _ _ _ c.args.conditions.now c.args.branches.now c.args.other.now c.loop-i.i c.in_ok-after.after c.len-before.result c.index-conditions-i.result c.index-branches-i.result _ _ c.loop-i-test.true same c.loop-i.invariant c.index-conditions-i.is c.index-branches-i.is was size c.in_ok-emit_turn.ensures

pub emit-returns-in-Neg : goal.emit-returns-in-Neg
emit-returns-in-Neg t c = rw (c.in-Neg.is, piece_of-Neg) (rw c.get-in-Neg.ensures at c.emit_unary.ensures)

pub emit-returns-in-Not : goal.emit-returns-in-Not
emit-returns-in-Not t c = rw (c.in-Not.is, piece_of-Not) (rw c.get-in-Not.ensures at c.emit_unary-in-Not.ensures)

pub emit-returns-in-Const : goal.emit-returns-in-Const
emit-returns-in-Const t c =
    cell_emits (table_of c.args.table.now) c.args.expr.now _ _ _ c.args.to c.args.free _ _ _ (ap (piece_of (table_of c.args.table.now)) c.in-Const.is ∙ piece_of-Const _ c.in-Const.field-0) (ap (λ e. (piece_of (table_of c.args.table.now) e).leaf) c.in-Const.is ∙ leaf-Const _ c.in-Const.field-0) c.leaf.ensures c.emit_cell.ensures

pub emit-returns-in-Read : goal.emit-returns-in-Read
emit-returns-in-Read t c =
    cell_emits (table_of c.args.table.now) c.args.expr.now _ _ _ c.args.to c.args.free _ _ _ (ap (piece_of (table_of c.args.table.now)) c.in-Read.is ∙ piece_of-Read _ c.in-Read.field-0) (ap (λ e. (piece_of (table_of c.args.table.now) e).leaf) c.in-Read.is ∙ leaf-Read _ c.in-Read.field-0) c.leaf-in-Read.ensures c.emit_cell-in-Read.ensures

pub emit-returns-in-Previous : goal.emit-returns-in-Previous
emit-returns-in-Previous t c =
    cell_emits (table_of c.args.table.now) c.args.expr.now _ _ _ c.args.to c.args.free _ _ _ (ap (piece_of (table_of c.args.table.now)) c.in-Previous.is ∙ piece_of-Previous _ c.in-Previous.field-0) (ap (λ e. (piece_of (table_of c.args.table.now) e).leaf) c.in-Previous.is ∙ leaf-Previous _ c.in-Previous.field-0) c.leaf-in-Previous.ensures c.emit_cell-in-Previous.ensures

pub emit-returns-in-FirstTick : goal.emit-returns-in-FirstTick
emit-returns-in-FirstTick t c =
    cell_emits (table_of c.args.table.now) c.args.expr.now _ _ _ c.args.to c.args.free _ _ _ (ap (piece_of (table_of c.args.table.now)) c.in-FirstTick.is ∙ piece_of-FirstTick _ c.in-FirstTick.field-0) (ap (λ e. (piece_of (table_of c.args.table.now) e).leaf) c.in-FirstTick.is ∙ leaf-FirstTick _ c.in-FirstTick.field-0) c.leaf-in-FirstTick.ensures c.emit_cell-in-FirstTick.ensures

pub emit-returns-in-Hold : goal.emit-returns-in-Hold
emit-returns-in-Hold t c =
    cell_emits (table_of c.args.table.now) c.args.expr.now _ _ _ c.args.to c.args.free _ _ _ (ap (piece_of (table_of c.args.table.now)) c.in-Hold.is ∙ piece_of-Hold _ c.in-Hold.field-0) (ap (λ e. (piece_of (table_of c.args.table.now) e).leaf) c.in-Hold.is ∙ leaf-Hold _ c.in-Hold.field-0) c.leaf-in-Hold.ensures c.emit_cell-in-Hold.ensures

pub emit-returns-in-Convert : goal.emit-returns-in-Convert
emit-returns-in-Convert t c =
    cell_emits (table_of c.args.table.now) c.args.expr.now _ _ _ c.args.to c.args.free _ _ _ (ap (piece_of (table_of c.args.table.now)) c.in-Convert.is ∙ piece_of-Convert _ c.in-Convert.field-0 c.in-Convert.field-1) (ap (λ e. (piece_of (table_of c.args.table.now) e).leaf) c.in-Convert.is ∙ leaf-Convert _ c.in-Convert.field-0 c.in-Convert.field-1) c.leaf-in-Convert.ensures c.emit_cell-in-Convert.ensures

pub emit_chain-returns-in_err-emit_joined : goal.emit_chain-returns-in_err-emit_joined
emit_chain-returns-in_err-emit_joined t c =
    let same : length c.in-Some-split_first.rest.now ≡ length c.in-Some-split_first-2.others.now = search rules in
    let in_ops : c.loop-i.i - 1 < length c.in-Some-split_first-2.others.now = omega (arith, c.loop-i-test.true, c.loop-i.invariant.within) in
    let in_rest : c.loop-i.i - 1 < length c.in-Some-split_first.rest.now = omega (arith, in_ops, same) in
    let parts_are = c.in-Some.ensures.cases.0 ∙ ap (λ r. c.in-Some.first.now ∷ r) c.in-Some-split_first.ensures.cases.0 in
    emits_err _ _ _ _ _ c.from_residual.result c.in_err-emit_joined.field-0.0 c.from_residual.ensures.0 c.from_residual.ensures.1
    (chain_part (table_of c.args.table.now) c.args.parts.now c.in-Some-split_first.rest.now c.args.ops.now c.in-Some-split_first-2.others.now c.in-Some.first.now c.in-Some-split_first.second.now c.in-Some-split_first-2.op.now _ (c.loop-i.i - 1) c.index-rest-i.result
    c.args.to c.args.free _ parts_are c.in-Some-split_first-2.ensures.cases.0 in_ops in_rest c.index-rest-i.is c.in_err-emit_joined.ensures)

pub emit_choice-returns-then-conditions-branches : goal.emit_choice-returns-then-conditions-branches
emit_choice-returns-then-conditions-branches t c =
    let P = piece_of (table_of c.args.table.now) in
    let size = length_map P c.args.conditions.now in
    let other = length_map P c.args.branches.now in
    let differ = c.if-conditions-branches.true in
    not_both (is_if (map P c.args.conditions.now) (map P c.args.branches.now)) _ (other_branches (map P c.args.conditions.now) (map P c.args.branches.now) (λ e. differ (sym size ∙ e ∙ other)))

pub emit_choice-returns-in_err-emit : goal.emit_choice-returns-in_err-emit
emit_choice-returns-in_err-emit t c =
    emits_err _ _ _ _ _ c.from_residual.result c.in_err-emit.field-0.0 c.from_residual.ensures.0 c.from_residual.ensures.1
    (choice_other (table_of c.args.table.now) c.args.conditions.now c.args.branches.now c.args.other.now c.args.to c.args.free _ c.in_err-emit.ensures)

pub emit_choice-returns-in_err-after : goal.emit_choice-returns-in_err-after
emit_choice-returns-in_err-after t c =
    let same : length c.args.conditions.now ≡ length c.args.branches.now = search rules in
    let large = rw (c.len.ensures, c.len-before.ensures) at c.in_err-after.ensures in
    emits_err _ _ _ _ _ c.from_residual-in_err-after.result c.in_err-after.field-0.0 c.from_residual-in_err-after.ensures.0 c.from_residual-in_err-after.ensures.1
    (choice_long (table_of c.args.table.now) c.args.conditions.now c.args.branches.now c.args.other.now c.loop-i.i c.loop-i.out c.args.out.now c.args.to c.args.free _ _ same c.loop-i.invariant large)

pub emit_choice-returns-in_err-emit_turn : goal.emit_choice-returns-in_err-emit_turn
emit_choice-returns-in_err-emit_turn t c =
    let same : length c.args.conditions.now ≡ length c.args.branches.now = search rules in
    let in_cs : c.loop-i.i - 1 < length c.args.conditions.now = omega (arith, c.loop-i-test.true, c.loop-i.invariant.within) in
    let in_bs : c.loop-i.i - 1 < length c.args.branches.now = omega (arith, in_cs, same) in
    emits_err _ _ _ _ _ c.from_residual-in_err-emit_turn.result c.in_err-emit_turn.field-0.0 c.from_residual-in_err-emit_turn.ensures.0 c.from_residual-in_err-emit_turn.ensures.1
    (choice_part (table_of c.args.table.now) c.args.conditions.now c.args.branches.now c.args.other.now (c.loop-i.i - 1) _ c.index-conditions-i.result c.index-branches-i.result c.args.to c.args.free _ in_cs in_bs c.index-conditions-i.is c.index-branches-i.is c.in_err-emit_turn.ensures)
