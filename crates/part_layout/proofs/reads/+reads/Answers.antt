use Rattle.std.proofs.Common.{arith, refl, ap, ◌∙◌, ◌++◌, ◌+◌, ◌<◌, drop, length}
use Rattle.flat_model.proofs.Nodes.{nodes, all_nodes, nodes_within, nodes-Chain, nodes-Relation, nodes-Neg, nodes-Not, nodes-If, nodes-Apply, nodes-Sample}
use Rattle.cell_keys.specs.Cells.{with_keys}
use Rattle.part_layout.specs.Reads.{keys_read, all_keys_read}
use Rattle.part_layout.proofs.Reading.{adds_then, adds_err, parts_from, one_more}
use Rattle.part_layout.proofs.reads.+reads.Goals as goal

pub add_all-add_reads-requires : goal.add_all-add_reads-requires
add_all-add_reads-requires t c =
    let few = nodes_within c.args.parts.now c.loop-part.part-index c.part-item.result c.loop-part-test.true c.part-item.is in
    (omega (arith, c.decreases, few), tt)

pub add_all-returns-in_err-add_reads : goal.add_all-returns-in_err-add_reads
add_all-returns-in_err-add_reads t c =
    adds_err c.args.keys.now (all_keys_read c.args.parts.now c.args.class c.args.sight) c.loop-part.keys (keys_read c.part-item.result c.args.class c.args.sight) (all_keys_read (drop (c.loop-part.part-index + 1) c.args.parts.now) c.args.class c.args.sight) _
    c.from_residual.result c.in_err-add_reads.field-0.0 c.from_residual.ensures.0 c.from_residual.ensures.1
    (ap (with_keys c.loop-part.keys) (parts_from c.args.parts.now c.loop-part.part-index c.part-item.result c.args.class c.args.sight c.loop-part-test.true c.part-item.is) ∙ c.loop-part.invariant)
    c.in_err-add_reads.ensures

pub add_all-loop-part-preserved : goal.add_all-loop-part-preserved
add_all-loop-part-preserved t c =
    one_more c.loop-part.keys _ _ c.args.parts.now c.loop-part.part-index c.part-item.result c.args.class c.args.sight c.loop-part-test.true c.part-item.is c.loop-part.invariant c.in_ok-add_reads.ensures

pub add_choice-returns-in_err-add_all : goal.add_choice-returns-in_err-add_all
add_choice-returns-in_err-add_all t c =
    adds_err c.args.keys.now (all_keys_read c.args.conditions.now c.args.class c.args.sight ++ (all_keys_read c.args.branches.now c.args.class c.args.sight ++ keys_read c.args.other.now c.args.class c.args.sight)) c.args.keys.now (all_keys_read c.args.conditions.now c.args.class c.args.sight) (all_keys_read c.args.branches.now c.args.class c.args.sight ++ keys_read c.args.other.now c.args.class c.args.sight) _
    c.from_residual.result c.in_err-add_all.field-0.0 c.from_residual.ensures.0 c.from_residual.ensures.1 refl c.in_err-add_all.ensures

pub add_choice-returns-in_err-add_all-2 : goal.add_choice-returns-in_err-add_all-2
add_choice-returns-in_err-add_all-2 t c =
    adds_then c.args.keys.now (all_keys_read c.args.conditions.now c.args.class c.args.sight) c.add_all.new.keys (all_keys_read c.args.branches.now c.args.class c.args.sight ++ keys_read c.args.other.now c.args.class c.args.sight) _ _ c.in_ok-add_all.ensures
    (adds_err c.add_all.new.keys (all_keys_read c.args.branches.now c.args.class c.args.sight ++ keys_read c.args.other.now c.args.class c.args.sight) c.add_all.new.keys (all_keys_read c.args.branches.now c.args.class c.args.sight) (keys_read c.args.other.now c.args.class c.args.sight) _
    c.from_residual-in_err-add_all-2.result c.in_err-add_all-2.field-0.0 c.from_residual-in_err-add_all-2.ensures.0 c.from_residual-in_err-add_all-2.ensures.1 refl c.in_err-add_all-2.ensures)

pub add_choice-returns : goal.add_choice-returns
add_choice-returns t c =
    adds_then c.args.keys.now (all_keys_read c.args.conditions.now c.args.class c.args.sight) c.add_all.new.keys (all_keys_read c.args.branches.now c.args.class c.args.sight ++ keys_read c.args.other.now c.args.class c.args.sight) _ _ c.in_ok-add_all.ensures
    (adds_then c.add_all.new.keys (all_keys_read c.args.branches.now c.args.class c.args.sight) c.add_all-2.new.keys (keys_read c.args.other.now c.args.class c.args.sight) _ _ c.in_ok-add_all-2.ensures c.add_reads.ensures)

pub add_reads-add_all-requires : goal.add_reads-add_all-requires
add_reads-add_all-requires t c =
    let size = ap nodes c.in-Chain.is ∙ nodes-Chain c.in-Chain.parts c.in-Chain.field-1 in
    let same = ap all_nodes c.as_slice.ensures in
    (omega (arith, c.decreases, size, same), tt)

pub add_reads-add_two-requires : goal.add_reads-add_two-requires
add_reads-add_two-requires t c =
    let size = ap nodes c.in-Relation.is ∙ nodes-Relation c.in-Relation.field-0 c.in-Relation.left c.in-Relation.right in
    let left = ap nodes c.get.ensures in
    let right = ap nodes c.get-in-Relation.ensures in
    (omega (arith, c.decreases, size, left, right), tt)

pub add_reads-add_reads-requires : goal.add_reads-add_reads-requires
add_reads-add_reads-requires t c =
    let size = ap nodes c.in-Neg.is ∙ nodes-Neg c.in-Neg.part in
    let same = ap nodes c.get-in-Neg.ensures in
    (omega (arith, c.decreases, size, same), tt)

pub add_reads-add_reads-requires-in-Not : goal.add_reads-add_reads-requires-in-Not
add_reads-add_reads-requires-in-Not t c =
    let size = ap nodes c.in-Not.is ∙ nodes-Not c.in-Not.part in
    let same = ap nodes c.get-in-Not.ensures in
    (omega (arith, c.decreases, size, same), tt)

pub add_reads-add_choice-requires : goal.add_reads-add_choice-requires
add_reads-add_choice-requires t c =
    let size = ap nodes c.in-If.is ∙ nodes-If c.in-If.conditions c.in-If.branches c.in-If.other in
    let cs = ap all_nodes c.as_slice-in-If.ensures in
    let bs = ap all_nodes c.as_slice-in-If-2.ensures in
    let other = ap nodes c.get-in-If.ensures in
    (omega (arith, c.decreases, size, cs, bs, other), tt)

pub add_reads-add_all-requires-in-Apply : goal.add_reads-add_all-requires-in-Apply
add_reads-add_all-requires-in-Apply t c =
    let size = ap nodes c.in-Apply.is ∙ nodes-Apply c.in-Apply.field-0 c.in-Apply.parts in
    let same = ap all_nodes c.as_slice-in-Apply.ensures in
    (omega (arith, c.decreases, size, same), tt)

pub add_reads-add_reads-requires-in-Sample : goal.add_reads-add_reads-requires-in-Sample
add_reads-add_reads-requires-in-Sample t c =
    let size = ap nodes c.in-Sample.is ∙ nodes-Sample c.in-Sample.part c.in-Sample.field-1 in
    let same = ap nodes c.get-in-Sample.ensures in
    (omega (arith, c.decreases, size, same), tt)

pub add_two-returns-in_err-add_reads : goal.add_two-returns-in_err-add_reads
add_two-returns-in_err-add_reads t c =
    adds_err c.args.keys.now (keys_read c.args.left.now c.args.class c.args.sight ++ keys_read c.args.right.now c.args.class c.args.sight) c.args.keys.now (keys_read c.args.left.now c.args.class c.args.sight) (keys_read c.args.right.now c.args.class c.args.sight) _
    c.from_residual.result c.in_err-add_reads.field-0.0 c.from_residual.ensures.0 c.from_residual.ensures.1 refl c.in_err-add_reads.ensures

pub add_two-returns : goal.add_two-returns
add_two-returns t c =
    adds_then c.args.keys.now (keys_read c.args.left.now c.args.class c.args.sight) c.add_reads.new.keys (keys_read c.args.right.now c.args.class c.args.sight) _ _ c.in_ok-add_reads.ensures c.add_reads-2.ensures
