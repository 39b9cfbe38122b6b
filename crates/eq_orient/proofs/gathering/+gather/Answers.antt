use Rattle.std.proofs.Common.{ap, ◌∙◌, ◌+◌}
use Rattle.eq_orient.specs.Spine.{count_in}
use Rattle.eq_orient.specs.Gathered.{count_of}
use Rattle.eq_orient.proofs.Parted.{on_ok, chain_count, call_count, choice_count}
use Rattle.eq_orient.proofs.gathering.+gather.Goals as goal

pub gather-returns-in-Chain : goal.gather-returns-in-Chain
gather-returns-in-Chain t c = on_ok c.gather_all.result _ _ (λ all x. chain_count c.args.manner x c.args.expr.now c.in-Chain.parts c.as_slice.result.now c.in-Chain.field-1 _ _ c.in-Chain.is c.as_slice.ensures (all x)) c.gather_all.ensures

pub gather-returns-in-Apply : goal.gather-returns-in-Apply
gather-returns-in-Apply t c = on_ok c.gather_all-in-Apply.result _ _ (λ all x. call_count c.args.manner x c.args.expr.now c.in-Apply.field-0 c.in-Apply.parts c.as_slice-in-Apply.result.now _ _ c.in-Apply.is c.as_slice-in-Apply.ensures (all x)) c.gather_all-in-Apply.ensures

pub gather-returns-in_ok-gather_all-in-If-2 : goal.gather-returns-in_ok-gather_all-in-If-2
gather-returns-in_ok-gather_all-in-If-2 t c = on_ok c.gather-in-If.result _ _
    (λ all x. choice_count c.args.manner x c.args.expr.now c.in-If.conditions c.in-If.branches c.as_slice-in-If.result.now c.as_slice-in-If-2.result.now c.in-If.other _ _ _ _
    c.in-If.is c.as_slice-in-If.ensures c.as_slice-in-If-2.ensures (c.in_ok-gather_all-in-If.ensures x) (c.in_ok-gather_all-in-If-2.ensures x)
    (all x ∙ ap (λ e. count_of x c.gather_all-in-If-2.new.names.items + count_in c.args.manner x e) c.get-in-If.ensures))
    c.gather-in-If.ensures
