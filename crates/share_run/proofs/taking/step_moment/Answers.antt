use Rattle.std.proofs.Common.{rules, ◌≡◌, ap, ◌∙◌, subst, length}
use Rattle.share_run.specs.Standing.{Holding, holding_of}
use Rattle.share_run.specs.Taking.{Plan, plan_of, TakesShare}
use Rattle.share_run.proofs.Kept.{keeps_share}
use Rattle.share_run.proofs.Quiet.{goes_share}
use Rattle.share_run.proofs.taking.step_moment.Goals as goal

pub returns-then-is_none-clause-takes : goal.returns-then-is_none-clause-takes
returns-then-is_none-clause-takes g c =
    let u = c.args.uses.now in
    let p = c.args.moment.now in
    let h : Holding = holding_of u c.args.slots.now c.args.cells.now c.args.left.now in
    let plan : Plan = plan_of p in
    let copied : c.copy_from_slice.new.self ≡ p.base.items = search rules in
    let taken = c.take_moment-told in
    subst (λ base. TakesShare h c.args.model.now plan taken.new.slots base taken.new.now taken.result) copied taken.ensures.takes

pub returns-then-is_none-clause-keeps : goal.returns-then-is_none-clause-keeps
returns-then-is_none-clause-keeps g c =
    let u = c.args.uses.now in
    let p = c.args.moment.now in
    let h : Holding = holding_of u c.args.slots.now c.args.cells.now c.args.left.now in
    let plan : Plan = plan_of p in
    let copied : c.copy_from_slice.new.self ≡ p.base.items = search rules in
    let taken = c.take_moment-told in
    keeps_share h c.args.model.now plan p.base.items taken.new.now taken.result taken.new.slots taken.new.cells c.keep_left.new.left
    (subst (λ base. TakesShare h c.args.model.now plan taken.new.slots base taken.new.now taken.result) copied taken.ensures.takes)
    (taken.ensures.wide ∙ ap length copied) taken.ensures.room c.keep_left.ensures.now c.keep_left.ensures.last

pub returns-else-is_none-clause-takes : goal.returns-else-is_none-clause-takes
returns-else-is_none-clause-takes g c =
    let u = c.args.uses.now in
    let p = c.args.moment.now in
    let h : Holding = holding_of u c.args.slots.now c.args.cells.now c.args.left.now in
    let plan : Plan = plan_of p in
    let copied : c.copy_from_slice.new.self ≡ p.base.items = search rules in
    let taken = c.take_moment-told in
    subst (λ base. TakesShare h c.args.model.now plan taken.new.slots base taken.new.now taken.result) copied taken.ensures.takes

pub returns-then-is_none-clause-goes : goal.returns-then-is_none-clause-goes
returns-then-is_none-clause-goes g c =
    let u = c.args.uses.now in
    let p = c.args.moment.now in
    let h : Holding = holding_of u c.args.slots.now c.args.cells.now c.args.left.now in
    let plan : Plan = plan_of p in
    let copied : c.copy_from_slice.new.self ≡ p.base.items = search rules in
    let taken = c.take_moment-told in
    goes_share h c.args.model.now plan taken.new.slots p.base.items taken.new.now taken.result
    (subst (λ base. TakesShare h c.args.model.now plan taken.new.slots base taken.new.now taken.result) copied taken.ensures.takes)

pub returns-else-is_none-clause-goes : goal.returns-else-is_none-clause-goes
returns-else-is_none-clause-goes g c =
    let u = c.args.uses.now in
    let p = c.args.moment.now in
    let h : Holding = holding_of u c.args.slots.now c.args.cells.now c.args.left.now in
    let plan : Plan = plan_of p in
    let copied : c.copy_from_slice.new.self ≡ p.base.items = search rules in
    let taken = c.take_moment-told in
    goes_share h c.args.model.now plan taken.new.slots p.base.items taken.new.now taken.result
    (subst (λ base. TakesShare h c.args.model.now plan taken.new.slots base taken.new.now taken.result) copied taken.ensures.takes)
