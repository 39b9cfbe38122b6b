use Rattle.std.proofs.Common.{rules}
use Rattle.fork_steps.proofs.Stepped.{stepped_none, stepped_next, stepped_all, ready_at}
use Rattle.fork_steps.proofs.turns.step_in_turn.Goals as goal

pub loop-place-init : goal.loop-place-init
loop-place-init g c = stepped_none (λ old new. g.T.Step.steps old c.args.scene.now new) c.args.slots.now

pub step_slot-requires : goal.step_slot-requires
step_slot-requires g c =
    ready_at (λ old new. g.T.Step.steps old c.args.scene.now new) (λ piece. g.T.Step.can_step piece c.args.scene.now) c.args.slots.now c.loop-place.slots c.loop-place.place _ c.requires c.loop-place.invariant (search rules)

pub loop-place-preserved : goal.loop-place-preserved
loop-place-preserved g c =
    stepped_next (λ old new. g.T.Step.steps old c.args.scene.now new) c.args.slots.now c.loop-place.slots c.loop-place.place _ c.step_slot.new.slot c.loop-place.invariant (search rules) c.step_slot.ensures

pub returns : goal.returns
returns g c = stepped_all (λ old new. g.T.Step.steps old c.args.scene.now new) c.args.slots.now c.loop-place.slots c.loop-place.place (search rules) c.loop-place.invariant
