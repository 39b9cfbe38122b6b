use Rattle.std.proofs.Common.{refl}
use Rattle.tick_plan.proofs.Steps.{sound_initial, first_step, nothing_left, steps_at}
use Rattle.tick_plan.proofs.stepping.step.Goals as goal

pub returns-in-None-clause-sound : goal.returns-in-None-clause-sound
returns-in-None-clause-sound c = sound_initial c.args.axis.now c.requires c.in-None.is

pub returns-in-None-clause-steps : goal.returns-in-None-clause-steps
returns-in-None-clause-steps c ts left = first_step c.args.axis.now.course ts c.in-None.is left

pub returns-in-None-next_instant-clause-steps : goal.returns-in-None-next_instant-clause-steps
returns-in-None-next_instant-clause-steps c ts left = (nothing_left c.args.axis.now.course _ ts c.in-Some.is (rw c.in-None-next_instant.is at c.next_instant.ensures) left, refl)

pub returns-in-Some-next_instant-clause-steps : goal.returns-in-Some-next_instant-clause-steps
returns-in-Some-next_instant-clause-steps c ts left = steps_at c.args.axis.now.course c.pass.new.axis.course _ c.in-Some-next_instant.at c.in-Some.is (rw c.in-Some-next_instant.is at c.next_instant.ensures) c.pass.ensures.given c.pass.ensures.same.course ts left
