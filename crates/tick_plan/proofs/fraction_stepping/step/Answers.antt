use Rattle.std.proofs.Common.{refl}
use Rattle.tick_plan.proofs.Fractions.{whole_initial}
use Rattle.tick_plan.proofs.Steps.{first_step, nothing_left, steps_at}
use Rattle.tick_plan.proofs.Untold.{lift}
use Rattle.tick_plan.proofs.fraction_stepping.step.Goals as goal

pub returns-in-None-clause-whole : goal.returns-in-None-clause-whole
returns-in-None-clause-whole c = lift (λ is. whole_initial c.args.course.now is c.in-None.is) c.requires

pub returns-in-None-clause-steps : goal.returns-in-None-clause-steps
returns-in-None-clause-steps c ts left = first_step c.args.course.now ts c.in-None.is left

pub returns-in-None-next_instant-clause-steps : goal.returns-in-None-next_instant-clause-steps
returns-in-None-next_instant-clause-steps c ts left = (nothing_left c.args.course.now _ ts c.in-Some.is (rw c.in-None-next_instant.is at c.next_instant.ensures) left, refl)

pub returns-in-Some-next_instant-clause-steps : goal.returns-in-Some-next_instant-clause-steps
returns-in-Some-next_instant-clause-steps c ts left = steps_at c.args.course.now c.pass.new.course _ c.in-Some-next_instant.at c.in-Some.is (rw c.in-Some-next_instant.is at c.next_instant.ensures) c.pass.ensures.given c.pass.ensures.same ts left
