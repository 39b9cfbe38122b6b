use Rattle.fork_steps.proofs.Stepped.{AreSteppedTo}
use Rattle.fork_steps.proofs.turns.step_in_turn.Given as goal

abbrev pub invariant-loop-place : goal.invariant-loop-place
invariant-loop-place g l = AreSteppedTo (λ old new. g.T.Step.steps old l.scene new) l.place l.fn.slots l.slots
