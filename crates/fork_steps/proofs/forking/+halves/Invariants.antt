use Rattle.std.proofs.Common.{◌+◌, ◌-◌, ◌*◌}
use Rattle.fork_steps.proofs.forking.+halves.Given as goal

abbrev pub decreases-step_among : goal.decreases-step_among
decreases-step_among g l = 4 * l.workers

abbrev pub decreases-step_both : goal.decreases-step_both
decreases-step_both g l = 4 * (l.low + l.high) - 1

abbrev pub decreases-step_both-one : goal.decreases-step_both-one
decreases-step_both-one g l = 4 * l.low + 1

abbrev pub decreases-step_both-two : goal.decreases-step_both-two
decreases-step_both-two g l = 4 * l.high + 1
