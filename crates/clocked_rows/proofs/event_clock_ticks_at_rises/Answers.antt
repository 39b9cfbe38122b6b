use Rattle.clocked_rows.proofs.EventClock.{count}
use Rattle.clocked_rows.proofs.event_clock_ticks_at_rises.Goals as goal

pub returns-clause-plan : goal.returns-clause-plan
returns-clause-plan c = count
