use Rattle.flat_model.proofs.MeaningLaws as laws
use Rattle.flat_model.proofs.meaning_law.event_clock_law.Goals as goal

pub returns-clause-ticks : goal.returns-clause-ticks
returns-clause-ticks c = laws.event_ticks

pub returns-clause-interval : goal.returns-clause-interval
returns-clause-interval c = laws.event_interval

pub returns-clause-plan : goal.returns-clause-plan
returns-clause-plan c = laws.event_plan

pub returns-clause-axis : goal.returns-clause-axis
returns-clause-axis c = laws.event_axis
