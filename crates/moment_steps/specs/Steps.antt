-- What stands of the steps of a model before, in and behind a moment. This project's own.
use Rattle.moment_body.specs.Stages.{Stages}
use Rattle.moment_body.specs.Stepping.{Standing, Based, Ended}
use Rattle.moment_steps.specs.declared.staged.StagedSteps.{StagedSteps}
use Rattle.moment_steps.specs.Settled.{stages_in}
use Rattle.moment_steps.specs.Standing.{StandsBefore, HasEnded}

-- the uses by their stages
abbrev pub stages_of : StagedSteps → Stages
stages_of w = stages_in w.pure w.waiting w.slots.items

-- before a moment
abbrev pub stands_of : StagedSteps → Standing
stands_of w s A n = StandsBefore s A n w.pure w.waiting w.reads w.always w.numbers w.cells.items w.ticks.items w.places w.slots.items w.left

-- the same once the pure uses were taken
abbrev pub based_of : StagedSteps → Based
based_of w s A n base = StandsBefore s A n w.pure w.waiting w.reads w.always w.numbers w.cells.items w.ticks.items w.places w.slots.items w.left

-- and once all were
abbrev pub ended_of : StagedSteps → Ended
ended_of w s A n base last = HasEnded s A n last w.pure w.waiting w.reads w.always w.numbers w.cells.items w.ticks.items w.places w.slots.items w.left
