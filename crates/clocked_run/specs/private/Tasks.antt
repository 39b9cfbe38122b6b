-- What is left to do of a command.
use Rattle.std.specs.Prelude.{◌≤◌, List}
use Rattle.flat_model.specs.Setting.{Setting}
use Rattle.flat_model.specs.Uses.{Use}
use Rattle.moment_theory.specs.Free.{IsOrdered}
use Rattle.command_answer.specs.Actions.{Runs}
use Rattle.command_answer.specs.Stages.{Answer, Stage, printed}
use Rattle.run_tally.specs.Tallies.{AddsUp}
use Rattle.run_trace.specs.Planned.{IsPlannedRun}
use Rattle.run_trace.specs.declared.model.PlannedRun.{PlannedRun}
use Rattle.clocked_run.specs.declared.task.Task.{Task}
use Rattle.clocked_run.specs.declared.task.Task.TheVariants.{Print, Run, Stress}

-- the command ends in a stage with the text, with each answer of the run, or with what each run adds up to
abbrev pub Ends : Stage (Unit {0}) → Task → Type 0
Ends stage (Print text) = stage.ends (printed text.items)
Ends stage (Run run) = (s : Setting) → IsPlannedRun run s → (answer : Answer) → Runs s answer → stage.ends answer
Ends stage (Stress members run) = (s : Setting) → IsPlannedRun run s → (answer : Answer) → AddsUp members s answer → stage.ends answer

-- the stage makes each setting of the run, and that has a free order
abbrev pub Plans : Stage Setting → PlannedRun → Type 0
Plans stage run = (s : Setting) → IsPlannedRun run s → stage.makes s × ((used : List Use) × (free : List Use) × IsOrdered s used free)

-- a run of some setting, with 1 to 64 workers
abbrev pub CanRun : PlannedRun → Type 0
CanRun run = ((1 ≤ run.workers) × (run.workers ≤ 64)) × ((s : Setting) × IsPlannedRun run s)

abbrev pub CanDo : Task → Type 0
CanDo (Print text) = Unit {0}
CanDo (Run run) = CanRun run
CanDo (Stress members run) = CanRun run
