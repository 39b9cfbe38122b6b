use Rattle.std.proofs.Common.{map, string_bytes}
use Rattle.command_words.specs.Choice.{choice_of}
use Rattle.command_words.specs.declared.command.Mode.TheVariants.{Run, Flat, Clocks, Stress}
use Rattle.command_answer.specs.Actions.{actions}
use Rattle.command_answer.specs.Calls.{reads_in}
use Rattle.command_stages.specs.Ends.{Halts}
use Rattle.command_stages.proofs.Halting.{passed}
use Rattle.clocked_run.specs.declared.task.Task.TheVariants as task
use Rattle.clocked_run.proofs.Runs.{run_does, run_halts, stress_does, stress_halts}
use Rattle.clocked_run.proofs.Steps.{first_step, second_step}
use Rattle.clocked_run.proofs.Tasks.{unasked, unmodelled, unmoded, does, stop_is, workers_are, members_are}
use Rattle.clocked_run.proofs.task.task_of.Goals as goal

pub returns-in_err-command-clause-ended : goal.returns-in_err-command-clause-ended
returns-in_err-command-clause-ended g c = λ o step.
    let words = map string_bytes c.args.words.now in
    let end = c.in_err-command.field-0.0 in
    passed (Halts (actions (reads_in o) words)) c.from_residual.result end c.from_residual.ensures.1 (unasked (reads_in o) words end c.in_err-command.ensures.ended)

pub returns-in_err-flat-clause-ended : goal.returns-in_err-flat-clause-ended
returns-in_err-flat-clause-ended g c = λ o step.
    let words = map string_bytes c.args.words.now in
    let end = c.in_err-flat.field-0.0 in
    passed (Halts (actions (reads_in o) words)) c.from_residual-in_err-flat.result end c.from_residual-in_err-flat.ensures.1
    (unmodelled (reads_in o) words (choice_of c.in_ok-command.command) c.in_ok-command.ensures.made end (c.in_err-flat.ensures.ended o step))

pub returns-in-Flat-clause-made : goal.returns-in-Flat-clause-made
returns-in-Flat-clause-made g c = λ o step.
    let choice = choice_of c.in_ok-command.command in
    does (reads_in o) (map string_bytes c.args.words.now) choice c.in_ok-command.ensures.made c.in_ok-flat.flat (c.in_ok-flat.ensures.made o step) Flat c.in-Flat.is
    (task.Print c.in_ok-text-in-Flat.text) (c.in_ok-text-in-Flat.ensures.printed o choice)

pub returns-in_err-text-in-Clocks-clause-ended : goal.returns-in_err-text-in-Clocks-clause-ended
returns-in_err-text-in-Clocks-clause-ended g c = λ o step.
    let words = map string_bytes c.args.words.now in
    let choice = choice_of c.in_ok-command.command in
    let end = c.in_err-text-in-Clocks.field-0.0 in
    passed (Halts (actions (reads_in o) words)) c.from_residual-in_err-text-in-Clocks.result end c.from_residual-in_err-text-in-Clocks.ensures.1
    (unmoded (reads_in o) words choice c.in_ok-command.ensures.made c.in_ok-flat.flat (c.in_ok-flat.ensures.made o step) Clocks c.in-Clocks.is end (c.in_err-text-in-Clocks.ensures.ended o choice))

pub returns-in-Clocks-clause-made : goal.returns-in-Clocks-clause-made
returns-in-Clocks-clause-made g c = λ o step.
    let choice = choice_of c.in_ok-command.command in
    does (reads_in o) (map string_bytes c.args.words.now) choice c.in_ok-command.ensures.made c.in_ok-flat.flat (c.in_ok-flat.ensures.made o step) Clocks c.in-Clocks.is
    (task.Print c.in_ok-text-in-Clocks.text) (c.in_ok-text-in-Clocks.ensures.printed o choice)

pub planned-requires-clause-stop : goal.planned-requires-clause-stop
planned-requires-clause-stop g c = stop_is (map string_bytes c.args.words.now) (choice_of c.in_ok-command.command) c.in_ok-command.ensures.made

pub planned-requires-clause-workers : goal.planned-requires-clause-workers
planned-requires-clause-workers g c = workers_are (map string_bytes c.args.words.now) (choice_of c.in_ok-command.command) c.in_ok-command.ensures.made

pub planned-requires-in-Stress-clause-stop : goal.planned-requires-in-Stress-clause-stop
planned-requires-in-Stress-clause-stop g c = stop_is (map string_bytes c.args.words.now) (choice_of c.in_ok-command.command) c.in_ok-command.ensures.made

pub planned-requires-in-Stress-clause-workers : goal.planned-requires-in-Stress-clause-workers
planned-requires-in-Stress-clause-workers g c = workers_are (map string_bytes c.args.words.now) (choice_of c.in_ok-command.command) c.in_ok-command.ensures.made

pub returns-in_err-run-in-Run-clause-ended : goal.returns-in_err-run-in-Run-clause-ended
returns-in_err-run-in-Run-clause-ended g c = λ o step.
    let words = map string_bytes c.args.words.now in
    let choice = choice_of c.in_ok-command.command in
    let end = c.in_err-run-in-Run.field-0.0 in
    let one = c.in_ok-flat.ensures.shelf in
    let two = c.in_err-run-in-Run.ensures.shelf in
    passed (Halts (actions (reads_in o) words)) c.from_residual-in_err-run-in-Run.result end c.from_residual-in_err-run-in-Run.ensures.1
    (unmoded (reads_in o) words choice c.in_ok-command.ensures.made c.in_ok-flat.flat (c.in_ok-flat.ensures.made o (first_step _ _ _ _ _ _ _ _ _ one two o step)) Run c.in-Run.is end
    (run_halts (reads_in o) choice c.in_ok-flat.flat end (c.in_err-run-in-Run.ensures.ended o (second_step _ _ _ _ _ _ _ _ _ one two o step))))

pub returns-in-Run-clause-made : goal.returns-in-Run-clause-made
returns-in-Run-clause-made g c = λ o step.
    let choice = choice_of c.in_ok-command.command in
    let one = c.in_ok-flat.ensures.shelf in
    let two = c.in_ok-run-in-Run.ensures.shelf in
    does (reads_in o) (map string_bytes c.args.words.now) choice c.in_ok-command.ensures.made c.in_ok-flat.flat (c.in_ok-flat.ensures.made o (first_step _ _ _ _ _ _ _ _ _ one two o step)) Run c.in-Run.is
    (task.Run c.in_ok-run-in-Run.run') (run_does (reads_in o) choice c.in_ok-flat.flat c.in_ok-run-in-Run.run' (c.in_ok-run-in-Run.ensures.made o (second_step _ _ _ _ _ _ _ _ _ one two o step)))

pub returns-in_err-run-in-Stress-clause-ended : goal.returns-in_err-run-in-Stress-clause-ended
returns-in_err-run-in-Stress-clause-ended g c = λ o step.
    let words = map string_bytes c.args.words.now in
    let choice = choice_of c.in_ok-command.command in
    let end = c.in_err-run-in-Stress.field-0.0 in
    let one = c.in_ok-flat.ensures.shelf in
    let two = c.in_err-run-in-Stress.ensures.shelf in
    passed (Halts (actions (reads_in o) words)) c.from_residual-in_err-run-in-Stress.result end c.from_residual-in_err-run-in-Stress.ensures.1
    (unmoded (reads_in o) words choice c.in_ok-command.ensures.made c.in_ok-flat.flat (c.in_ok-flat.ensures.made o (first_step _ _ _ _ _ _ _ _ _ one two o step)) (Stress c.in-Stress.members) c.in-Stress.is end
    (stress_halts (reads_in o) choice c.in_ok-flat.flat c.in-Stress.members end (c.in_err-run-in-Stress.ensures.ended o (second_step _ _ _ _ _ _ _ _ _ one two o step))))

pub returns-clause-made : goal.returns-clause-made
returns-clause-made g c = λ o step.
    let choice = choice_of c.in_ok-command.command in
    let one = c.in_ok-flat.ensures.shelf in
    let two = c.in_ok-run-in-Stress.ensures.shelf in
    does (reads_in o) (map string_bytes c.args.words.now) choice c.in_ok-command.ensures.made c.in_ok-flat.flat (c.in_ok-flat.ensures.made o (first_step _ _ _ _ _ _ _ _ _ one two o step)) (Stress c.in-Stress.members) c.in-Stress.is
    (task.Stress c.in-Stress.members c.in_ok-run-in-Stress.run') (stress_does (reads_in o) choice c.in_ok-flat.flat c.in_ok-run-in-Stress.run' (c.in_ok-run-in-Stress.ensures.made o (second_step _ _ _ _ _ _ _ _ _ one two o step)) c.in-Stress.members)

pub model_of-requires : goal.model_of-requires
model_of-requires g c = members_are (map string_bytes c.args.words.now) (choice_of c.in_ok-command.command) c.in_ok-command.ensures.made
