use Rattle.std.proofs.Common.{refl}
use Rattle.command_words.specs.Choice.{choice_of}
use Rattle.command_answer.specs.Actions.{setting_of}
use Rattle.command_answer.specs.Calls.{reads_in}
use Rattle.command_stages.specs.Ends.{Halts}
use Rattle.command_stages.proofs.Halting.{passed}
use Rattle.clocked_run.proofs.Runs.{run_unclocked, run_unordered, run_untabled, run_uncounted, run_plans, can_run}
use Rattle.clocked_run.proofs.task.planned.Goals as goal

pub returns-in_err-clocking-clause-ended : goal.returns-in_err-clocking-clause-ended
returns-in_err-clocking-clause-ended g c = λ o step.
    let choice = choice_of c.args.command.now in
    let end = c.in_err-clocking.field-0.0 in
    passed (Halts (setting_of (reads_in o) choice c.args.flat)) c.from_residual.result end c.from_residual.ensures.1
    (run_unclocked (reads_in o) choice c.args.flat end c.in_err-clocking.ensures.ended)

pub returns-in_err-order-clause-ended : goal.returns-in_err-order-clause-ended
returns-in_err-order-clause-ended g c = λ o step.
    let choice = choice_of c.args.command.now in
    let end = c.in_err-order.field-0.0 in
    passed (Halts (setting_of (reads_in o) choice c.args.flat)) c.from_residual-in_err-order.result end c.from_residual-in_err-order.ensures.1
    (run_unordered (reads_in o) choice c.args.flat c.in_ok-clocking.clocking c.in_ok-clocking.ensures.made end c.in_err-order.ensures.ended)

pub returns-in_err-table-clause-ended : goal.returns-in_err-table-clause-ended
returns-in_err-table-clause-ended g c = λ o step.
    let choice = choice_of c.args.command.now in
    let end = c.in_err-table.field-0.0 in
    passed (Halts (setting_of (reads_in o) choice c.args.flat)) c.from_residual-in_err-table.result end c.from_residual-in_err-table.ensures.1
    (run_untabled (reads_in o) choice c.args.flat c.in_ok-clocking.clocking c.in_ok-clocking.ensures.made c.in_ok-order.order c.in_ok-order.ensures.made end (c.in_err-table.ensures.ended o step))

pub returns-in_err-plan-clause-ended : goal.returns-in_err-plan-clause-ended
returns-in_err-plan-clause-ended g c = λ o step.
    let choice = choice_of c.args.command.now in
    let end = c.in_err-plan.field-0.0 in
    passed (Halts (setting_of (reads_in o) choice c.args.flat)) c.from_residual-in_err-plan.result end c.from_residual-in_err-plan.ensures.1
    (run_uncounted (reads_in o) choice c.args.flat c.in_ok-clocking.clocking c.in_ok-clocking.ensures.made c.in_ok-order.order c.in_ok-order.ensures.made
    c.in_ok-table.table (c.in_ok-table.ensures.made o step) end c.in_err-plan.ensures.ended)

pub returns-clause-made : goal.returns-clause-made
returns-clause-made g c = λ o step.
    run_plans (reads_in o) (choice_of c.args.command.now) c.args.flat c.in_ok-clocking.clocking c.in_ok-clocking.ensures.made c.in_ok-order.order c.in_ok-order.ensures.made
    c.in_ok-table.table (c.in_ok-table.ensures.made o step) c.in_ok-plan.plan _ c.in_ok-plan.ensures.made c.in_ok-plan.ensures.ahead

pub returns-clause-can : goal.returns-clause-can
returns-clause-can g c = (
  c.requires.workers,
  can_run c.args.flat c.in_ok-clocking.clocking c.in_ok-order.order c.in_ok-table.table c.in_ok-plan.plan c.args.command.now.stop _ c.requires.model c.in_ok-clocking.ensures.made c.in_ok-order.ensures.made
      c.in_ok-table.ensures.table c.requires.stop c.in_ok-plan.ensures.made c.in_ok-plan.ensures.ahead refl refl refl refl refl,
)
