use Rattle.command_answer.specs.Layers.{ordered}
use Rattle.command_stages.specs.Ends.{Halts, IsPrintable, of_order}
use Rattle.command_stages.proofs.Halting.{passed}
use Rattle.command_stages.proofs.Layered.{ordered_halts}
use Rattle.command_stages.proofs.Short.{order_short}
use Rattle.command_stages.proofs.running.order_of.Goals as goal

pub returns-in_err-order-clause-ended : goal.returns-in_err-order-clause-ended
returns-in_err-order-clause-ended c =
    let end = c.in_err-order.field-0.0 in
    passed (Halts (ordered c.args.flat.now c.args.clocking.now)) c.from_residual.result (of_order end) c.from_residual.ensures.1
    (ordered_halts c.args.flat.now c.args.clocking.now end c.in_err-order.ensures)

pub returns-in_err-order-clause-short : goal.returns-in_err-order-clause-short
returns-in_err-order-clause-short c =
    let end = c.in_err-order.field-0.0 in
    passed IsPrintable c.from_residual.result (of_order end) c.from_residual.ensures.1
    (order_short c.args.flat.now c.args.clocking.now c.requires.model end c.in_err-order.ensures)
