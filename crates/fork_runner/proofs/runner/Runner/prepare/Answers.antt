use Rattle.fork_runner.proofs.Starting.{first_stands}
use Rattle.fork_runner.proofs.runner.Runner.prepare.Goals as goal

pub returns-clause-stands : goal.returns-clause-stands
returns-clause-stands g c = λ s prepared. first_stands s (record { flat = c.args.flat; clocking = c.args.clocking; table = c.args.table }) c.args.order.now (g.P.TickSource.planned c.args.plan) c.in_ok-steps.steps c.in_ok-sheet.sheet prepared
    c.in_ok-sheet.ensures c.in_ok-steps.ensures.few c.in_ok-steps.ensures.prepared
