use Rattle.std.proofs.Common.{rules, arith, false, length, ◌<◌, ◌≤◌}
use Rattle.partition_step.proofs.Lists.{written_next, written_last}
use Rattle.moment_steps.proofs.ticks.ask_ticks.Goals as goal

pub loop-class-preserved : goal.loop-class-preserved
loop-class-preserved g c =
    let size = c.loop-class.invariant.size in
    written_next (λ class old. g.P.Ticking.ticks c.args.plan.now class) c.args.ticks.now c.loop-class.ticks c.loop-class.class c.ticking.result false c.loop-class.invariant (omega (arith, c.loop-class-test.true, size)) c.ticking.ensures

pub returns : goal.returns
returns g c =
    let all : length c.args.ticks.now ≤ c.loop-class.class = search rules in
    written_last (λ class old. g.P.Ticking.ticks c.args.plan.now class) c.args.ticks.now c.loop-class.ticks c.loop-class.class c.loop-class.invariant all
