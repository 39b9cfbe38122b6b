use Rattle.std.proofs.Common.{◌∙◌, ap, arith}
use Rattle.mo_order.specs.Graphs as graphs
use Rattle.mo_order.specs.private.Rounds as rounds
use Rattle.mo_order.proofs.Marks.{round_more}
use Rattle.mo_order.proofs.rounds.after_rounds.Goals as goal

pub loop-preserved : goal.loop-preserved
loop-preserved c =
    round_more (graphs.graph_of c.args.graph.now) c.loop.now.items c.in_ok-now.now.items c.args.steps c.loop.counter (omega arith)
    (c.in_ok-now.ensures ∙ ap (rounds.before (graphs.graph_of c.args.graph.now)) c.as_slice.ensures.value) ∙ c.loop.invariant
