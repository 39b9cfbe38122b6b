use Rattle.std.proofs.Common.{◌≡◌, ◌-◌}
use Rattle.mo_order.specs.Graphs as graphs
use Rattle.mo_order.specs.private.Rounds as rounds
use Rattle.mo_order.proofs.rounds.after_rounds.Given as goal

abbrev pub invariant-loop : goal.invariant-loop
invariant-loop l = rounds.rounds (graphs.graph_of l.graph) l.now.items (l.steps - l.counter) ≡ rounds.rounds (graphs.graph_of l.graph) l.fn.marks.items l.steps
