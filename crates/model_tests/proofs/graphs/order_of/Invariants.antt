use Rattle.std.proofs.Common.{ℕ, ◌<◌, length}
use Rattle.mo_order.specs.Graphs.{IsEdge, graph_of}
use Rattle.model_tests.proofs.graphs.order_of.Given as goal

abbrev pub invariant-loop-x : goal.invariant-loop-x
invariant-loop-x g l = (x y : ℕ) → x < l.x → IsEdge (graph_of l.graph) x y → y < length l.graph
