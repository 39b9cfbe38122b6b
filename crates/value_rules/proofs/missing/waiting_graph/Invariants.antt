use Rattle.std.proofs.Common.{◌≡◌, map, take, length}
use Rattle.mo_order.specs.Graphs.{graph_of}
use Rattle.parameter_values.specs.Givens.{valued}
use Rattle.value_rules.specs.private.Missing.{waiting}
use Rattle.value_rules.proofs.missing.waiting_graph.Given as goal

abbrev pub invariant-loop-parameter : goal.invariant-loop-parameter
invariant-loop-parameter l = graph_of l.graph.items ≡ map (waiting l.values.text.now l.values.numbers.now l.values.slots.now (length l.parameters)) (map valued (take l.parameter-index l.parameters))
