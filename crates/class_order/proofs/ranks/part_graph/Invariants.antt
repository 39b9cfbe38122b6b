use Rattle.std.proofs.Common.{◌≡◌, take}
use Rattle.mo_order.specs.Graphs.{graph_of}
use Rattle.class_order.specs.private.Ranks as meaning
use Rattle.class_order.proofs.ranks.part_graph.Given as goal

abbrev pub invariant-loop-entry : goal.invariant-loop-entry
invariant-loop-entry l = graph_of l.graph.items ≡ meaning.part_graph l.file.text.now l.file.classes.now l.ranks (take l.entry-index l.placed)
