use Rattle.std.proofs.Common.{◌≡◌, ◌+◌, ◌*◌, drop}
use Rattle.flat_model.proofs.Nodes.{nodes, all_nodes}
use Rattle.cell_keys.specs.Cells.{with_keys}
use Rattle.part_layout.specs.Reads.{all_keys_read}
use Rattle.part_layout.proofs.reads.+reads.Given as goal

abbrev pub invariant-add_all-loop-part : goal.invariant-add_all-loop-part
invariant-add_all-loop-part l = with_keys l.keys (all_keys_read (drop l.part-index l.parts) l.class l.sight) ≡ with_keys l.fn.keys (all_keys_read l.parts l.class l.sight)

abbrev pub decreases-add_reads : goal.decreases-add_reads
decreases-add_reads l = 4 * nodes l.expr.now

abbrev pub decreases-add_all : goal.decreases-add_all
decreases-add_all l = 4 * all_nodes l.parts.now + 4

abbrev pub decreases-add_two : goal.decreases-add_two
decreases-add_two l = 4 * (nodes l.left.now + nodes l.right.now) + 2

abbrev pub decreases-add_choice : goal.decreases-add_choice
decreases-add_choice l = 4 * (all_nodes l.conditions.now + (all_nodes l.branches.now + nodes l.other.now)) + 5
