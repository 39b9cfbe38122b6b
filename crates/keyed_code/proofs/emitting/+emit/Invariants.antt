use Rattle.std.proofs.Common.{◌+◌, ◌*◌, length, map, drop}
use Rattle.flat_model.proofs.Nodes.{nodes, all_nodes}
use Rattle.step_code.specs.Code.{piece_of, more_code, if_code}
use Rattle.keyed_code.specs.Table.{table_of}
use Rattle.step_code.proofs.Emitting.{CodeLeft}
use Rattle.keyed_code.proofs.emitting.+emit.Given as goal

abbrev pub invariant-emit_chain-loop-i : goal.invariant-emit_chain-loop-i
invariant-emit_chain-loop-i l =
    CodeLeft l.out l.fn.out (more_code (drop l.i l.others) (drop l.i (map (piece_of (table_of l.table)) l.rest)) l.to l.free) l.i (length l.others)

abbrev pub decreases-emit_chain-loop-i : goal.decreases-emit_chain-loop-i
decreases-emit_chain-loop-i l = l.i

abbrev pub invariant-emit_choice-loop-i : goal.invariant-emit_choice-loop-i
invariant-emit_choice-loop-i l =
    CodeLeft l.out l.fn.out (if_code (drop l.i (map (piece_of (table_of l.table)) l.conditions)) (drop l.i (map (piece_of (table_of l.table)) l.branches)) (piece_of (table_of l.table) l.other) l.to l.free) l.i (length l.conditions)

abbrev pub decreases-emit_choice-loop-i : goal.decreases-emit_choice-loop-i
decreases-emit_choice-loop-i l = l.i

abbrev pub decreases-emit : goal.decreases-emit
decreases-emit l = 4 * nodes l.expr.now

abbrev pub decreases-emit_held : goal.decreases-emit_held
decreases-emit_held l = 4 * nodes l.expr.now + 1

abbrev pub decreases-emit_lazy : goal.decreases-emit_lazy
decreases-emit_lazy l = 4 * nodes l.part.now + 1

abbrev pub decreases-emit_joined : goal.decreases-emit_joined
decreases-emit_joined l = 4 * nodes l.part.now + 2

abbrev pub decreases-emit_unary : goal.decreases-emit_unary
decreases-emit_unary l = 4 * nodes l.part.now + 2

abbrev pub decreases-emit_binary : goal.decreases-emit_binary
decreases-emit_binary l = 4 * (nodes l.left.now + nodes l.right.now) + 2

abbrev pub decreases-emit_first : goal.decreases-emit_first
decreases-emit_first l = 4 * (nodes l.left.now + nodes l.right.now) + 3

abbrev pub decreases-emit_turn : goal.decreases-emit_turn
decreases-emit_turn l = 4 * (nodes l.condition.now + nodes l.branch.now) + 2

abbrev pub decreases-emit_chain : goal.decreases-emit_chain
decreases-emit_chain l = 4 * all_nodes l.parts.now + 4

abbrev pub decreases-emit_choice : goal.decreases-emit_choice
decreases-emit_choice l = 4 * (all_nodes l.conditions.now + (all_nodes l.branches.now + nodes l.other.now)) + 4

abbrev pub decreases-emit_call : goal.decreases-emit_call
decreases-emit_call l = 4 * all_nodes l.parts.now + 4
