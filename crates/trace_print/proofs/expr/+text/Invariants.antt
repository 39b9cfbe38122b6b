use Rattle.std.proofs.Common.{◌≡◌, ◌++◌, codes, map, drop}
use Rattle.trace_print.specs.Printed.{expr_text, chain_text, choices, separated}
use Rattle.trace_print.proofs.Joins.{following, links}
use Rattle.trace_print.proofs.expr.+text.Given as goal

abbrev pub invariant-put_chain-loop-i : goal.invariant-put_chain-loop-i
invariant-put_chain-loop-i l = l.out.items ++ links (drop l.i l.ops) (map (expr_text l.names) (drop l.i l.rest)) ≡ l.fn.out.items ++ chain_text l.ops (map (expr_text l.names) l.fn.parts)

abbrev pub invariant-put_expr-loop-i : goal.invariant-put_expr-loop-i
invariant-put_expr-loop-i l =
    l.out.items ++ (choices l.word (map (expr_text l.names) (drop l.i l.condition-items)) (map (expr_text l.names) (drop l.i l.branches)) ++ (codes " else " ++ expr_text l.names l.other ++ codes ")"))
    ≡ l.fn.out.items ++ expr_text l.names l.fn.expr

abbrev pub invariant-put_list-loop-part : goal.invariant-put_list-loop-part
invariant-put_list-loop-part l = l.out.items ++ following (map (expr_text l.names) (drop l.part-index l.rest)) ≡ l.fn.out.items ++ separated (map (expr_text l.names) l.fn.parts)
