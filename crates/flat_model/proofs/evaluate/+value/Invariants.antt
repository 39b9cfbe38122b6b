use Rattle.std.proofs.Common.{◌≡◌, ◌+◌, drop}
use Rattle.flat_model.specs.Operators.{Is, chain, chained, chosen}
use Rattle.flat_model.specs.Meaning.{value_of, answers}
use Rattle.flat_model.specs.Evaluation.{seen_from}
use Rattle.flat_model.proofs.Nodes.{nodes, all_nodes}
use Rattle.flat_model.proofs.evaluate.+value.Given as goal

abbrev pub invariant-chain_value-loop-i : goal.invariant-chain_value-loop-i
invariant-chain_value-loop-i g l =
    let views = seen_from l.vantage (g.V.Lookup.views l.values) in
    chained (Is l.total) (drop l.i l.ops) (answers (drop l.i l.rest) views) ≡ chain l.ops (answers l.parts views)

abbrev pub invariant-choice_value-loop-i : goal.invariant-choice_value-loop-i
invariant-choice_value-loop-i g l =
    let views = seen_from l.vantage (g.V.Lookup.views l.values) in
    chosen (answers (drop l.i l.conditions) views) (answers (drop l.i l.branches) views) (value_of l.other views)
    ≡ chosen (answers l.conditions views) (answers l.branches views) (value_of l.other views)

abbrev pub decreases-value_seen : goal.decreases-value_seen
decreases-value_seen g l = nodes l.expr.now

abbrev pub decreases-chain_value : goal.decreases-chain_value
decreases-chain_value g l = 1 + all_nodes l.parts.now

abbrev pub decreases-call_value : goal.decreases-call_value
decreases-call_value g l = 1 + all_nodes l.parts.now

abbrev pub decreases-choice_value : goal.decreases-choice_value
decreases-choice_value g l = 1 + (all_nodes l.conditions.now + (all_nodes l.branches.now + nodes l.other.now))
