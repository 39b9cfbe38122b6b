use Rattle.std.proofs.Common.{◌≡◌, drop}
use Rattle.flat_model.specs.Values.{stated, views_of}
use Rattle.flat_model.specs.Operators.{chain, chained, chosen}
use Rattle.flat_model.specs.Meaning.{value_of, answers}
use Rattle.flat_model.proofs.total.+answer.Given as goal

abbrev pub invariant-chain_answer-loop-i : goal.invariant-chain_answer-loop-i
invariant-chain_answer-loop-i l =
    chained (stated l.total) (drop l.i l.ops) (answers (drop l.i l.rest) (views_of l.now)) ≡ chain l.ops (answers l.parts (views_of l.now))

abbrev pub invariant-answer-loop-i : goal.invariant-answer-loop-i
invariant-answer-loop-i l =
    chosen (answers (drop l.i l.condition-items) (views_of l.now)) (answers (drop l.i l.branches) (views_of l.now)) (value_of l.other (views_of l.now))
    ≡ value_of l.fn.expr (views_of l.now)
