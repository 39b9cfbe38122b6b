use Rattle.std.proofs.Common.{◌∙◌, sym, take, drop, length, ◌-◌, arith}
use Rattle.parameter_values.proofs.OutcomeParts.{chain_done}
use Rattle.parameter_values.proofs.evaluate.chain_outcome.Goals as goal

pub returns-after-loop-i : goal.returns-after-loop-i
returns-after-loop-i c =
    sym (chain_done c.loop-i.total (drop c.loop-i.i c.args.ops.now) c.loop-i.i (take (length c.args.parts.now - 1) (drop 1 c.args.parts.now)) (omega arith)) ∙ c.loop-i.invariant
