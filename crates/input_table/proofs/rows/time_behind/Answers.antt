use Rattle.std.proofs.Common.{arith}
use Rattle.input_table.proofs.Cells.{not_below}
use Rattle.input_table.proofs.rows.time_behind.Goals as goal

pub returns-else-num-eq0 : goal.returns-else-num-eq0
returns-else-num-eq0 c = (c.in-None.is, c.in-Some.time, c.in-Some.ensures.0, λ zero_. omega (arith, zero_, c.if-num-eq0.false, c.num.ensures))

pub returns-in_default-compare : goal.returns-in_default-compare
returns-in_default-compare c = (c.in-Some-before.last, c.in-Some-before.is, c.in-Some.time, c.in-Some.ensures.0, not_below _ _ c.compare.result c.compare.ensures c.in_default-compare.not-Less)
