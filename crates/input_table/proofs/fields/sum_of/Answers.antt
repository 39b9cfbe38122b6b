use Rattle.input_table.proofs.Sums.{plus_sum}
use Rattle.input_table.proofs.fields.sum_of.Goals as goal

pub returns-in-Some : goal.returns-in-Some
returns-in-Some c = rw c.in-Some.is (plus_sum c.in-Some.before c.args.more c.plus.result c.plus.ensures.sum c.plus.ensures.none)
