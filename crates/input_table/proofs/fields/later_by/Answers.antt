use Rattle.std.proofs.lemmas.Bool.{false≢true}
use Rattle.input_table.proofs.Sums.{sum_out}
use Rattle.input_table.proofs.fields.later_by.Goals as goal

pub returns-else-is_in_range : goal.returns-else-is_in_range
returns-else-is_in_range c t is within =
    sum_out c.args.before c.args.more c.in-Some.sum c.in-Some.ensures (λ w. false≢true (c.if-is_in_range.ensures.1 w)) t is within
