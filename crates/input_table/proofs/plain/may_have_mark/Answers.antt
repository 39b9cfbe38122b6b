use Rattle.input_table.proofs.PlainRecords.{no_mark, other_first}
use Rattle.input_table.proofs.plain.may_have_mark.Goals as goal

pub returns-in_default : goal.returns-in_default
returns-in_default c = λ _. no_mark c.args.text.now c.in_default.ensures.cases

pub returns : goal.returns
returns c = λ other. other_first c.args.text.now _ c.in-Some.first.now c.in-Some.ensures.cases.0 other
