use Rattle.input_table.proofs.Sums.{plain_time, no_addend, summed}
use Rattle.input_table.proofs.fields.instant_of.Goals as goal

pub returns-in-None : goal.returns-in-None
returns-in-None c = plain_time c.args.form c.args.before c.args.text.now c.time_of.result c.in-None.ensures c.time_of.ensures

pub returns-in-None-time_of : goal.returns-in-None-time_of
returns-in-None-time_of c t is = no_addend c.args.form c.args.before c.args.text.now c.in-Some.more.now c.in-Some.ensures.1 c.in-None-time_of.ensures t is

pub returns-in-Some-time_of : goal.returns-in-Some-time_of
returns-in-Some-time_of c = summed c.args.form c.args.before c.args.text.now c.in-Some.more.now c.in-Some-time_of.more c.later_by.result c.in-Some.ensures c.in-Some-time_of.ensures c.later_by.ensures
