use Rattle.input_table.proofs.PlainRecords.{runs_none, runs_more}
use Rattle.input_table.proofs.plain.field_len.Goals as goal

pub loop-at-init : goal.loop-at-init
loop-at-init c = runs_none

pub loop-at-preserved : goal.loop-at-preserved
loop-at-preserved c = let other = c.if-ends_field.ensures in runs_more c.args.text.now c.loop-at.at c.loop-at-test.true other.0 other.1 other.2 c.loop-at.invariant
