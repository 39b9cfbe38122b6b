use Rattle.std.proofs.Common.{refl}
use Rattle.std.proofs.lemmas.Bool.{false≢true}
use Rattle.input_table.proofs.Times.{time_is, out_of_range, no_time}
use Rattle.input_table.proofs.fields.time_of.Goals as goal

pub returns-in-Err : goal.returns-in-Err
returns-in-Err c t is = no_time c.args.text.now c.in-Err.field-0 c.read.result c.in-Err.is c.read.ensures.malformed c.read.ensures.too_fine t is

pub returns-then-is_in_range : goal.returns-then-is_in_range
returns-then-is_in_range c = time_is c.args.text.now c.in-Ok.time c.in-Ok.ensures.value (c.if-is_in_range.ensures.0 refl)

pub returns-else-is_in_range : goal.returns-else-is_in_range
returns-else-is_in_range c t is = out_of_range c.args.text.now c.in-Ok.time c.in-Ok.ensures.value (λ w. false≢true (c.if-is_in_range.ensures.1 w)) t is
