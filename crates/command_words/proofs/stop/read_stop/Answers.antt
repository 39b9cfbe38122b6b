use Rattle.std.proofs.Common.{◌*◌, ◌^◌, ◌<◌, rules}
use Rattle.rational_time.specs.Fraction.{second_limit}
use Rattle.command_words.proofs.StopTexts.{no_stop_unread, stop_read, no_late_stop}
use Rattle.command_words.proofs.stop.read_stop.Goals as goal

pub returns-in-Err : goal.returns-in-Err
returns-in-Err c = no_stop_unread c.args.text.now c.read.result c.in-Err.field-0 c.in-Err.is c.read.ensures.malformed c.read.ensures.too_fine

pub returns-then-is_early : goal.returns-then-is_early
returns-then-is_early c = stop_read c.args.text.now c.read.result c.in-Ok.stop c.in-Ok.is (rw c.in-Ok.is at c.read.ensures.value) c.read.ensures.too_fine (let early : c.in-Ok.stop.num < second_limit * c.in-Ok.stop.den = search rules in early)

pub returns-else-is_early : goal.returns-else-is_early
returns-else-is_early c = no_late_stop c.args.text.now c.in-Ok.stop (rw c.in-Ok.is at c.read.ensures.value) (λ early. let h = c.is_early.ensures.1 early in search (rules, h))
