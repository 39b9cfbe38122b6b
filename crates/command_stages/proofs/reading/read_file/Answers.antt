use Rattle.std.proofs.Common.{refl, ap, Err}
use Rattle.command_stages.proofs.Texts.{file_makes, file_too_long, file_unread}
use Rattle.command_stages.proofs.reading.read_file.Goals as goal

pub returns-in-Ok-clause-made : goal.returns-in-Ok-clause-made
returns-in-Ok-clause-made g c = λ o step.
    file_makes o _ _ _ _ step c.args.limit c.args.place c.args.name.now c.in-Ok.bytes.items c.in-Ok.ensures.whole c.in-Ok.ensures.within

pub returns-in-Err-Failed-clause-ended : goal.returns-in-Err-Failed-clause-ended
returns-in-Err-Failed-clause-ended g c = λ o step.
    file_unread o _ _ _ _ step c.args.limit c.args.place c.args.name.now c.args.name refl (c.in-Err-Failed.ensures.failed (ap Err c.in-Err-Failed.field-0-is))

pub returns-in-Err-TooLong-clause-ended : goal.returns-in-Err-TooLong-clause-ended
returns-in-Err-TooLong-clause-ended g c = λ o step.
    file_too_long o _ _ _ _ step c.args.limit c.args.place c.args.name.now (c.in-Err-TooLong.ensures.long (ap Err c.in-Err-TooLong.field-0-is))
