use Rattle.site_risings.proofs.Answering.{answers_are, fails_as, fails_over}
use Rattle.site_risings.proofs.law.answers_law.Goals as goal

pub returns : goal.returns
returns c = λ s runs S m now. (answers_are s runs S m now, fails_as s runs S m now, fails_over s runs S m now)
