use Rattle.std.proofs.Common.{subst}
use Rattle.command_words.specs.Answer.IsUsage.{no_choice}
use Rattle.command_words.specs.Choice.{IsMisfit}
use Rattle.command_words.proofs.reading.read_words.Goals as goal

pub returns-in-Err-clause-usage : goal.returns-in-Err-clause-usage
returns-in-Err-clause-usage c =
    no_choice c.in-Ok.ensures.given.0 (subst (λ t. IsMisfit t c.in-Err.fault) c.in-Ok.ensures.given.1 c.in-Err.ensures.misfit)
