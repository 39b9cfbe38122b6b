use Rattle.std.proofs.Common.{◌∙◌}
use Rattle.clap.specs.Words.{app_of}
use Rattle.command_words.proofs.GivenValues.{are_taken, given_of_found, not_taken, untaken_of}
use Rattle.command_words.proofs.arguments.read_given.Goals as goal

pub returns-in-Ok-try_get_matches_from-clause-given : goal.returns-in-Ok-try_get_matches_from-clause-given
returns-in-Ok-try_get_matches_from-clause-given c = (
  are_taken (app_of c.in-Ok.command) _ c.in-Ok.ensures c.in-Ok-try_get_matches_from.ensures.kinds,
  given_of_found c.in-Ok-try_get_matches_from.matches _ c.from_matches.result (app_of c.in-Ok.command) c.in-Ok.ensures
      c.in-Ok-try_get_matches_from.ensures.matches c.from_matches.ensures,
)

pub returns-in-Err-clause-untaken : goal.returns-in-Err-clause-untaken
returns-in-Err-clause-untaken c =
    untaken_of _ c.end_of.result (λ is. not_taken (app_of c.in-Ok.command) _ c.in-Err.error c.in-Ok.ensures c.in-Err.ensures.kinds
    (λ memory. c.end_of.ensures is (c.kind.ensures ∙ memory)))
