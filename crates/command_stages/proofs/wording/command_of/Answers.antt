use Rattle.std.proofs.Common.{rules, map, string_bytes}
use Rattle.command_words.specs.Answer.{IsUsage}
use Rattle.command_stages.proofs.Layered.{asked_halts}
use Rattle.command_stages.proofs.wording.command_of.Goals as goal

pub returns-in-Err-Usage-clause-ended : goal.returns-in-Err-Usage-clause-ended
returns-in-Err-Usage-clause-ended c =
    let broken : IsUsage (map string_bytes c.args.words.now) c.in-Err-Usage.fault = search rules in
    asked_halts (map string_bytes c.args.words.now) c.in-Err-Usage.fault broken
