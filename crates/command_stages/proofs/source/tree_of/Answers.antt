use Rattle.std.proofs.Common.{ap, sym, subst, ◌∙◌, Err}
use Rattle.mo_lexer.specs.Tokens.{Lexes}
use Rattle.flat_answer.specs.Places.{place_at}
use Rattle.command_answer.specs.Codes.{code_of_lexical}
use Rattle.command_stages.specs.declared.end.End.TheVariants.{Refused}
use Rattle.command_stages.specs.Ends.{Halts}
use Rattle.command_stages.specs.Segments.{tree_of}
use Rattle.command_stages.proofs.Texts.{unlexed}
use Rattle.command_stages.proofs.source.tree_of.Goals as goal

pub returns-in-Err-Fault-clause-ended : goal.returns-in-Err-Fault-clause-ended
returns-in-Err-Fault-clause-ended c =
    let text = c.args.text.now in
    subst (λ end. Halts (tree_of text) end)
    (sym (c.refused_at.ensures ∙ ap (λ at. Refused c.lexical_code.result (place_at text at)) c.in-Err-Fault.at-is
    ∙ ap (λ code. Refused code (place_at text c.in-Err-Fault.at)) (c.lexical_code.ensures ∙ ap code_of_lexical c.in-Err-Fault.code-is)))
    (unlexed text c.in-Err-Fault.code c.in-Err-Fault.at (subst (λ e. Lexes text (Err e)) c.in-Err-Fault.field-0-is c.in-Err-Fault.ensures))
