use Rattle.mo_lexer.proofs.Laws.{never_both}
use Rattle.mo_flatten.proofs.rules.tokens_of.Goals as goal

pub unreachable-requires : goal.unreachable-requires
unreachable-requires c =
    let fault = rw c.in-Err-Fault.field-0-is at c.in-Err-Fault.ensures in
    never_both c.args.text.now c.requires.tokens.0 _ _ c.requires.tokens.1 fault
