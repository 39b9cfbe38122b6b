use Rattle.std.proofs.Common.{arith, ap, ◌∙◌, length, length-drop}
use Rattle.std.proofs.Common.{subst, List, Some}
use Rattle.mo_lexer.specs.private.Front.{EndsText}
use Rattle.mo_lexer.proofs.Quotes.{quoted_text}
use Rattle.mo_lexer.proofs.front.quoted.Goals as goal

pub returns-in-Some : goal.returns-in-Some
returns-in-Some c = quoted_text c.args.text.now c.in-Some.at c.requires.some c.requires.quote (subst (λ (z : List _). EndsText z (Some c.in-Some.at)) c.rest_from.ensures c.in-Some.ensures)

pub rest_from-requires : goal.rest_from-requires
rest_from-requires c = omega (arith, c.requires.some)

pub overflow_add-result : goal.overflow_add-result
overflow_add-result c =
    let size = ap length c.rest_from.ensures ∙ length-drop 1 c.args.text.now in
    omega (arith, size, c.in-Some.ensures.0)
