use Rattle.std.proofs.Common.{◌≡◌, ◌+◌, ◌++◌, ◌∙◌, List, Some, ap, sym, subst, append_assoc, length, rules, arith}
use Rattle.mo_lexer.specs.declared.token.Token.{Token}
use Rattle.mo_lexer.specs.declared.token.TokenKind.TheVariants.{End}
use Rattle.mo_lexer.specs.Tokens.{Divided, mark_len, ended}
use Rattle.mo_lexer.specs.private.Front.{noted}
use Rattle.mo_lexer.proofs.Steps.{next_within, next_tokens, next_fault}
use Rattle.mo_lexer.proofs.lexing.lex.Goals as goal

pub loop-at-smaller : goal.loop-at-smaller
loop-at-smaller c =
    let text = c.args.text.now in let at = c.loop-at.at in let next = c.in-Ok.next in
    let moves = next_within text at next.1 next.0 c.loop-at-test.true c.in-Ok.ensures in
    omega (arith, moves.0, moves.1)

pub loop-at-preserved : goal.loop-at-preserved
loop-at-preserved c =
    let text = c.args.text.now in let at = c.loop-at.at in let next = c.in-Ok.next in
    let moves = next_within text at next.1 next.0 c.loop-at-test.true c.in-Ok.ensures in
    let kept : c.note.new.tokens ≡ c.loop-at.tokens ++ noted next.0 at (at + next.1) = search rules in
    record {
      within = moves.1;
      tokens = λ rest divided. subst (Divided text (mark_len text)) (sym (append_assoc c.loop-at.tokens (noted next.0 at (at + next.1)) rest) ∙ ap (λ (ts : List Token). ts ++ rest) (sym kept))
          (c.loop-at.invariant.tokens _ (next_tokens text at next.1 next.0 rest c.in-Ok.ensures divided));
      fault = λ code place faulty. c.loop-at.invariant.fault code place (next_fault text at next.1 next.0 code place c.in-Ok.ensures faulty);
    }

pub returns : goal.returns
returns c =
    let text = c.args.text.now in let at = c.loop-at.at in
    let kept : c.note-2.new.tokens ≡ c.loop-at.tokens ++ noted (Some End) at at = search rules in
    let all : at ≡ length text = omega arith in
    subst (Divided text (mark_len text)) (sym kept) (c.loop-at.invariant.tokens _ (ended at all))

pub overflow_add-at : goal.overflow_add-at
overflow_add-at c =
    let moves = next_within c.args.text.now c.loop-at.at c.in-Ok.next.1 c.in-Ok.next.0 c.loop-at-test.true c.in-Ok.ensures in
    omega (arith, moves.1, c.requires)

pub overflow_cast-at-in-loop-at : goal.overflow_cast-at-in-loop-at
overflow_cast-at-in-loop-at c =
    let moves = next_within c.args.text.now c.loop-at.at c.in-Ok.next.1 c.in-Ok.next.0 c.loop-at-test.true c.in-Ok.ensures in
    omega (arith, moves.1, c.requires)

pub overflow_add-at-in-loop-at : goal.overflow_add-at-in-loop-at
overflow_add-at-in-loop-at c =
    let moves = next_within c.args.text.now c.loop-at.at c.in-Ok.next.1 c.in-Ok.next.0 c.loop-at-test.true c.in-Ok.ensures in
    omega (arith, moves.1, c.requires)

pub next-requires : goal.next-requires
next-requires c = c.loop-at-test.true

pub overflow_cast-result : goal.overflow_cast-result
overflow_cast-result c = omega (arith, c.loop-at-test.true, c.requires)

pub overflow_cast-at : goal.overflow_cast-at
overflow_cast-at c = omega (arith, c.loop-at-test.true, c.requires)

pub overflow_cast-end : goal.overflow_cast-end
overflow_cast-end c = omega (arith, c.loop-at.invariant.within, c.requires)
