use Rattle.std.proofs.Common.{◌<◌, sym, subst, arith, length}
use Rattle.mo_lexer.specs.private.Front.{BeginsWith}
use Rattle.mo_lexer.proofs.Symbols.{long_found, short_found, none_found}
use Rattle.mo_lexer.proofs.front.marked.Goals as goal

pub returns-in_err-short_symbol-in-len1 : goal.returns-in_err-short_symbol-in-len1
returns-in_err-short_symbol-in-len1 c =
    let t = c.args.text.now in
    subst (BeginsWith t) (sym c.from_residual.ensures) (none_found t c.requires.other (λ (more : 1 < length t). absurd (omega arith)) (c.in_err-short_symbol-in-len1.ensures))

pub returns-in_err-short_symbol-in-None : goal.returns-in_err-short_symbol-in-None
returns-in_err-short_symbol-in-None c =
    let t = c.args.text.now in
    subst (BeginsWith t) (sym c.from_residual-in_err-short_symbol-in-None.ensures) (none_found t c.requires.other (λ (more : 1 < length t). c.in-None.ensures) (c.in_err-short_symbol-in-None.ensures))

pub returns-in-Some : goal.returns-in-Some
returns-in-Some c = long_found c.args.text.now c.requires.other c.in-Some.symbol (omega arith) (c.in-Some.ensures)

pub returns-in_ok-short_symbol-in-None : goal.returns-in_ok-short_symbol-in-None
returns-in_ok-short_symbol-in-None c =
    short_found c.args.text.now c.requires.other c.in_ok-short_symbol-in-None.field-0 c.requires.some (λ (more : 1 < length c.args.text.now). c.in-None.ensures) (c.in_ok-short_symbol-in-None.ensures)
