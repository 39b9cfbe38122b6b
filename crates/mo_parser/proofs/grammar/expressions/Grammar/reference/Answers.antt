use Rattle.std.proofs.Common.{◌≡◌, true, rules}
use Rattle.mo_lexer.specs.declared.token.Sym.TheVariants as s
use Rattle.mo_parser.specs.grammar.Kinds.{is_symbol}
use Rattle.mo_parser.specs.grammar.Places.{head}
use Rattle.mo_parser.specs.reading.Expressions.{reference}
use Rattle.mo_parser.proofs.Turns.{same_value, then_is}
use Rattle.mo_parser.proofs.grammar.expressions.Grammar.reference.Goals as goal

pub returns : goal.returns
unfolding reference
returns g c =
    let opens : is_symbol s.RoundOpen (head c.name.new.tokens) ≡ true = search rules in
    then_is _ _ _ _ _ c.in_ok-named.ensures
    (rw opens (then_is _ _ _ _ _ c.in_ok-symbol.ensures (then_is _ _ _ _ _ c.in_ok-arguments.ensures (same_value _ _ _ c.spanning-2.ensures))))
