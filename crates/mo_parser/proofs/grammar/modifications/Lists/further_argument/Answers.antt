use Rattle.mo_parser.specs.reading.Modifications.{further_argument}
use Rattle.mo_parser.proofs.Turns.{same_value, then_is}
use Rattle.mo_parser.proofs.grammar.modifications.Lists.further_argument.Goals as goal

pub returns : goal.returns
unfolding further_argument
returns g c = then_is _ _ _ _ _ c.in_ok-symbol.ensures (then_is _ _ _ _ _ c.in_ok-argument.ensures (same_value _ _ _ c.in_ok-push.ensures.ok))
