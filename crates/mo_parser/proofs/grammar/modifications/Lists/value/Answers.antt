use Rattle.mo_parser.specs.reading.Modifications.{value}
use Rattle.mo_parser.proofs.Turns.{then_reads}
use Rattle.mo_parser.proofs.grammar.modifications.Lists.value.Goals as goal

pub returns : goal.returns
unfolding value
returns g c = then_reads _ _ _ _ _ _ c.in_ok-symbol.ensures c.whole_expr.ensures
