use Rattle.mo_parser.specs.reading.Elements.{further_component}
use Rattle.mo_parser.proofs.Turns.{then_reads}
use Rattle.mo_parser.proofs.grammar.reader.Reader.further_component.Goals as goal

pub returns : goal.returns
unfolding further_component
returns c = then_reads _ _ _ _ _ _ c.in_ok-symbol.ensures c.component.ensures
