use Rattle.std.proofs.Common.{rules}
use Rattle.mo_lexer.specs.declared.token.Sym.TheVariants as s
use Rattle.mo_parser.specs.grammar.Kinds.{is_symbol}
use Rattle.mo_parser.specs.reading.Names.{dotted}
use Rattle.mo_parser.proofs.Turns.{turned}
use Rattle.mo_parser.proofs.grammar.names.name.Goals as goal

pub loop-turn-preserved : goal.loop-turn-preserved
loop-turn-preserved c = turned (is_symbol s.Dot) dotted _ _ c.loop-turn.found c.in_ok-found-2.found c.loop-turn.tokens c.dotted.new.tokens c.loop-turn-test.true c.loop-turn.invariant (search rules) (search rules)
