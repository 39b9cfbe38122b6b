use Rattle.std.proofs.Common.{◌≡◌, ap, arith}
use Rattle.mo_parser.specs.reading.Modifications.{args}
use Rattle.mo_parser.proofs.Turns.{deeper}
use Rattle.mo_parser.proofs.grammar.modifications.+args.Goals as goal

pub returns-then-depth-eq0 : goal.returns-then-depth-eq0
unfolding args
returns-then-depth-eq0 t c = let none : c.args.depth ≡ 0 = omega arith in ap (λ n. args n c.args.tokens.now) none

pub returns : goal.returns
unfolding args
returns t c = rw (deeper (λ n. args n c.args.tokens.now) c.args.depth (omega arith)) c.arguments.ensures
