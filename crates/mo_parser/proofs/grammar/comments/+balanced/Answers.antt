use Rattle.std.proofs.Common.{◌≡◌, ap, arith}
use Rattle.mo_parser.specs.reading.Comments.{balanced}
use Rattle.mo_parser.proofs.Turns.{deeper}
use Rattle.mo_parser.proofs.grammar.comments.+balanced.Goals as goal

pub returns-then-depth-eq0 : goal.returns-then-depth-eq0
unfolding balanced
returns-then-depth-eq0 t c = let none : c.args.depth ≡ 0 = omega arith in ap (λ n. balanced n c.args.tokens.now) none

pub returns : goal.returns
unfolding balanced
returns t c = rw (deeper (λ n. balanced n c.args.tokens.now) c.args.depth (omega arith)) c.pieces.ensures
