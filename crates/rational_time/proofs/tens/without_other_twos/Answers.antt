use Rattle.std.proofs.Common.{rules, arith}
use Rattle.std.specs.Int.{w64, trailing_zeros}
use Rattle.rational_time.proofs.Factors.{shifted, factor_positive, apart_of_twos}
use Rattle.rational_time.proofs.tens.without_other_twos.Goals as goal

pub returns-clause-positive : goal.returns-clause-positive
returns-clause-positive c =
    factor_positive _ _ _ (shifted c.args.den (trailing_zeros w64 c.args.den) (search rules) (omega arith)) c.requires

pub returns-clause-apart : goal.returns-clause-apart
returns-clause-apart c =
    apart_of_twos c.args.num c.args.den _ c.if-num-eq0.false (trailing_zeros w64 c.args.den) (shifted c.args.den (trailing_zeros w64 c.args.den) (search rules) (omega arith))
