use Rattle.std.proofs.Common.{arith}
use Rattle.clock_check.proofs.Factors.{multiple_law}
use Rattle.clock_check.proofs.factor.is_multiple.Goals as goal

pub returns : goal.returns
returns c =
    multiple_law c.args.of c.args.period c.from.result c.from-2.result c.from-3.result c.from-4.result
    (omega (arith, c.from.ensures, c.num.ensures)) (omega (arith, c.from-2.ensures, c.den.ensures)) (omega (arith, c.from-3.ensures, c.den-2.ensures)) (omega (arith, c.from-4.ensures, c.num-2.ensures))
    c.if-num-eq0.false c.if-den-eq0.false
