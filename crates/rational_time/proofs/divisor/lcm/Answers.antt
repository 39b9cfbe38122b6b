use Rattle.rational_time.proofs.Fractions.{divisor_positive}
use Rattle.rational_time.proofs.Multiples.{IsLcm-product, lcm_multiple, lcm_none}
use Rattle.rational_time.proofs.divisor.lcm.Goals as goal

pub nonzero_div-a : goal.nonzero_div-a
nonzero_div-a c = divisor_positive c.args.a c.args.b c.gcd-divisor.result c.requires.second c.gcd-divisor.ensures

pub returns-clause-multiple : goal.returns-clause-multiple
returns-clause-multiple c = lcm_multiple c.args.a c.args.b _ c.checked_mul.result (IsLcm-product c.args.a c.args.b c.gcd-divisor.result c.requires.first c.requires.second c.gcd-divisor.ensures) c.checked_mul.ensures

pub returns-clause-none : goal.returns-clause-none
returns-clause-none c = lcm_none c.args.a c.args.b _ c.checked_mul.result (IsLcm-product c.args.a c.args.b c.gcd-divisor.result c.requires.first c.requires.second c.gcd-divisor.ensures) c.checked_mul.ensures
