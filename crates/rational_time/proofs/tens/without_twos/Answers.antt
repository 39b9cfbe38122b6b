use Rattle.std.proofs.Common.{rules, ◌≤◌}
use Rattle.std.specs.Int.{w64, trailing_zeros}
use Rattle.rational_time.proofs.Factors.{shifted, same_ratio, factor_positive}
use Rattle.rational_time.proofs.tens.without_twos.Goals as goal

pub returns-clause-same : goal.returns-clause-same
returns-clause-same c =
    let top : c.min-twos.result ≤ trailing_zeros w64 c.args.num = search rules in
    let under : c.min-twos.result ≤ trailing_zeros w64 c.args.den = search rules in
    same_ratio _ _ _ _ _ (shifted c.args.num c.min-twos.result (search rules) top) (shifted c.args.den c.min-twos.result (search rules) under)

pub returns-clause-positive : goal.returns-clause-positive
returns-clause-positive c =
    let under : c.min-twos.result ≤ trailing_zeros w64 c.args.den = search rules in
    factor_positive _ _ _ (shifted c.args.den c.min-twos.result (search rules) under) c.requires
