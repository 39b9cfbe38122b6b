use Rattle.std.proofs.Common.{◌<◌, ◌^◌, rules}
use Rattle.rational_time.proofs.Fractions.{IsLowest-ratio, below_limits}
use Rattle.rational_time.proofs.fraction.reduced.Goals as goal

pub returns-clause-none : goal.returns-clause-none
returns-clause-none c =
    let r = c.make.result in
    let num : r.num < 2 ^ 64 = search rules in
    let den : r.den < 2 ^ 64 = search rules in
    (λ e. absurd (cc), λ over. absurd (below_limits (2 ^ 64) (2 ^ 64) _ _ r.num r.den c.requires (IsLowest-ratio r _ _ (search rules)) num den over))
