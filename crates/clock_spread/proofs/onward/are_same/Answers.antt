use Rattle.std.proofs.Common.{rules, ◌≡◌, refl}
use Rattle.clock_spread.proofs.Limits.{grids_same}
use Rattle.clock_spread.proofs.onward.are_same.Goals as goal

pub returns-then-is_same_ratio : goal.returns-then-is_same_ratio
returns-then-is_same_ratio c =
    let site : c.args.a.site ≡ c.args.b.site = search rules in
    let sign : c.args.a.negative ≡ c.args.b.negative = search rules in
    let both = grids_same c.args.a c.args.b site sign in
    (λ e. both.0 (c.if-is_same_ratio.ensures.0 refl, c.is_same_ratio-then-is_same_ratio.ensures.0 e), λ h. c.is_same_ratio-then-is_same_ratio.ensures.1 (both.1 h).1)

pub returns-else-is_same_ratio : goal.returns-else-is_same_ratio
returns-else-is_same_ratio c =
    let site : c.args.a.site ≡ c.args.b.site = search rules in
    let sign : c.args.a.negative ≡ c.args.b.negative = search rules in
    let both = grids_same c.args.a c.args.b site sign in
    (λ e. absurd (search rules), λ h. c.is_same_ratio.ensures.1 (both.1 h).0)
