use Rattle.std.proofs.Common.{rules, arith, refl, mul-pos, ◌^◌, false}
use Rattle.clock_terms.specs.Position.{IsAt, at_ratio, at_signed, part}
use Rattle.clock_spread.proofs.Limits.{not_past, past}
use Rattle.clock_spread.proofs.onward.part_of.Goals as goal

pub returns-then-is_fine-clause-none : goal.returns-then-is_fine-clause-none
returns-then-is_fine-clause-none c =
    let at : IsAt (at_signed false c.in_ok-period.period) (part c.args.times c.args.over (at_ratio c.args.period)) = omega (arith, c.in_ok-period.ensures.product) in (
      λ e. absurd cc,
      λ h. absurd (not_past (2 ^ 40) false c.in_ok-period.period (part c.args.times c.args.over (at_ratio c.args.period))
          (mul-pos c.requires c.args.period.positive) at (c.if-is_fine.ensures.0 refl) h),
    )

pub returns-else-is_fine-clause-none : goal.returns-else-is_fine-clause-none
returns-else-is_fine-clause-none c =
    let at : IsAt (at_signed false c.in_ok-period.period) (part c.args.times c.args.over (at_ratio c.args.period)) = omega (arith, c.in_ok-period.ensures.product) in
    (λ _. past (2 ^ 40) false c.in_ok-period.period (part c.args.times c.args.over (at_ratio c.args.period)) at (λ below. absurd (search rules)), λ _. refl)
