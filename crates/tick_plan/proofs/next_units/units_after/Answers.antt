use Rattle.std.proofs.Common.{◌∙◌, ap₂, refl, arith, ◌*◌, ◌/◌}
use Rattle.tick_plan.proofs.NextKeys.{computed_before, computed_below, computed_past}
use Rattle.tick_plan.proofs.next_units.units_after.Goals as goal

pub returns-then-passed-start : goal.returns-then-passed-start
returns-then-passed-start c period start is =
    let p = ap₂ (λ a b. a / b) (ap₂ (λ x y. x * y) (c.from.ensures ∙ c.num.ensures) c.from-2.ensures) (c.from-3.ensures ∙ c.den.ensures) in
    computed_before c.args.den c.args.limit period start c.args.first c.args.step is c.args.at c.requires.past _ _ c.args.step c.args.step p c.from-start.ensures refl refl c.if-passed-start.true

pub returns-then-next-from : goal.returns-then-next-from
returns-then-next-from c period start is =
    let p = ap₂ (λ a b. a / b) (ap₂ (λ x y. x * y) (c.from.ensures ∙ c.num.ensures) c.from-2.ensures) (c.from-3.ensures ∙ c.den.ensures) in
    computed_below c.args.den c.args.limit period start c.args.first c.args.step is c.args.at c.requires.past _ _ _ _ p c.from-start.ensures c.from-4.ensures c.from-5.ensures c.if-passed-start.false (omega (arith, c.if-next-from.true, c.from-6.ensures))

pub returns-else-next-from : goal.returns-else-next-from
returns-else-next-from c period start is =
    let p = ap₂ (λ a b. a / b) (ap₂ (λ x y. x * y) (c.from.ensures ∙ c.num.ensures) c.from-2.ensures) (c.from-3.ensures ∙ c.den.ensures) in
    computed_past c.args.den c.args.limit period start c.args.first c.args.step is c.args.at c.requires.past _ _ _ _ p c.from-start.ensures c.from-4.ensures c.from-5.ensures c.if-passed-start.false (omega (arith, c.if-next-from.false, c.from-6.ensures))
