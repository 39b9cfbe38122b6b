use Rattle.std.proofs.Common.{refl, rules, ◌*◌}
use Rattle.rational_time.proofs.Floors.{no_units, units_none}
use Rattle.rational_time.proofs.floor.on_grid.Goals as goal

pub returns-then-product-from-ne0-clause-none : goal.returns-then-product-from-ne0-clause-none
returns-then-product-from-ne0-clause-none c =
    (λ _ n e. absurd (no_units (c.args.den * c.args.value.num) c.args.value.den n (search rules) e), λ _. refl)

pub returns-clause-none : goal.returns-clause-none
returns-clause-none c =
    rw c.ok.ensures.value
    (units_none (c.args.den * c.args.value.num) c.args.value.den c.try_from.result c.args.value.positive (search rules)
    (rw (c.from.ensures, c.from-2.ensures, c.from-4.ensures) at c.try_from.ensures))
