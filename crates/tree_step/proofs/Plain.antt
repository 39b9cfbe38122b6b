-- What may stand in a `sample` asks for values and last values of one moment alone.
use Rattle.std.proofs.Common.{◌≡◌, ap, sym, subst, ◌∙◌, ℕ, suc, ◌<◌, true, None}
use Rattle.flat_model.specs.declared.expression.Expr.{Expr}
use Rattle.flat_model.specs.declared.clock.ClockExpr.{ClockExpr}
use Rattle.flat_model.specs.declared.clock.ClockExpr.TheOpen.{Expr-F}
use Rattle.flat_model.specs.declared.clock.ClockExpr.TheViews.{roll-Expr}
use Rattle.flat_model.specs.declared.clock.ClockExpr.TheFolds.{fold-roll-Expr, map-Expr}
use Rattle.flat_model.specs.declared.evaluate.Vantage.{Vantage}
use Rattle.flat_model.specs.declared.evaluate.Vantage.TheVariants.{Now, Left}
use Rattle.flat_model.specs.Asks.{Asking, asked, IsSampled}
use Rattle.flat_model.specs.Samples.{Standing, standing_of_level, may_stand}
use Rattle.flat_model.proofs.Asks.{asked_roll}
use Rattle.flat_model.proofs.Links.{asked_before}

may_roll : (y : Expr-F ClockExpr Expr) (vantage : Vantage) → may_stand (roll-Expr y) vantage ≡ standing_of_level (map-Expr ClockExpr Expr (Unit {0}) Standing (λ _. tt) may_stand y) vantage
unfolding may_stand
may_roll y vantage = ap (λ f. f vantage) (fold-roll-Expr (Unit {0}) Standing (λ _. tt) standing_of_level y)

pub left_asks : (e : Expr) → may_stand e Left ≡ true → (d : ℕ) (q : Asking) → 0 < asked e d q → (d ≡ 0) × IsSampled q
left_asks e stand d q some =
    let sampled : Expr-F ClockExpr Expr = Expr-F.Sample e None in
    asked_before (roll-Expr sampled) (may_roll sampled Now ∙ stand) d q (subst (λ n. 0 < n) (sym (asked_roll sampled (suc d) q)) some)
