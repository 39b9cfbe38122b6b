-- Where names stand in a conversion.
use Rattle.std.proofs.Common.{◌≡◌, ap, ◌∙◌, sym, ℕ, ◌==◌}
use Rattle.flat_model.specs.declared.clock.Conversion.{Conversion}
use Rattle.flat_model.specs.declared.expression.Expr.TheVariants.{Convert, rolls-Convert}
use Rattle.flat_model.specs.declared.clock.ClockExpr.TheOpen.{Expr-F}
use Rattle.flat_model.specs.declared.clock.ClockExpr.TheFolds.{fold-roll-Expr}
use Rattle.flat_model.specs.Occurrences.{one_if, bare_in_level, held_in_level, converted_in_level, bare_count, held_count, converted_count}

pub bare_count-Convert : (x : ℕ) (conversion : Conversion) (y : ℕ) → bare_count x (Convert conversion y) ≡ 0
unfolding bare_count
bare_count-Convert x conversion y = ap (bare_count x) (sym (rolls-Convert conversion y)) ∙ fold-roll-Expr (Unit {0}) ℕ (λ _. tt) (bare_in_level x) (Expr-F.«Expr::Convert» conversion y)

pub held_count-Convert : (x : ℕ) (conversion : Conversion) (y : ℕ) → held_count x (Convert conversion y) ≡ 0
unfolding held_count
held_count-Convert x conversion y = ap (held_count x) (sym (rolls-Convert conversion y)) ∙ fold-roll-Expr (Unit {0}) ℕ (λ _. tt) (held_in_level x) (Expr-F.«Expr::Convert» conversion y)

pub converted_count-Convert : (x : ℕ) (conversion : Conversion) (y : ℕ) → converted_count x (Convert conversion y) ≡ one_if (y == x)
unfolding converted_count
converted_count-Convert x conversion y = ap (converted_count x) (sym (rolls-Convert conversion y)) ∙ fold-roll-Expr (Unit {0}) ℕ (λ _. tt) (converted_in_level x) (Expr-F.«Expr::Convert» conversion y)

pub ruleset conversions = (bare_count-Convert, held_count-Convert, converted_count-Convert)
