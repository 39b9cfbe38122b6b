-- An expression with other numbers for its names means the same, seen through the renaming.
use Rattle.std.proofs.Common.{◌↔◌, ◌≡◌, refl, ap, ap₂, ◌∙◌, sym, subst, ℕ, List, [], ◌∷◌, map}
use Rattle.flat_model.specs.declared.equation.Equation.{Equation}
use Rattle.flat_model.specs.declared.equation.Equation.TheVariants.{Valued, Clocks}
use Rattle.flat_model.specs.Meets.{HasOneValue}
use Rattle.flat_model.specs.declared.expression.Expr.{Expr}
use Rattle.flat_model.specs.declared.clock.ClockExpr.{ClockExpr}
use Rattle.flat_model.specs.declared.clock.ClockExpr.TheOpen.{Expr-F}
use Rattle.flat_model.specs.declared.clock.ClockExpr.TheViews.{roll-Expr}
use Rattle.flat_model.specs.declared.clock.ClockExpr.TheFolds.{ind-Expr, fold-roll-Expr, map-Expr}
use Rattle.flat_model.specs.Operators.{chain, negated, inverted, relation, chosen}
use Rattle.flat_model.specs.Functions.{called}
use Rattle.flat_model.specs.Views.{Views, before}
use Rattle.flat_model.specs.Meaning.{Meaning, meaning_of_level, seen_by, value_of}
use Rattle.moment_theory.specs.Renamed.{renamed_level, renamed, renamed_equation, views_through}
use Rattle.flat_model.proofs.Above.{value_of_roll}

pub renamed_roll : (place : ℕ → ℕ) (y : Expr-F ClockExpr Expr) → renamed place (roll-Expr y) ≡ roll-Expr (renamed_level place (map-Expr ClockExpr Expr (Unit {0}) Expr (λ _. tt) (renamed place) y))
unfolding renamed
renamed_roll place y = fold-roll-Expr (Unit {0}) Expr (λ _. tt) (λ level. roll-Expr (renamed_level place level)) y

module _ (place : ℕ → ℕ) where
  abbrev Means : Expr → Type 0
  Means e = (views : Views) → value_of (renamed place e) views ≡ value_of e (views_through place views)

  module _ {A B : Type 0} (f : A → ClockExpr) (g : B → Expr) (all : (b : B) → Means (g b)) where
    parts_mean : (ps : List B) (views : Views) → seen_by views (map value_of (map (renamed place) (map g ps))) ≡ seen_by (views_through place views) (map value_of (map g ps))
    parts_mean [] views = refl
    parts_mean (p ∷ ps) views = ap₂ (λ a rest. a ∷ rest) (all p views) (parts_mean ps views)

    level_means : (y : Expr-F A B) (views : Views)
        → meaning_of_level (map-Expr ClockExpr Expr (Unit {0}) Meaning (λ _. tt) value_of (renamed_level place (map-Expr ClockExpr Expr (Unit {0}) Expr (λ _. tt) (renamed place) (map-Expr A B ClockExpr Expr f g y)))) views
        ≡ meaning_of_level (map-Expr ClockExpr Expr (Unit {0}) Meaning (λ _. tt) value_of (map-Expr A B ClockExpr Expr f g y)) (views_through place views)
    level_means (Expr-F.Const v) views = refl
    level_means (Expr-F.Read n) views = refl
    level_means (Expr-F.Chain ps ops) views = ap (chain ops) (parts_mean ps views)
    level_means (Expr-F.Relation rel a b) views = ap₂ (relation rel) (all a views) (all b views)
    level_means (Expr-F.Neg a) views = ap negated (all a views)
    level_means (Expr-F.Not a) views = ap inverted (all a views)
    level_means (Expr-F.If cs bs other) views =
        ap₂ (λ c b. chosen c b (value_of (renamed place (g other)) views)) (parts_mean cs views) (parts_mean bs views)
        ∙ ap (chosen (seen_by (views_through place views) (map value_of (map g cs))) (seen_by (views_through place views) (map value_of (map g bs)))) (all other views)
    level_means (Expr-F.Apply function ps) views = ap (called function) (parts_mean ps views)
    level_means (Expr-F.Previous n) views = refl
    level_means (Expr-F.FirstTick n) views = refl
    level_means (Expr-F.IntervalTimes n k) views = refl
    level_means (Expr-F.Hold n) views = refl
    level_means (Expr-F.«Expr::Convert» conversion n) views = refl
    level_means (Expr-F.Sample a clock) views = all a (before views)

    rolled : (y : Expr-F A B) → Means (roll-Expr (map-Expr A B ClockExpr Expr f g y))
    rolled y views =
        let z = map-Expr A B ClockExpr Expr f g y in
        ap (λ e. value_of e views) (renamed_roll place z)
        ∙ value_of_roll (renamed_level place (map-Expr ClockExpr Expr (Unit {0}) Expr (λ _. tt) (renamed place) z)) views
        ∙ level_means y views
        ∙ sym (value_of_roll z (views_through place views))

  -- the value of a renamed expression is that of the expression, seen through the renaming
  pub value_renamed : (e : Expr) (views : Views) → value_of (renamed place e) views ≡ value_of e (views_through place views)
  value_renamed = ind-Expr (λ c. Unit {0}) Means (λ x y is. tt) (λ x y is. subst (λ z. Means (roll-Expr z)) is (rolled (λ c. c.0) (λ e. e.0) (λ e. e.1) y))

-- so both sides of an equation have one value where they have one seen through the renaming
pub one_value_renamed : (place : ℕ → ℕ) (equation : Equation) (views : Views) → HasOneValue views (renamed_equation place equation) ↔ HasOneValue (views_through place views) equation
one_value_renamed place (Valued left right clause) views = (
  (λ h. (h.0, sym (value_renamed place left views) ∙ h.1, sym (value_renamed place right views) ∙ h.2)),
  (λ h. (h.0, value_renamed place left views ∙ h.1, value_renamed place right views ∙ h.2)),
)
one_value_renamed place (Clocks left right clause) views = ((λ h. h), (λ h. h))
