-- Expressions with other numbers for their names, as a part of a model has them.
use Rattle.std.specs.Prelude.{◌≡◌, ℕ, None}
use Rattle.flat_model.specs.declared.equation.Equation.{Equation}
use Rattle.flat_model.specs.declared.equation.Equation.TheVariants.{Valued, Clocks}
use Rattle.flat_model.specs.declared.expression.Expr.{Expr}
use Rattle.flat_model.specs.declared.clock.ClockExpr.{ClockExpr}
use Rattle.flat_model.specs.declared.clock.ClockExpr.TheOpen.{Expr-F}
use Rattle.flat_model.specs.declared.clock.ClockExpr.TheViews.{roll-Expr}
use Rattle.flat_model.specs.declared.clock.ClockExpr.TheFolds.{fold-Expr}
use Rattle.flat_model.specs.Views.{View, Views}

-- one level with other numbers; the clock of a `sample`, and the name in `firstTick` and `interval`, decide no value and are left out
abbrev pub renamed_level : (ℕ → ℕ) → Expr-F (Unit {0}) Expr → Expr-F ClockExpr Expr
renamed_level place (Expr-F.Const v) = Expr-F.Const v
renamed_level place (Expr-F.Read x) = Expr-F.Read (place x)
renamed_level place (Expr-F.Chain parts ops) = Expr-F.Chain parts ops
renamed_level place (Expr-F.Relation rel left right) = Expr-F.Relation rel left right
renamed_level place (Expr-F.Neg part) = Expr-F.Neg part
renamed_level place (Expr-F.Not part) = Expr-F.Not part
renamed_level place (Expr-F.If conditions branches other) = Expr-F.If conditions branches other
renamed_level place (Expr-F.Apply function parts) = Expr-F.Apply function parts
renamed_level place (Expr-F.Previous x) = Expr-F.Previous (place x)
renamed_level place (Expr-F.FirstTick x) = Expr-F.FirstTick None
renamed_level place (Expr-F.IntervalTimes x k) = Expr-F.IntervalTimes None k
renamed_level place (Expr-F.Hold x) = Expr-F.Hold (place x)
renamed_level place (Expr-F.«Expr::Convert» conversion x) = Expr-F.«Expr::Convert» conversion (place x)
renamed_level place (Expr-F.Sample part clock) = Expr-F.Sample part None

-- an expression in which each name x has the number `place x`
unfoldable pub renamed : (ℕ → ℕ) → Expr → Expr
renamed place = fold-Expr (Unit {0}) Expr (λ _. tt) (λ level. roll-Expr (renamed_level place level))

-- what can be read of x is what the renamed views have at `place x`
abbrev pub view_through : (ℕ → ℕ) → View → View
view_through place v = record { now = λ x. v.now (place x); previous = λ x. v.previous (place x); last = λ x. v.last (place x); first = v.first; interval = v.interval }

abbrev pub views_through : (ℕ → ℕ) → Views → Views
views_through place views back = view_through place (views back)

-- an equation with other numbers for its names
abbrev pub renamed_equation : (ℕ → ℕ) → Equation → Equation
renamed_equation place (Valued left right clause) = Valued (renamed place left) (renamed place right) clause
renamed_equation place (Clocks left right clause) = Clocks left right clause

-- a name has a number that no other name has
abbrev pub HasOwnNumber : (ℕ → ℕ) → ℕ → Type 0
HasOwnNumber place x = (y : ℕ) → place y ≡ place x → y ≡ x
