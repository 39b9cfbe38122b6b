-- What kind of clock each expression for a clock is.
use Rattle.std.proofs.Common.{◌≡◌, ap, ◌∙◌, sym, ℕ}
use Rattle.flat_model.specs.declared.clock.Conversion.{Conversion}
use Rattle.flat_model.specs.declared.expression.Expr.{Expr}
use Rattle.flat_model.specs.declared.clock.ClockExpr.{ClockExpr}
use Rattle.flat_model.specs.declared.clock.ClockExpr.TheVariants as clock
use Rattle.flat_model.specs.declared.clock.ClockExpr.TheOpen.{ClockExpr-F}
use Rattle.flat_model.specs.declared.clock.ClockExpr.TheViews.{roll-ClockExpr}
use Rattle.flat_model.specs.declared.clock.ClockExpr.TheFolds.{fold-roll-ClockExpr, fold-Expr, map-ClockExpr}
use Rattle.clock_terms.specs.Source.{Kind, Inferred, Every, AtSite, Other, kind_of_level, kind_of}

-- the kind of a level that is rolled
kind_roll : (y : ClockExpr-F ClockExpr Expr) → kind_of (roll-ClockExpr y) ≡ kind_of_level (map-ClockExpr ClockExpr Expr Kind (Unit {0}) kind_of (fold-Expr Kind (Unit {0}) kind_of_level (λ _. tt)) y)
unfolding kind_of
kind_roll y = fold-roll-ClockExpr Kind (Unit {0}) kind_of_level (λ _. tt) y

pub kind_of-Name : (x : ℕ) → kind_of (clock.Name x) ≡ Other
kind_of-Name x = ap kind_of (sym (clock.rolls-Name x)) ∙ kind_roll (ClockExpr-F.Name x)

pub kind_of-Inferred : kind_of clock.Inferred ≡ Inferred
kind_of-Inferred = ap kind_of (sym clock.rolls-Inferred) ∙ kind_roll ClockExpr-F.Inferred

pub kind_of-Rational : (n r : ℕ) → kind_of (clock.Rational n r) ≡ Every n r
kind_of-Rational n r = ap kind_of (sym (clock.rolls-Rational n r)) ∙ kind_roll (ClockExpr-F.Rational n r)

pub kind_of-Event : (condition : Expr) → kind_of (clock.Event condition) ≡ AtSite
kind_of-Event condition = ap kind_of (sym (clock.rolls-Event condition)) ∙ kind_roll (ClockExpr-F.Event condition)

pub kind_of-Convert : (by : Conversion) (x : ℕ) → kind_of (clock.Convert by x) ≡ Other
kind_of-Convert by x = ap kind_of (sym (clock.rolls-Convert by x)) ∙ kind_roll (ClockExpr-F.«ClockExpr::Convert» by x)

pub ruleset clock_kinds = (kind_of-Name, kind_of-Inferred, kind_of-Rational, kind_of-Event, kind_of-Convert)
