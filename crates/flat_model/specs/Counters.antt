-- The counters, factors, resolutions and the k of intervals that may stand in a model. This project's own.
use Rattle.std.specs.Prelude.{◌≡◌, ℕ, ◌^◌, nat_le, nat_lt, Bool, true, ◌&&◌, List, Option, Some, None}
use Rattle.std.specs.List.{list_all}
use Rattle.flat_model.specs.declared.clock.Conversion.{Conversion}
use Rattle.flat_model.specs.declared.clock.Conversion.TheVariants.{Sub, Super, Shift, Back, NoClock}
use Rattle.flat_model.specs.declared.clock.ClockExpr.{ClockExpr}
use Rattle.flat_model.specs.declared.clock.ClockExpr.TheOpen.{ClockExpr-F, Expr-F}
use Rattle.flat_model.specs.declared.clock.ClockExpr.TheFolds.{fold-ClockExpr, fold-Expr}
use Rattle.flat_model.specs.declared.expression.Expr.{Expr}
use Rattle.flat_model.specs.declared.equation.Equation.{Equation}
use Rattle.flat_model.specs.declared.equation.Equation.TheVariants.{Valued, Clocks}

-- no counter reaches it
abbrev pub counter_limit : ℕ
counter_limit = 2 ^ 31

-- a number from the least one to 2^31-1
abbrev pub is_counter : ℕ → ℕ → Bool
is_counter least n = nat_le least n && nat_lt n counter_limit

-- a factor of 0 is an inferred one, a shift may be by 0, and no resolution is 0
abbrev pub has_counters : Conversion → Bool
has_counters (Sub factor) = is_counter 0 factor
has_counters (Super factor) = is_counter 0 factor
has_counters (Shift counter resolution) = is_counter 0 counter && is_counter 1 resolution
has_counters (Back counter resolution) = is_counter 0 counter && is_counter 1 resolution
has_counters NoClock = true

abbrev pub all_fit : List Bool → Bool
all_fit parts = list_all (λ part. part) parts

abbrev pub fits_if : Option Bool → Bool
fits_if None = true
fits_if (Some part) = part

abbrev pub counters_in_clock_level : ClockExpr-F Bool Bool → Bool
counters_in_clock_level (ClockExpr-F.Name x) = true
counters_in_clock_level ClockExpr-F.Inferred = true
counters_in_clock_level (ClockExpr-F.Rational counter resolution) = is_counter 1 counter && is_counter 1 resolution
counters_in_clock_level (ClockExpr-F.Event condition) = condition
counters_in_clock_level (ClockExpr-F.«ClockExpr::Convert» conversion x) = has_counters conversion

abbrev pub counters_in_level : Expr-F Bool Bool → Bool
counters_in_level (Expr-F.Const v) = true
counters_in_level (Expr-F.Read x) = true
counters_in_level (Expr-F.Chain parts ops) = all_fit parts
counters_in_level (Expr-F.Relation rel left right) = left && right
counters_in_level (Expr-F.Neg part) = part
counters_in_level (Expr-F.Not part) = part
counters_in_level (Expr-F.If conditions branches other) = all_fit conditions && all_fit branches && other
counters_in_level (Expr-F.Apply function parts) = all_fit parts
counters_in_level (Expr-F.Previous x) = true
counters_in_level (Expr-F.FirstTick x) = true
counters_in_level (Expr-F.IntervalTimes x k) = is_counter 1 k
counters_in_level (Expr-F.Hold x) = true
counters_in_level (Expr-F.«Expr::Convert» conversion x) = has_counters conversion
counters_in_level (Expr-F.Sample part clock) = part && fits_if clock

-- each counter, factor, resolution and k in an expression, or in a clock, is one that may stand there
unfoldable pub counters_fit : Expr → Bool
counters_fit = fold-Expr Bool Bool counters_in_clock_level counters_in_level

unfoldable pub clock_counters_fit : ClockExpr → Bool
clock_counters_fit = fold-ClockExpr Bool Bool counters_in_clock_level counters_in_level

-- the same of both sides of an equation
abbrev pub HasCounters : Equation → Type 0
HasCounters (Valued left right clause) = (counters_fit left ≡ true) × (counters_fit right ≡ true)
HasCounters (Clocks left right clause) = (clock_counters_fit left ≡ true) × (clock_counters_fit right ≡ true)
