-- What may be no input: the argument of `hold` and that of a conversion, since an input has no clock. This project's own.
use Rattle.std.specs.Prelude.{◌≡◌, ℕ, Bool, true, false, not, ◌&&◌, List, slice_get, option_map, unwrap_or}
use Rattle.flat_model.specs.declared.clock.ClockExpr.{ClockExpr}
use Rattle.flat_model.specs.declared.clock.ClockExpr.TheOpen.{ClockExpr-F, Expr-F}
use Rattle.flat_model.specs.declared.clock.ClockExpr.TheFolds.{fold-ClockExpr, fold-Expr}
use Rattle.flat_model.specs.declared.expression.Expr.{Expr}
use Rattle.flat_model.specs.declared.equation.Equation.{Equation}
use Rattle.flat_model.specs.declared.equation.Equation.TheVariants.{Valued, Clocks}
use Rattle.flat_model.specs.declared.model.FlatName.{FlatName}
use Rattle.flat_model.specs.Counters.{all_fit, fits_if}

-- the name is an input
abbrev pub is_input : List FlatName → ℕ → Bool
is_input names x = unwrap_or (option_map (λ name. name.input) (slice_get names x)) false

abbrev pub arguments_in_clock_level : List FlatName → ClockExpr-F Bool Bool → Bool
arguments_in_clock_level names (ClockExpr-F.Name x) = true
arguments_in_clock_level names ClockExpr-F.Inferred = true
arguments_in_clock_level names (ClockExpr-F.Rational counter resolution) = true
arguments_in_clock_level names (ClockExpr-F.Event condition) = condition
arguments_in_clock_level names (ClockExpr-F.«ClockExpr::Convert» conversion x) = not (is_input names x)

abbrev pub arguments_in_level : List FlatName → Expr-F Bool Bool → Bool
arguments_in_level names (Expr-F.Const v) = true
arguments_in_level names (Expr-F.Read x) = true
arguments_in_level names (Expr-F.Chain parts ops) = all_fit parts
arguments_in_level names (Expr-F.Relation rel left right) = left && right
arguments_in_level names (Expr-F.Neg part) = part
arguments_in_level names (Expr-F.Not part) = part
arguments_in_level names (Expr-F.If conditions branches other) = all_fit conditions && all_fit branches && other
arguments_in_level names (Expr-F.Apply function parts) = all_fit parts
arguments_in_level names (Expr-F.Previous x) = true
arguments_in_level names (Expr-F.FirstTick x) = true
arguments_in_level names (Expr-F.IntervalTimes x k) = true
arguments_in_level names (Expr-F.Hold x) = not (is_input names x)
arguments_in_level names (Expr-F.«Expr::Convert» conversion x) = not (is_input names x)
arguments_in_level names (Expr-F.Sample part clock) = part && fits_if clock

-- no input is held or converted in an expression, or in a clock
unfoldable pub holds_no_input : List FlatName → Expr → Bool
holds_no_input names = fold-Expr Bool Bool (arguments_in_clock_level names) (arguments_in_level names)

unfoldable pub clock_holds_no_input : List FlatName → ClockExpr → Bool
clock_holds_no_input names = fold-ClockExpr Bool Bool (arguments_in_clock_level names) (arguments_in_level names)

-- the same of both sides of an equation
abbrev pub HasOwnArguments : List FlatName → Equation → Type 0
HasOwnArguments names (Valued left right clause) = (holds_no_input names left ≡ true) × (holds_no_input names right ≡ true)
HasOwnArguments names (Clocks left right clause) = (clock_holds_no_input names left ≡ true) × (clock_holds_no_input names right ≡ true)
