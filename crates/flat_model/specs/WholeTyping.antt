-- The types of expressions and of the clocks that stand in them.
use Rattle.std.specs.Prelude.{◌≡◌, ℕ, Bool, true, false, Option, Some, None, is_some}
use Rattle.flat_model.specs.declared.model.NameKind.{NameKind}
use Rattle.flat_model.specs.declared.model.NameKind.TheVariants as kind
use Rattle.flat_model.specs.declared.expression.Expr.{Expr}
use Rattle.flat_model.specs.declared.equation.Equation.{Equation}
use Rattle.flat_model.specs.declared.equation.Equation.TheVariants.{Valued, Clocks}
use Rattle.flat_model.specs.declared.clock.ClockExpr.{ClockExpr}
use Rattle.flat_model.specs.declared.clock.ClockExpr.TheOpen.{ClockExpr-F, Expr-F}
use Rattle.flat_model.specs.declared.clock.ClockExpr.TheFolds.{fold-ClockExpr, fold-Expr}
use Rattle.flat_model.specs.Typing.{Types, valued_type, is_type, typed_if, type_of_level}

-- the name of a Clock
abbrev pub is_clock : Option NameKind → Bool
is_clock (Some kind.Clock) = true
is_clock _ = false

-- the name of a variable, where one is given
abbrev pub is_variable_if : Types → Option ℕ → Bool
is_variable_if types None = true
is_variable_if types (Some x) = is_some (valued_type (types x))

-- one level of a clock: names are of Clocks, and the condition of an event is a Boolean
abbrev pub clock_level : Types → ClockExpr-F Bool (Option NameKind) → Bool
clock_level types (ClockExpr-F.Name x) = is_clock (types x)
clock_level types ClockExpr-F.Inferred = true
clock_level types (ClockExpr-F.Rational counter resolution) = true
clock_level types (ClockExpr-F.Event condition) = is_type kind.Boolean condition
clock_level types (ClockExpr-F.«ClockExpr::Convert» conversion x) = is_clock (types x)

-- the type of a sampled part, where its clock is typed
abbrev pub sampled_type : Option NameKind → Option Bool → Option NameKind
sampled_type part None = part
sampled_type part (Some true) = part
sampled_type part (Some false) = None

-- one level of an expression: its type, where the clocks and the named variables in it are typed too
abbrev pub whole_level : Types → Expr-F Bool (Option NameKind) → Option NameKind
whole_level types (Expr-F.FirstTick x) = typed_if (is_variable_if types x) kind.Boolean
whole_level types (Expr-F.IntervalTimes x k) = typed_if (is_variable_if types x) kind.Integer
whole_level types (Expr-F.Sample part clock) = sampled_type part clock
whole_level types level = type_of_level types level

-- the type of an expression; none where it or a clock in it breaks a rule of types. MLS 3.6, chapter 16, "Clock Constructors" and "Base-Clock Conversion Operators", in this project's profile.
unfoldable pub whole_type_of : Types → Expr → Option NameKind
whole_type_of types = fold-Expr Bool (Option NameKind) (clock_level types) (whole_level types)

-- a clock meets the rules of types
unfoldable pub is_typed_clock : Types → ClockExpr → Bool
is_typed_clock types = fold-ClockExpr Bool (Option NameKind) (clock_level types) (whole_level types)

-- both sides of an equation between values have one type, and both sides of one between clocks are clocks
abbrev pub IsTyped : Types → Equation → Type 0
IsTyped types (Valued left right clause) = (type : NameKind) × (whole_type_of types left ≡ Some type) × (whole_type_of types right ≡ Some type)
IsTyped types (Clocks left right clause) = (is_typed_clock types left ≡ true) × (is_typed_clock types right ≡ true)
