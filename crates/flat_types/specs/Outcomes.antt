-- What a node of an equation is once its parts are known, and which rule it breaks.
use Rattle.std.specs.Prelude.{ℕ, zero, suc, ℤ, pos, negsuc, Bool, true, false, ◌&&◌, List, [], ◌∷◌, Option, Some, None, Result, Ok, Err, option_map, if◌then◌else◌}
use Rattle.std.specs.Option.{option_and_then}
use Rattle.std.specs.List.{list_all}
use Rattle.sync_values.specs.declared.value.Value.TheVariants as value
use Rattle.flat_model.specs.declared.model.NameKind.{NameKind}
use Rattle.flat_model.specs.declared.model.NameKind.TheVariants as kind
use Rattle.flat_model.specs.declared.model.FlatName.{FlatName}
use Rattle.flat_model.specs.declared.expression.Expr.{Expr}
use Rattle.flat_model.specs.declared.expression.Expr.TheVariants as e
use Rattle.flat_model.specs.declared.clock.Conversion.{Conversion}
use Rattle.flat_model.specs.declared.clock.ClockExpr.{ClockExpr}
use Rattle.flat_model.specs.declared.clock.ClockExpr.TheVariants as c
use Rattle.flat_model.specs.declared.clock.ClockExpr.TheOpen.{Expr-F}
use Rattle.flat_model.specs.declared.clock.ClockExpr.TheFolds.{fold-Expr}
use Rattle.flat_model.specs.Operators.{Answer, Is}
use Rattle.flat_model.specs.Values.{views_of}
use Rattle.flat_model.specs.Arguments.{is_input}
use Rattle.flat_model.specs.Counters.{is_counter}
use Rattle.flat_model.specs.Meaning.{value_of}
use Rattle.flat_model.specs.Typing.{types_in}
use Rattle.flat_types.specs.declared.ends.TypeCode.{TypeCode}
use Rattle.flat_types.specs.declared.outcome.Outcome.{Outcome}
use Rattle.flat_types.specs.declared.outcome.Outcome.TheVariants.{Name, Valued, Clocked, Broken}
use Rattle.flat_types.specs.declared.ends.TypeCode.TheVariants.{Y1, Y2, Y4}

-- the first broken rule among parts, left to right
abbrev pub first_broken : List Outcome → Option TypeCode
first_broken [] = None
first_broken (Broken code ∷ rest) = Some code
first_broken (_ ∷ rest) = first_broken rest

-- of constants alone
abbrev pub constant_level : Expr-F (Unit {0}) Bool → Bool
constant_level (Expr-F.Const v) = true
constant_level (Expr-F.Chain parts ops) = list_all (λ part. part) parts
constant_level (Expr-F.Relation rel left right) = left && right
constant_level (Expr-F.Neg part) = part
constant_level (Expr-F.Not part) = part
constant_level (Expr-F.If conditions branches other) = list_all (λ part. part) conditions && list_all (λ part. part) branches && other
constant_level (Expr-F.Apply function parts) = list_all (λ part. part) parts
constant_level _ = false

unfoldable pub is_constant : Expr → Bool
is_constant = fold-Expr (Unit {0}) Bool (λ _. tt) constant_level

-- a number from the least one to 2^31-1
abbrev pub number_in : ℕ → ℤ → Option ℕ
number_in least (pos n) = if is_counter least n then Some n else None
number_in least (negsuc n) = None

abbrev pub number_from : ℕ → Answer → Option ℕ
number_from least (Is (value.Int z)) = number_in least z
number_from least _ = None

-- the value of an expression of constants alone, for which no name needs a value
abbrev pub constant_number : ℕ → Expr → Option ℕ
constant_number least expr = if is_constant expr then number_from least (value_of expr (views_of [])) else None

-- the value of a counter, factor, resolution or k: an Integer expression of constants alone
abbrev pub counter : ℕ → Outcome → Option ℕ
counter least (Valued expr kind.Integer) = constant_number least expr
counter least _ = None

-- an expression of parts, where the types fit
abbrev pub made : Option NameKind → Option Expr → Outcome
made (Some type) (Some expr) = Valued expr type
made _ _ = Broken Y1

-- what is made of a variable, where it is one
abbrev pub of_variable : (ℕ → NameKind → Outcome) → Result (ℕ × NameKind) TypeCode → Outcome
of_variable make (Ok found) = make found.0 found.1
of_variable make (Err code) = Broken code

abbrev pub both : {A : Type 0} → (ℕ → ℕ → A) → Option ℕ → Option ℕ → Option A
both make (Some a) (Some b) = Some (make a b)
both make _ _ = None

abbrev pub clock_of : ℕ → ℕ → ClockExpr
clock_of zero r = c.Inferred
clock_of (suc n) r = c.Rational (suc n) r

abbrev pub clocked : Option ClockExpr → TypeCode → Outcome
clocked (Some clock) code = Clocked clock
clocked None code = Broken code

-- a clock by one argument: of an event where that is a Boolean, else by a counter
abbrev pub clock_by : Outcome → Option (Expr × NameKind) → Outcome
clock_by part (Some (expr, kind.Boolean)) = Clocked (c.Event expr)
clock_by part _ = clocked (option_map (λ n. clock_of n 1) (counter 0 part)) Y4

abbrev pub sampled : Option (Expr × NameKind) → Option (Option ClockExpr) → Outcome
sampled (Some (expr, type)) (Some clock) = Valued (e.Sample expr clock) type
sampled _ _ = Broken Y1

-- a part as an expression with its type, and as a clock
abbrev pub read_as : ℕ → Option NameKind → Option (Expr × NameKind)
read_as x (Some kind.Integer) = Some (e.Read x, kind.Integer)
read_as x (Some kind.Boolean) = Some (e.Read x, kind.Boolean)
read_as x _ = None

abbrev pub clock_named : ℕ → Option NameKind → Option ClockExpr
clock_named x (Some kind.Clock) = Some (c.Name x)
clock_named x _ = None

abbrev pub converted_kind : Conversion → ℕ → Option NameKind → Outcome
converted_kind conversion x (Some kind.Clock) = Clocked (c.Convert conversion x)
converted_kind conversion x (Some kind.Integer) = Valued (e.Convert conversion x) kind.Integer
converted_kind conversion x (Some kind.Boolean) = Valued (e.Convert conversion x) kind.Boolean
converted_kind conversion x None = Broken Y1

module _ (names : List FlatName) where
  abbrev pub kind_of_name : ℕ → Option NameKind
  kind_of_name x = types_in names x

  abbrev pub as_value : Outcome → Option (Expr × NameKind)
  as_value (Name x) = read_as x (kind_of_name x)
  as_value (Valued expr type) = Some (expr, type)
  as_value _ = None

  abbrev pub as_clock : Outcome → Option ClockExpr
  as_clock (Name x) = clock_named x (kind_of_name x)
  as_clock (Clocked clock) = Some clock
  as_clock _ = None

  abbrev pub type_of_part : Outcome → Option NameKind
  type_of_part part = option_map (λ typed. typed.1) (as_value part)

  -- the parts as expressions, where all are
  abbrev pub as_values : List Outcome → Option (List Expr)
  as_values [] = Some []
  as_values (part ∷ parts) = option_and_then (λ typed. option_map (λ rest. typed.0 ∷ rest) (as_values parts)) (as_value part)

  -- a name as an argument, which is told apart from what is no name, and from an input where that is refused
  abbrev pub component : Bool → Outcome → Result ℕ TypeCode
  component refuses (Name x) = if refuses && is_input names x then Err Y2 else Ok x
  component refuses _ = Err Y2

  -- a conversion of a variable or a Clock name
  abbrev pub converted : Result ℕ TypeCode → Option Conversion → Outcome
  converted (Err code) conversion = Broken code
  converted (Ok x) None = Broken Y4
  converted (Ok x) (Some conversion) = converted_kind conversion x (kind_of_name x)
