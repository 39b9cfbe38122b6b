-- The types of expressions, and the expressions that are made of values at one tick.
use Rattle.std.specs.Prelude.{ℕ, ◌+◌, ◌==◌, nat_le, Bool, true, false, ◌&&◌, List, [], ◌∷◌, length, Option, Some, None, slice_get, option_map, is_ok, if◌then◌else◌}
use Rattle.std.specs.List.{list_all}
use Rattle.sync_values.specs.Arithmetic.{fitted}
use Rattle.sync_values.specs.declared.value.Value.{Value}
use Rattle.sync_values.specs.declared.value.Value.TheVariants as value
use Rattle.sync_values.specs.declared.value.ChainOp.{ChainOp}
use Rattle.sync_values.specs.declared.value.ChainOp.TheVariants.{Plus, Minus, Times, And, Or}
use Rattle.flat_model.specs.declared.model.NameKind.{NameKind}
use Rattle.flat_model.specs.declared.model.NameKind.TheVariants as kind
use Rattle.flat_model.specs.declared.model.FlatName.{FlatName}
use Rattle.flat_model.specs.declared.expression.Expr.{Expr}
use Rattle.flat_model.specs.declared.expression.Fun.{Fun}
use Rattle.flat_model.specs.declared.expression.Fun.TheVariants.{Abs}
use Rattle.flat_model.specs.declared.clock.ClockExpr.TheOpen.{Expr-F}
use Rattle.flat_model.specs.declared.clock.ClockExpr.TheFolds.{fold-Expr}
use Rattle.flat_model.specs.Occurrences.{is_sum}

-- the type of each name, or none where there is no such name
abbrev pub Types : Type 0
Types = ℕ → Option NameKind

abbrev pub types_in : List FlatName → Types
types_in names x = option_map (λ name. name.kind) (slice_get names x)

-- the type of the values of a name; a Clock has none
abbrev pub valued_type : Option NameKind → Option NameKind
valued_type (Some kind.Integer) = Some kind.Integer
valued_type (Some kind.Boolean) = Some kind.Boolean
valued_type _ = None

abbrev pub type_of_value : Value → NameKind
type_of_value (value.Int z) = kind.Integer
type_of_value (value.Bool b) = kind.Boolean

-- an Integer of 64 bits, or a Boolean
abbrev pub is_value : Value → Bool
is_value (value.Int z) = is_ok (fitted z)
is_value (value.Bool b) = true

-- an expression is of this type
abbrev pub is_type : NameKind → Option NameKind → Bool
is_type kind.Integer (Some kind.Integer) = true
is_type kind.Boolean (Some kind.Boolean) = true
is_type _ _ = false

-- the type, where what a rule of types asks holds
abbrev pub typed_if : Bool → NameKind → Option NameKind
typed_if taken type = if taken then Some type else None

-- two operators may stand in one chain
abbrev pub goes_with : ChainOp → ChainOp → Bool
goes_with Plus op = is_sum op
goes_with Minus op = is_sum op
goes_with Times Times = true
goes_with And And = true
goes_with Or Or = true
goes_with _ _ = false

-- the type of the parts and of the result of an operator; quotients are left out
abbrev pub type_of_operator : ChainOp → Option NameKind
type_of_operator Plus = Some kind.Integer
type_of_operator Minus = Some kind.Integer
type_of_operator Times = Some kind.Integer
type_of_operator And = Some kind.Boolean
type_of_operator Or = Some kind.Boolean
type_of_operator _ = None

abbrev pub type_if_all : Option NameKind → List (Option NameKind) → Option NameKind
type_if_all (Some type) parts = typed_if (list_all (is_type type) parts) type
type_if_all None parts = None

-- at least two parts with an operator between each and the next, all operators of one kind
abbrev pub chain_type : List (Option NameKind) → List ChainOp → Option NameKind
chain_type parts [] = None
chain_type parts (op ∷ ops) =
    if length parts == length ops + 2 && list_all (goes_with op) ops then type_if_all (type_of_operator op) parts else None

-- two Integers, or two Booleans
abbrev pub relation_type : Option NameKind → Option NameKind → Option NameKind
relation_type (Some type) right = typed_if (is_type type right) kind.Boolean
relation_type None right = None

-- at least one condition, as many branches as conditions, and all branches of one type
abbrev pub if_type : List (Option NameKind) → List (Option NameKind) → Option NameKind → Option NameKind
if_type conditions branches (Some type) =
    typed_if (nat_le 1 (length conditions) && length branches == length conditions && list_all (is_type kind.Boolean) conditions && list_all (is_type type) branches) type
if_type conditions branches None = None

-- how many Integers a function takes
abbrev pub arity : Fun → ℕ
arity Abs = 1
arity _ = 2

abbrev pub call_type : Fun → List (Option NameKind) → Option NameKind
call_type function parts = typed_if (length parts == arity function && list_all (is_type kind.Integer) parts) kind.Integer

-- one level of an expression whose parts have types, whatever its clocks are
abbrev pub type_of_level : {C : Type 0} → Types → Expr-F C (Option NameKind) → Option NameKind
type_of_level types (Expr-F.Const v) = typed_if (is_value v) (type_of_value v)
type_of_level types (Expr-F.Read x) = valued_type (types x)
type_of_level types (Expr-F.Chain parts ops) = chain_type parts ops
type_of_level types (Expr-F.Relation rel left right) = relation_type left right
type_of_level types (Expr-F.Neg part) = typed_if (is_type kind.Integer part) kind.Integer
type_of_level types (Expr-F.Not part) = typed_if (is_type kind.Boolean part) kind.Boolean
type_of_level types (Expr-F.If conditions branches other) = if_type conditions branches other
type_of_level types (Expr-F.Apply function parts) = call_type function parts
type_of_level types (Expr-F.Previous x) = valued_type (types x)
type_of_level types (Expr-F.FirstTick x) = Some kind.Boolean
type_of_level types (Expr-F.IntervalTimes x k) = Some kind.Integer
type_of_level types (Expr-F.Hold x) = valued_type (types x)
type_of_level types (Expr-F.«Expr::Convert» conversion x) = valued_type (types x)
type_of_level types (Expr-F.Sample part clock) = part

-- the type of an expression; none where it breaks a rule of types. MLS 3.6, chapter 3, "Operators and Expressions", in this project's profile.
unfoldable pub type_of : Types → Expr → Option NameKind
type_of types = fold-Expr (Unit {0}) (Option NameKind) (λ _. tt) (type_of_level types)

abbrev pub plain_level : Expr-F (Unit {0}) Bool → Bool
plain_level (Expr-F.Const v) = true
plain_level (Expr-F.Read x) = true
plain_level (Expr-F.Chain parts ops) = list_all (λ part. part) parts
plain_level (Expr-F.Relation rel left right) = left && right
plain_level (Expr-F.Neg part) = part
plain_level (Expr-F.Not part) = part
plain_level (Expr-F.If conditions branches other) = list_all (λ part. part) conditions && list_all (λ part. part) branches && other
plain_level (Expr-F.Apply function parts) = list_all (λ part. part) parts
plain_level (Expr-F.Previous x) = true
plain_level _ = false

-- of constants, names, operators, functions and `previous` alone
unfoldable pub is_plain : Expr → Bool
is_plain = fold-Expr (Unit {0}) Bool (λ _. tt) plain_level
