-- The typed model of a raw one, or the first rule of types that it breaks.
use Rattle.std.specs.Prelude.{◌≡◌, ℕ, ◌<◌, List, map, Option, Some, None, Result, Ok, Err, slice_get, if◌then◌else◌}
use Rattle.flat_model.specs.declared.model.NameKind.{NameKind}
use Rattle.flat_model.specs.declared.model.NameKind.TheVariants as kind
use Rattle.flat_model.specs.declared.model.FlatName.{FlatName}
use Rattle.flat_model.specs.declared.model.FlatModel.{FlatModel}
use Rattle.flat_model.specs.declared.raw.RawModel.{RawModel}
use Rattle.flat_model.specs.declared.raw.RawEq.{RawEq}
use Rattle.flat_model.specs.declared.raw.RawExpr.{RawExpr}
use Rattle.flat_model.specs.declared.expression.Expr.{Expr}
use Rattle.flat_model.specs.declared.clock.ClockExpr.{ClockExpr}
use Rattle.flat_model.specs.declared.equation.Equation.{Equation}
use Rattle.flat_model.specs.declared.equation.Equation.TheVariants as eq
use Rattle.flat_model.specs.Typing.{is_type}
use Rattle.flat_types.specs.declared.ends.TypeCode.{TypeCode}
use Rattle.flat_types.specs.declared.ends.TypeCode.TheVariants.{Y1, Y5}
use Rattle.flat_types.specs.declared.ends.TypeEnd.{TypeEnd}
use Rattle.flat_types.specs.declared.ends.TypeEnd.TheVariants.{Fault, NoMemory}
use Rattle.flat_types.specs.declared.outcome.Outcome.{Outcome}
use Rattle.flat_types.specs.declared.outcome.Outcome.TheVariants.{Broken}
use Rattle.flat_types.specs.Outcomes.{as_value, as_clock, type_of_part}
use Rattle.flat_types.specs.Readings.{reading, node_of}

-- a part that breaks no rule as a clock
abbrev pub clock_by : Outcome → Option ClockExpr → Result ClockExpr TypeCode
clock_by (Broken code) clock = Err code
clock_by found (Some clock) = Ok clock
clock_by found None = Err Y1

-- two clocks
abbrev pub clocks_by : Option ℕ → Option ClockExpr → Option ClockExpr → Result Equation TypeCode
clocks_by clause (Some a) (Some b) = Ok (eq.Clocks a b clause)
clocks_by clause _ _ = Err Y1

-- two values of one type
abbrev pub values_by : Option ℕ → Option (Expr × NameKind) → Option (Expr × NameKind) → Result Equation TypeCode
values_by clause (Some (a, type)) (Some (b, other)) = if is_type type (Some other) then Ok (eq.Valued a b clause) else Err Y1
values_by clause _ _ = Err Y1

module _ (names : List FlatName) where
  -- the clock of a clause: no Boolean, which is told before the rules Y2, Y4 and Y1 of its root, and no Integer
  abbrev pub clause_clock : RawExpr → Result ClockExpr TypeCode
  clause_clock raw = if is_type kind.Boolean (reading names raw).gives then Err Y5 else clock_by (node_of names raw) (as_clock names (node_of names raw))

  -- an equation of two sides of one type
  abbrev pub equation_by : Option ℕ → Outcome → Outcome → Result Equation TypeCode
  equation_by clause (Broken code) right = Err code
  equation_by clause left (Broken code) = Err code
  equation_by clause left right = by_types (type_of_part names left) (type_of_part names right)
    where
      by_types : Option NameKind → Option NameKind → Result Equation TypeCode
      by_types None None = clocks_by clause (as_clock names left) (as_clock names right)
      by_types type other = values_by clause (as_value names left) (as_value names right)

  abbrev pub equation_of : RawEq → Result Equation TypeCode
  equation_of raw = equation_by raw.clause (node_of names raw.left) (node_of names raw.right)

abbrev pub code_of : {A : Type 0} → Result A TypeCode → Option TypeCode
code_of (Ok it) = None
code_of (Err code) = Some code

-- equation i is the first one of its clause, k
pub record IsFirstOf (raw : RawModel) (i k : ℕ) (equation : RawEq) : Type 0 where
  pub clause : equation.clause ≡ Some k
  pub first : (j : ℕ) (other : RawEq) → j < i → slice_get raw.equations j ≡ Some other → other.clause ≡ Some k → ⊥

-- the first rule that equation i breaks: of its clause's clock, where it is the first of its clause, then of its own
pub data Breaks (raw : RawModel) (i : ℕ) : TypeCode → Type 0 where
  clock : (equation : RawEq) (k : ℕ) (clause : RawExpr) (code : TypeCode) → slice_get raw.equations i ≡ Some equation → IsFirstOf raw i k equation
      → slice_get raw.clauses k ≡ Some clause → code_of (clause_clock raw.names clause) ≡ Some code → Breaks raw i code
  own : (equation : RawEq) (code : TypeCode) → slice_get raw.equations i ≡ Some equation
      → ((k : ℕ) (clause : RawExpr) → IsFirstOf raw i k equation → slice_get raw.clauses k ≡ Some clause → code_of (clause_clock raw.names clause) ≡ None)
      → code_of (equation_of raw.names equation) ≡ Some code → Breaks raw i code

-- the typed model: the same names, each clause's clock and each equation typed
pub record IsTypedAs (raw : RawModel) (flat : FlatModel) : Type 0 where
  pub names : flat.names ≡ raw.names
  pub clauses : map (clause_clock raw.names) raw.clauses ≡ map (λ clock. Ok clock) flat.clauses
  pub equations : map (equation_of raw.names) raw.equations ≡ map (λ equation. Ok equation) flat.equations

-- what `typed` answers: the typed model, or the first equation that breaks a rule, with the first rule that it breaks
abbrev pub Answers : RawModel → Result FlatModel TypeEnd → Type 0
Answers raw (Ok flat) = IsTypedAs raw flat
Answers raw (Err (Fault code i)) = Breaks raw i code × ((j : ℕ) (other : TypeCode) → j < i → Breaks raw j other → ⊥)
Answers raw (Err NoMemory) = Unit {0}
