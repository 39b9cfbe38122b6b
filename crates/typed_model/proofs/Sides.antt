-- A clause's clock and an equation that break no rule are good.
use Rattle.std.proofs.Common.{◌≡◌, refl, subst, ℕ, Bool, true, false, if◌then◌else◌, List, Option, Some, None, Result, Ok, Err}
use Rattle.std.proofs.lemmas.Bool.{false≢true}
use Rattle.flat_model.specs.declared.model.FlatName.{FlatName}
use Rattle.flat_model.specs.declared.model.NameKind.{NameKind}
use Rattle.flat_model.specs.declared.model.NameKind.TheVariants as kind
use Rattle.flat_model.specs.declared.expression.Expr.{Expr}
use Rattle.flat_model.specs.declared.clock.ClockExpr.{ClockExpr}
use Rattle.flat_model.specs.declared.equation.Equation.{Equation}
use Rattle.flat_model.specs.declared.equation.Equation.TheVariants as eq
use Rattle.flat_model.specs.declared.raw.RawExpr.{RawExpr}
use Rattle.flat_model.specs.declared.raw.RawEq.{RawEq}
use Rattle.flat_model.specs.RawModels.{constants_fit, HasConstants}
use Rattle.flat_model.specs.Typing.{types_in, is_type}
use Rattle.flat_types.specs.declared.ends.TypeCode.{TypeCode}
use Rattle.flat_types.specs.declared.ends.TypeCode.TheVariants.{Y1, Y5}
use Rattle.flat_types.specs.declared.outcome.Outcome.{Outcome}
use Rattle.flat_types.specs.declared.outcome.Outcome.TheVariants.{Name, Valued, Clocked, Broken}
use Rattle.flat_types.specs.Outcomes.{as_value, as_clock}
use Rattle.flat_types.specs.Readings.{reading, node_of}
use Rattle.flat_types.specs.Typed.{clock_by, clocks_by, values_by, clause_clock, equation_by, equation_of}
use Rattle.typed_model.proofs.Good.{IsGoodValue, IsGoodClock}
use Rattle.typed_model.proofs.NodeParts.{IsGood, IsGoodTyped, IsGoodTick, value_good, clock_good}
use Rattle.typed_model.proofs.Nodes.{reading_good}

-- an equation in a clause, or in none: both sides are good, and are of one type or are clocks
pub data IsGoodEquation (names : List FlatName) (clause : Option ℕ) : Equation → Type 0 where
  valued : (left right : Expr) (type : NameKind) → IsGoodValue names left type → IsGoodValue names right type → IsGoodEquation names clause (eq.Valued left right clause)
  clocks : (left right : ClockExpr) → IsGoodClock names left → IsGoodClock names right → IsGoodEquation names clause (eq.Clocks left right clause)

-- what was answered: a good clock, or a good equation, or a broken rule
abbrev IsGoodClockAnswer : List FlatName → Result ClockExpr TypeCode → Type 0
IsGoodClockAnswer names (Ok clock) = IsGoodClock names clock
IsGoodClockAnswer names (Err code) = Unit {0}

abbrev IsGoodAnswer : List FlatName → Option ℕ → Result Equation TypeCode → Type 0
IsGoodAnswer names clause (Ok equation) = IsGoodEquation names clause equation
IsGoodAnswer names clause (Err code) = Unit {0}

same_type : (a b : NameKind) → is_type a (Some b) ≡ true → b ≡ a
same_type kind.Integer kind.Integer is = refl
same_type kind.Integer kind.Boolean is = absurd (false≢true is)
same_type kind.Integer kind.Clock is = absurd (false≢true is)
same_type kind.Boolean kind.Integer is = absurd (false≢true is)
same_type kind.Boolean kind.Boolean is = refl
same_type kind.Boolean kind.Clock is = absurd (false≢true is)
same_type kind.Clock kind.Integer is = absurd (false≢true is)
same_type kind.Clock kind.Boolean is = absurd (false≢true is)
same_type kind.Clock kind.Clock is = absurd (false≢true is)

module _ (names : List FlatName) where
  clock_by_good : (found : Outcome) (o : Option ClockExpr) → IsGoodTick names o → IsGoodClockAnswer names (clock_by found o)
  clock_by_good (Broken code) o good = tt
  clock_by_good (Name x) None good = tt
  clock_by_good (Name x) (Some clock) good = good
  clock_by_good (Valued expr type) None good = tt
  clock_by_good (Valued expr type) (Some clock) good = good
  clock_by_good (Clocked it) None good = tt
  clock_by_good (Clocked it) (Some clock) good = good

  clause_answer : (raw : RawExpr) → constants_fit raw ≡ true → IsGoodClockAnswer names (clause_clock names raw)
  clause_answer raw fit = by (is_type kind.Boolean (reading names raw).gives)
    where
      by : (b : Bool) → IsGoodClockAnswer names (if b then Err Y5 else clock_by (node_of names raw) (as_clock names (node_of names raw)))
      by true = tt
      by false = clock_by_good (node_of names raw) (as_clock names (node_of names raw)) (clock_good names (node_of names raw) (reading_good names raw fit).found)

  -- the clock of a clause
  pub clause_good : (raw : RawExpr) (clock : ClockExpr) → clause_clock names raw ≡ Ok clock → constants_fit raw ≡ true → IsGoodClock names clock
  clause_good raw clock is fit = subst (λ it. IsGoodClockAnswer names it) is (clause_answer raw fit)

  module _ (clause : Option ℕ) where
    clocks_good : (o p : Option ClockExpr) → IsGoodTick names o → IsGoodTick names p → IsGoodAnswer names clause (clocks_by clause o p)
    clocks_good None p one two = tt
    clocks_good (Some a) None one two = tt
    clocks_good (Some a) (Some b) one two = clocks a b one two

    typed_good : (a b : Expr) (t u : NameKind) (c : Bool) → is_type t (Some u) ≡ c → IsGoodValue names a t → IsGoodValue names b u
        → IsGoodAnswer names clause (if c then Ok (eq.Valued a b clause) else Err Y1)
    typed_good a b t u true is one two = valued a b t one (subst (λ it. IsGoodValue names b it) (same_type t u is) two)
    typed_good a b t u false is one two = tt

    values_good : (o p : Option (Expr × NameKind)) → IsGoodTyped names o → IsGoodTyped names p → IsGoodAnswer names clause (values_by clause o p)
    values_good None p one two = tt
    values_good (Some a) None one two = tt
    values_good (Some a) (Some b) one two = typed_good a.0 b.0 a.1 b.1 (is_type a.1 (Some b.1)) refl one two

    -- a name on one side: by its type an expression, a clock, or neither
    name_valued : (x : ℕ) (f : Expr) (u : NameKind) → IsGoodValue names f u → IsGoodAnswer names clause (equation_by names clause (Name x) (Valued f u))
    name_valued x f u two = by (types_in names x) refl
      where
        values : IsGoodAnswer names clause (values_by clause (as_value names (Name x)) (Some (f, u)))
        values = values_good (as_value names (Name x)) (Some (f, u)) (value_good names (Name x) tt) two

        by : (o : Option NameKind) → types_in names x ≡ o → IsGoodAnswer names clause (equation_by names clause (Name x) (Valued f u))
        by None at = rw at values
        by (Some kind.Integer) at = rw at values
        by (Some kind.Boolean) at = rw at values
        by (Some kind.Clock) at = rw at values

    name_clocked : (x : ℕ) (k : ClockExpr) → IsGoodClock names k → IsGoodAnswer names clause (equation_by names clause (Name x) (Clocked k))
    name_clocked x k two = by (types_in names x) refl
      where
        ticks : IsGoodAnswer names clause (clocks_by clause (as_clock names (Name x)) (Some k))
        ticks = clocks_good (as_clock names (Name x)) (Some k) (clock_good names (Name x) tt) two

        values : IsGoodAnswer names clause (values_by clause (as_value names (Name x)) None)
        values = values_good (as_value names (Name x)) None (value_good names (Name x) tt) tt

        by : (o : Option NameKind) → types_in names x ≡ o → IsGoodAnswer names clause (equation_by names clause (Name x) (Clocked k))
        by None at = rw at ticks
        by (Some kind.Integer) at = rw at values
        by (Some kind.Boolean) at = rw at values
        by (Some kind.Clock) at = rw at ticks

    clocked_name : (k : ClockExpr) (x : ℕ) → IsGoodClock names k → IsGoodAnswer names clause (equation_by names clause (Clocked k) (Name x))
    clocked_name k x one = by (types_in names x) refl
      where
        ticks : IsGoodAnswer names clause (clocks_by clause (Some k) (as_clock names (Name x)))
        ticks = clocks_good (Some k) (as_clock names (Name x)) one (clock_good names (Name x) tt)

        by : (o : Option NameKind) → types_in names x ≡ o → IsGoodAnswer names clause (equation_by names clause (Clocked k) (Name x))
        by None at = rw at ticks
        by (Some kind.Integer) at = rw at tt
        by (Some kind.Boolean) at = rw at tt
        by (Some kind.Clock) at = rw at ticks

    two_names : (x y : ℕ) → IsGoodAnswer names clause (equation_by names clause (Name x) (Name y))
    two_names x y = by (types_in names x) (types_in names y) refl refl
      where
        values : IsGoodAnswer names clause (values_by clause (as_value names (Name x)) (as_value names (Name y)))
        values = values_good (as_value names (Name x)) (as_value names (Name y)) (value_good names (Name x) tt) (value_good names (Name y) tt)

        ticks : IsGoodAnswer names clause (clocks_by clause (as_clock names (Name x)) (as_clock names (Name y)))
        ticks = clocks_good (as_clock names (Name x)) (as_clock names (Name y)) (clock_good names (Name x) tt) (clock_good names (Name y) tt)

        by : (o p : Option NameKind) → types_in names x ≡ o → types_in names y ≡ p → IsGoodAnswer names clause (equation_by names clause (Name x) (Name y))
        by (Some kind.Integer) p at is = rw at values
        by (Some kind.Boolean) p at is = rw at values
        by None None at is = rw (at, is) ticks
        by None (Some kind.Integer) at is = rw (at, is) values
        by None (Some kind.Boolean) at is = rw (at, is) values
        by None (Some kind.Clock) at is = rw (at, is) ticks
        by (Some kind.Clock) None at is = rw (at, is) ticks
        by (Some kind.Clock) (Some kind.Integer) at is = rw (at, is) values
        by (Some kind.Clock) (Some kind.Boolean) at is = rw (at, is) values
        by (Some kind.Clock) (Some kind.Clock) at is = rw (at, is) ticks

    -- two sides that break no rule
    sides_good : (left right : Outcome) → IsGood names left → IsGood names right → IsGoodAnswer names clause (equation_by names clause left right)
    sides_good (Broken code) right one two = tt
    sides_good (Name x) (Broken code) one two = tt
    sides_good (Name x) (Name y) one two = two_names x y
    sides_good (Name x) (Valued f u) one two = name_valued x f u two
    sides_good (Name x) (Clocked k) one two = name_clocked x k two
    sides_good (Valued a t) (Broken code) one two = tt
    sides_good (Valued a t) (Name y) one two = values_good (Some (a, t)) (as_value names (Name y)) one (value_good names (Name y) tt)
    sides_good (Valued a t) (Valued f u) one two = values_good (Some (a, t)) (Some (f, u)) one two
    sides_good (Valued a t) (Clocked k) one two = tt
    sides_good (Clocked k) (Broken code) one two = tt
    sides_good (Clocked k) (Name y) one two = clocked_name k y one
    sides_good (Clocked k) (Valued f u) one two = tt
    sides_good (Clocked k) (Clocked l) one two = clocks k l one two

  pub equation_good : (raw : RawEq) (equation : Equation) → equation_of names raw ≡ Ok equation → HasConstants raw → IsGoodEquation names raw.clause equation
  equation_good raw equation is fit = subst (λ it. IsGoodAnswer names raw.clause it) is
      (sides_good raw.clause (node_of names raw.left) (node_of names raw.right) (reading_good names raw.left fit.0).found (reading_good names raw.right fit.1).found)
