-- What is asked of a node, and what holds then of it as an expression and as a clock.
use Rattle.std.proofs.Common.{◌≡◌, refl, ap, List, [], ◌∷◌, Option, Some, None, option_map}
use Rattle.std.specs.Option.{option_and_then}
use Rattle.flat_model.specs.declared.model.FlatName.{FlatName}
use Rattle.flat_model.specs.declared.model.NameKind.{NameKind}
use Rattle.flat_model.specs.declared.model.NameKind.TheVariants as kind
use Rattle.flat_model.specs.declared.expression.Expr.{Expr}
use Rattle.flat_model.specs.declared.clock.ClockExpr.{ClockExpr}
use Rattle.flat_model.specs.Typing.{types_in, valued_type}
use Rattle.flat_model.specs.WholeTyping.{is_clock}
use Rattle.flat_types.specs.declared.ends.TypeCode.{TypeCode}
use Rattle.flat_types.specs.declared.outcome.Outcome.{Outcome}
use Rattle.flat_types.specs.declared.outcome.Outcome.TheVariants.{Name, Valued, Clocked, Broken}
use Rattle.flat_types.specs.Outcomes.{first_broken, read_as, clock_named, as_value, as_clock, as_values, made}
use Rattle.flat_types.specs.Readings.{after, types_of}
use Rattle.typed_model.proofs.Good.{IsGoodValue, IsGoodClock, AreGoodValues, good_more}
use Rattle.typed_model.proofs.Values.{good-Read}
use Rattle.typed_model.proofs.Clocks.{good-Name}

abbrev pub Each : {X : Type 0} → (X → Type 0) → List X → Type 0
Each P [] = Unit {0}
Each P (x ∷ xs) = P x × Each P xs

module _ (names : List FlatName) where
  -- a node: an expression or a clock is good; of a name and of a broken rule nothing is asked
  abbrev pub IsGood : Outcome → Type 0
  IsGood (Name x) = Unit {0}
  IsGood (Valued expr type) = IsGoodValue names expr type
  IsGood (Clocked clock) = IsGoodClock names clock
  IsGood (Broken code) = Unit {0}

  abbrev pub IsGoodTyped : Option (Expr × NameKind) → Type 0
  IsGoodTyped None = Unit {0}
  IsGoodTyped (Some typed) = IsGoodValue names typed.0 typed.1

  abbrev pub AreGoodTyped : List (Option NameKind) → Option (List Expr) → Type 0
  AreGoodTyped ts None = Unit {0}
  AreGoodTyped ts (Some exprs) = AreGoodValues names exprs ts

  abbrev pub IsGoodTick : Option ClockExpr → Type 0
  IsGoodTick None = Unit {0}
  IsGoodTick (Some clock) = IsGoodClock names clock

  -- a part as an expression
  pub value_good : (part : Outcome) → IsGood part → IsGoodTyped (as_value names part)
  value_good (Name x) good = by (types_in names x) refl
    where
      by : (o : Option NameKind) → types_in names x ≡ o → IsGoodTyped (read_as x o)
      by None at = tt
      by (Some kind.Integer) at = good-Read names x kind.Integer (ap valued_type at)
      by (Some kind.Boolean) at = good-Read names x kind.Boolean (ap valued_type at)
      by (Some kind.Clock) at = tt
  value_good (Valued expr type) good = good
  value_good (Clocked clock) good = tt
  value_good (Broken code) good = tt

  -- a part as a clock
  pub clock_good : (part : Outcome) → IsGood part → IsGoodTick (as_clock names part)
  clock_good (Name x) good = by (types_in names x) refl
    where
      by : (o : Option NameKind) → types_in names x ≡ o → IsGoodTick (clock_named x o)
      by None at = tt
      by (Some kind.Integer) at = tt
      by (Some kind.Boolean) at = tt
      by (Some kind.Clock) at = good-Name names x (ap is_clock at)
  clock_good (Valued expr type) good = tt
  clock_good (Clocked clock) good = good
  clock_good (Broken code) good = tt

  -- several parts as expressions
  pub values_good : (parts : List Outcome) → Each IsGood parts → AreGoodTyped (types_of names parts) (as_values names parts)
  values_good [] good = record { types = refl; counters = refl; inputs = refl }
  values_good (part ∷ parts) good = by (as_value names part) (types_of names parts) (as_values names parts) (value_good part good.0) (values_good parts good.1)
    where
      by : (o : Option (Expr × NameKind)) (ts : List (Option NameKind)) (p : Option (List Expr)) → IsGoodTyped o → AreGoodTyped ts p
          → AreGoodTyped (option_map (λ typed. typed.1) o ∷ ts) (option_and_then (λ typed. option_map (λ rest. typed.0 ∷ rest) p) o)
      by None ts p one rest = tt
      by (Some typed) ts None one rest = tt
      by (Some typed) ts (Some exprs) one rest = good_more names typed.0 exprs typed.1 ts one rest

  -- what is made of a type and an expression
  pub made_none : (o : Option NameKind) → IsGood (made o None)
  made_none None = tt
  made_none (Some t) = tt

  pub made_good : (o : Option NameKind) (expr : Expr) → ((t : NameKind) → o ≡ Some t → IsGoodValue names expr t) → IsGood (made o (Some expr))
  made_good None expr good = tt
  made_good (Some t) expr good = good t refl

  -- a node behind its parts
  pub after_good : (parts : List Outcome) (own : Outcome) → IsGood own → IsGood (after parts own)
  after_good parts own good = by (first_broken parts) refl
    where
      by : (o : Option TypeCode) → first_broken parts ≡ o → IsGood (after parts own)
      by (Some code) at = rw at tt
      by None at = rw at good
