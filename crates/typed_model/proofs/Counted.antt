-- Counters, and the conversions and clocks with them, are in range.
use Rattle.std.proofs.Common.{◌≡◌, refl, ap₂, ℕ, zero, suc, ◌^◌, nat_le, nat_lt, ⊎_elim, arith, ◌&&◌, Bool, true, false, if◌then◌else◌, ℤ, pos, negsuc, List, [], Option, Some, None, option_map}
use Rattle.std.proofs.lemmas.Bool.{and_parts}
use Rattle.std.proofs.lemmas.Bool.Decides.{leb_tells}
use Rattle.sync_values.specs.declared.value.Value.TheVariants as value
use Rattle.flat_model.specs.declared.model.FlatName.{FlatName}
use Rattle.flat_model.specs.declared.model.NameKind.TheVariants as kind
use Rattle.flat_model.specs.declared.expression.Expr.{Expr}
use Rattle.flat_model.specs.declared.clock.Conversion.{Conversion}
use Rattle.flat_model.specs.declared.clock.Conversion.TheVariants as by
use Rattle.flat_model.specs.Operators.{Answer, Is, Fails, Absent}
use Rattle.flat_model.specs.Values.{views_of}
use Rattle.flat_model.specs.Meaning.{value_of}
use Rattle.flat_model.specs.Counters.{is_counter, has_counters}
use Rattle.flat_types.specs.declared.outcome.Outcome.{Outcome}
use Rattle.flat_types.specs.declared.outcome.Outcome.TheVariants.{Name, Valued, Clocked, Broken}
use Rattle.flat_types.specs.Outcomes.{is_constant, number_in, number_from, constant_number, counter, both, clock_of}
use Rattle.typed_model.proofs.Good.{IsGoodClock}
use Rattle.typed_model.proofs.Clocks.{good-Inferred, good-Rational}
use Rattle.typed_model.proofs.NodeParts.{IsGoodTick}

-- a number from the least one on, where there is one
abbrev pub IsInRange : ℕ → Option ℕ → Type 0
IsInRange least None = Unit {0}
IsInRange least (Some n) = is_counter least n ≡ true

abbrev pub HasRange : Option Conversion → Type 0
HasRange None = Unit {0}
HasRange (Some conversion) = has_counters conversion ≡ true

number_in_range : (least : ℕ) (z : ℤ) → IsInRange least (number_in least z)
number_in_range least (pos n) = by (is_counter least n) refl
  where
    by : (b : Bool) → is_counter least n ≡ b → IsInRange least (if b then Some n else None)
    by true is = is
    by false is = tt
number_in_range least (negsuc n) = tt

number_from_range : (least : ℕ) (a : Answer) → IsInRange least (number_from least a)
number_from_range least (Is (value.Int z)) = number_in_range least z
number_from_range least (Is (value.Bool b)) = tt
number_from_range least (Fails kind) = tt
number_from_range least Absent = tt

constant_range : (least : ℕ) (expr : Expr) → IsInRange least (constant_number least expr)
constant_range least expr = by (is_constant expr)
  where
    by : (b : Bool) → IsInRange least (if b then number_from least (value_of expr (views_of [])) else None)
    by true = number_from_range least (value_of expr (views_of []))
    by false = tt

pub counter_range : (least : ℕ) (part : Outcome) → IsInRange least (counter least part)
counter_range least (Valued expr kind.Integer) = constant_range least expr
counter_range least (Valued expr kind.Boolean) = tt
counter_range least (Valued expr kind.Clock) = tt
counter_range least (Name x) = tt
counter_range least (Clocked clock) = tt
counter_range least (Broken code) = tt

-- conversions with a counter, or with two
pub sub_range : (o : Option ℕ) → IsInRange 0 o → HasRange (option_map (λ n. by.Sub n) o)
sub_range None range = tt
sub_range (Some n) range = range

pub super_range : (o : Option ℕ) → IsInRange 0 o → HasRange (option_map (λ n. by.Super n) o)
super_range None range = tt
super_range (Some n) range = range

pub shift_range : (o : Option ℕ) → IsInRange 0 o → HasRange (option_map (λ n. by.Shift n 1) o)
shift_range None range = tt
shift_range (Some n) range = ap₂ (λ a b. a && b) range refl

pub back_range : (o : Option ℕ) → IsInRange 0 o → HasRange (option_map (λ n. by.Back n 1) o)
back_range None range = tt
back_range (Some n) range = ap₂ (λ a b. a && b) range refl

pub shift_both_range : (o p : Option ℕ) → IsInRange 0 o → IsInRange 1 p → HasRange (both (λ m n. by.Shift m n) o p)
shift_both_range None p one two = tt
shift_both_range (Some m) None one two = tt
shift_both_range (Some m) (Some n) one two = ap₂ (λ a b. a && b) one two

pub back_both_range : (o p : Option ℕ) → IsInRange 0 o → IsInRange 1 p → HasRange (both (λ m n. by.Back m n) o p)
back_both_range None p one two = tt
back_both_range (Some m) None one two = tt
back_both_range (Some m) (Some n) one two = ap₂ (λ a b. a && b) one two

one_least : (n : ℕ) → nat_le 1 (suc n) ≡ true
one_least n = ⊎_elim (λ h. h.0) (λ h. absurd (let below = h.1 in omega (arith, below))) (leb_tells 1 (suc n))

-- a clock by a counter and a resolution
module _ (names : List FlatName) where
  clock_of_good : (n r : ℕ) → is_counter 0 n ≡ true → is_counter 1 r ≡ true → IsGoodClock names (clock_of n r)
  clock_of_good zero r one two = good-Inferred names
  clock_of_good (suc n) r one two = good-Rational names (suc n) r (ap₂ (λ a b. a && b) (one_least n) (and_parts (nat_le 0 (suc n)) (nat_lt (suc n) (2 ^ 31)) one).1) two

  pub clock_one_good : (o : Option ℕ) → IsInRange 0 o → IsGoodTick names (option_map (λ n. clock_of n 1) o)
  clock_one_good None range = tt
  clock_one_good (Some n) range = clock_of_good n 1 range refl

  pub clock_both_good : (o p : Option ℕ) → IsInRange 0 o → IsInRange 1 p → IsGoodTick names (both clock_of o p)
  clock_both_good None p one two = tt
  clock_both_good (Some m) None one two = tt
  clock_both_good (Some m) (Some n) one two = clock_of_good m n one two
