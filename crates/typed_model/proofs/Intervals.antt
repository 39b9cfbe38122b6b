-- The interval form gives a good node: its name is a variable, and its factor is in range.
use Rattle.std.proofs.Common.{◌≡◌, refl, ap, ℕ, Bool, true, false, if◌then◌else◌, List, [], ◌∷◌, Option, Some, None, is_some, Result, Ok, Err}
use Rattle.sync_values.specs.declared.value.ChainOp.{ChainOp}
use Rattle.flat_model.specs.declared.model.FlatName.{FlatName}
use Rattle.flat_model.specs.declared.model.NameKind.{NameKind}
use Rattle.flat_model.specs.declared.model.NameKind.TheVariants as kind
use Rattle.flat_model.specs.Typing.{types_in, valued_type}
use Rattle.flat_model.specs.WholeTyping.{is_variable_if}
use Rattle.flat_types.specs.declared.callee.Callee.{Callee}
use Rattle.flat_types.specs.declared.callee.Callee.TheVariants as to
use Rattle.flat_types.specs.declared.ends.TypeCode.{TypeCode}
use Rattle.flat_types.specs.declared.ends.TypeCode.TheVariants.{Y1}
use Rattle.flat_types.specs.declared.outcome.Outcome.{Outcome}
use Rattle.flat_types.specs.declared.outcome.Outcome.TheVariants.{Name, Valued, Clocked, Broken}
use Rattle.flat_types.specs.Outcomes.{counter}
use Rattle.flat_types.specs.Readings.{Reading, is_times, with_counter, first_interval, second_interval, integer_found, interval_of, product_of_two, product_of}
use Rattle.typed_model.proofs.Values.{good-IntervalTimes}
use Rattle.typed_model.proofs.NodeParts.{IsGood, after_good}
use Rattle.typed_model.proofs.Counted.{IsInRange, counter_range}

module _ (names : List FlatName) where
  -- the name in an interval is a variable
  abbrev pub IsGoodInterval : Option (Result (Option ℕ) TypeCode) → Type 0
  IsGoodInterval None = Unit {0}
  IsGoodInterval (Some (Err code)) = Unit {0}
  IsGoodInterval (Some (Ok u)) = is_variable_if (types_in names) u ≡ true

  abbrev pub IsGoodProduct : Option (Result (Option ℕ × Outcome) TypeCode) → Type 0
  IsGoodProduct None = Unit {0}
  IsGoodProduct (Some (Err code)) = Unit {0}
  IsGoodProduct (Some (Ok product)) = is_variable_if (types_in names) product.0 ≡ true

  pub interval_good : (called : Callee) (parts : List Outcome) → IsGoodInterval (interval_of names called parts)
  interval_good to.Interval [] = refl
  interval_good to.Interval (Name x ∷ []) = by (types_in names x) refl
    where
      by : (o : Option NameKind) → types_in names x ≡ o → IsGoodInterval (interval_of names to.Interval (Name x ∷ []))
      by None at = rw at tt
      by (Some kind.Integer) at = rw at (ap (λ o. is_some (valued_type o)) at)
      by (Some kind.Boolean) at = rw at (ap (λ o. is_some (valued_type o)) at)
      by (Some kind.Clock) at = rw at tt
  interval_good to.Interval (Valued expr type ∷ []) = tt
  interval_good to.Interval (Clocked clock ∷ []) = tt
  interval_good to.Interval (Broken code ∷ []) = tt
  interval_good to.Interval (u ∷ (v ∷ parts)) = tt
  interval_good to.Integer parts = tt
  interval_good (to.Arithmetic function) parts = tt
  interval_good (to.Operator operator) parts = tt
  interval_good to.Sample parts = tt
  interval_good to.Clock parts = tt
  interval_good to.LeftOut parts = tt
  interval_good to.Unknown parts = tt

  -- a factor and an interval
  first_good : (interval : Result (Option ℕ) TypeCode) (k : Outcome) → IsGoodInterval (Some interval) → IsGoodProduct (Some (first_interval interval k))
  first_good (Err code) k good = tt
  first_good (Ok u) (Name x) good = good
  first_good (Ok u) (Valued expr type) good = good
  first_good (Ok u) (Clocked clock) good = good
  first_good (Ok u) (Broken code) good = tt

  second_good : (k : Outcome) (interval : Result (Option ℕ) TypeCode) → IsGoodInterval (Some interval) → IsGoodProduct (Some (second_interval k interval))
  second_good (Broken code) interval good = tt
  second_good (Name x) (Err code) good = tt
  second_good (Name x) (Ok u) good = good
  second_good (Valued expr type) (Err code) good = tt
  second_good (Valued expr type) (Ok u) good = good
  second_good (Clocked clock) (Err code) good = tt
  second_good (Clocked clock) (Ok u) good = good

  pair_good : (a b : Reading) → IsGoodInterval a.interval → IsGoodInterval b.interval → IsGoodProduct (product_of_two names (a ∷ (b ∷ [])))
  pair_good a b = by a.interval b.interval refl refl
    where
      by : (o p : Option (Result (Option ℕ) TypeCode)) → a.interval ≡ o → b.interval ≡ p → IsGoodInterval o → IsGoodInterval p → IsGoodProduct (product_of_two names (a ∷ (b ∷ [])))
      by (Some interval) p one two good other = rw one (first_good interval b.found good)
      by None (Some interval) one two good other = rw (one, two) (second_good a.found interval other)
      by None None one two good other = rw (one, two) tt

  abbrev pub AreGoodIntervals : List Reading → Type 0
  AreGoodIntervals [] = Unit {0}
  AreGoodIntervals (part ∷ parts) = IsGoodInterval part.interval × AreGoodIntervals parts

  product_two_good : (parts : List Reading) → AreGoodIntervals parts → IsGoodProduct (product_of_two names parts)
  product_two_good [] good = tt
  product_two_good (a ∷ []) good = tt
  product_two_good (a ∷ (b ∷ [])) good = pair_good a b good.0 good.1.0
  product_two_good (a ∷ (b ∷ (c ∷ parts))) good = tt

  pub product_good : (parts : List Reading) (ops : List ChainOp) → AreGoodIntervals parts → IsGoodProduct (product_of names parts ops)
  product_good parts ops good = by (is_times ops)
    where
      by : (b : Bool) → IsGoodProduct (if b then product_of_two names parts else None)
      by true = product_two_good parts good
      by false = tt

  -- `integer` of a product with an interval, or of another argument
  form_good : (u : Option ℕ) (k : Outcome) → is_variable_if (types_in names) u ≡ true → IsGood names (with_counter u k)
  form_good u k is = by (counter 1 k) refl (counter_range 1 k)
    where
      by : (o : Option ℕ) → counter 1 k ≡ o → IsInRange 1 o → IsGood names (with_counter u k)
      by None at range = rw at tt
      by (Some n) at range = rw at (good-IntervalTimes names u n is range)

  pub integer_good : (found : Outcome) (o : Option (Result (Option ℕ × Outcome) TypeCode)) → IsGoodProduct o → IsGood names (integer_found found o)
  integer_good found None good = after_good names (found ∷ []) (Broken Y1) tt
  integer_good found (Some (Err code)) good = tt
  integer_good found (Some (Ok product)) good = form_good product.0 product.1 good
