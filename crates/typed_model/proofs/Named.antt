-- The operators that take names give good nodes.
use Rattle.std.proofs.Common.{◌≡◌, refl, ap, ℕ, ◌&&◌, not, Bool, true, false, List, Option, Some, None, is_some, Ok}
use Rattle.flat_model.specs.declared.model.FlatName.{FlatName}
use Rattle.flat_model.specs.declared.model.NameKind.{NameKind}
use Rattle.flat_model.specs.declared.model.NameKind.TheVariants as kind
use Rattle.flat_model.specs.declared.expression.Expr.TheVariants as e
use Rattle.flat_model.specs.declared.clock.Conversion.{Conversion}
use Rattle.flat_model.specs.declared.clock.Conversion.TheVariants as by
use Rattle.flat_model.specs.Arguments.{is_input}
use Rattle.flat_model.specs.Counters.{has_counters}
use Rattle.flat_model.specs.Typing.{types_in, valued_type}
use Rattle.flat_model.specs.WholeTyping.{is_clock}
use Rattle.flat_types.specs.declared.outcome.Outcome.{Outcome}
use Rattle.flat_types.specs.declared.outcome.Outcome.TheVariants.{Name, Valued, Clocked, Broken}
use Rattle.flat_types.specs.Outcomes.{component, of_variable, converted, converted_kind}
use Rattle.flat_types.specs.Readings.{variable, previous_found, hold_found, no_clock_found, first_tick_found}
use Rattle.typed_model.proofs.Values.{good-Previous, good-Hold, good-Convert, good-FirstTick}
use Rattle.typed_model.proofs.Clocks.{good-ClockConvert}
use Rattle.typed_model.proofs.NodeParts.{IsGood}
use Rattle.typed_model.proofs.Counted.{HasRange}

module _ (names : List FlatName) where
  -- what is made of a variable, which is no input where that is refused
  variable_good : (make : ℕ → NameKind → Outcome) (refuses : Bool)
      → ((x : ℕ) (t : NameKind) → valued_type (types_in names x) ≡ Some t → (refuses && is_input names x) ≡ false → IsGood names (make x t))
      → (u : Outcome) → IsGood names (of_variable make (variable names refuses u))
  variable_good make refuses step (Name x) = by (refuses && is_input names x) refl
    where
      by_kind : (o : Option NameKind) → types_in names x ≡ o → (refuses && is_input names x) ≡ false → IsGood names (of_variable make (variable names refuses (Name x)))
      by_kind None at own = rw (own, at) tt
      by_kind (Some kind.Integer) at own = rw (own, at) (step x kind.Integer (ap valued_type at) own)
      by_kind (Some kind.Boolean) at own = rw (own, at) (step x kind.Boolean (ap valued_type at) own)
      by_kind (Some kind.Clock) at own = rw (own, at) tt

      by : (b : Bool) → (refuses && is_input names x) ≡ b → IsGood names (of_variable make (variable names refuses (Name x)))
      by true is = rw is tt
      by false is = by_kind (types_in names x) refl is
  variable_good make refuses step (Valued expr type) = tt
  variable_good make refuses step (Clocked clock) = tt
  variable_good make refuses step (Broken code) = tt

  own : (x : ℕ) → (true && is_input names x) ≡ false → not (is_input names x) ≡ true
  own x is = ap not is

  pub previous_good : (u : Outcome) → IsGood names (previous_found names u)
  previous_good u = variable_good (λ x type. Valued (e.Previous x) type) false (λ x t is free. good-Previous names x t is) u

  pub hold_good : (u : Outcome) → IsGood names (hold_found names u)
  hold_good u = variable_good (λ x type. Valued (e.Hold x) type) true (λ x t is free. good-Hold names x t is (own x free)) u

  pub no_clock_good : (u : Outcome) → IsGood names (no_clock_found names u)
  no_clock_good u = variable_good (λ x type. Valued (e.Convert by.NoClock x) type) true (λ x t is free. good-Convert names by.NoClock x t refl is (own x free)) u

  pub first_tick_good : (u : Outcome) → IsGood names (first_tick_found names u)
  first_tick_good u = variable_good (λ x type. Valued (e.FirstTick (Some x)) kind.Boolean) false (λ x t is free. good-FirstTick names (Some x) (ap is_some is)) u

  -- a conversion of a component that is no input
  pub converted_good : (u : Outcome) (o : Option Conversion) → HasRange o → IsGood names (converted names (component names true u) o)
  converted_good (Name x) o range = by (is_input names x) refl
    where
      by_kind : (k : Option NameKind) → types_in names x ≡ k → (conversion : Conversion) → has_counters conversion ≡ true → is_input names x ≡ false
          → IsGood names (converted_kind conversion x k)
      by_kind None at conversion fits free = tt
      by_kind (Some kind.Integer) at conversion fits free = good-Convert names conversion x kind.Integer fits (ap valued_type at) (own x free)
      by_kind (Some kind.Boolean) at conversion fits free = good-Convert names conversion x kind.Boolean fits (ap valued_type at) (own x free)
      by_kind (Some kind.Clock) at conversion fits free = good-ClockConvert names conversion x fits (ap is_clock at) (own x free)

      by_conversion : (o : Option Conversion) → HasRange o → is_input names x ≡ false → IsGood names (converted names (Ok x) o)
      by_conversion None fits free = tt
      by_conversion (Some conversion) fits free = by_kind (types_in names x) refl conversion fits free

      by : (b : Bool) → is_input names x ≡ b → IsGood names (converted names (component names true (Name x)) o)
      by true is = rw is tt
      by false is = let plain = by_conversion o range is in rw is plain
  converted_good (Valued expr type) o range = tt
  converted_good (Clocked clock) o range = tt
  converted_good (Broken code) o range = tt
