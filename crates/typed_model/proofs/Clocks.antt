-- Each kind of clock is good where its parts are.
use Rattle.std.proofs.Common.{◌≡◌, refl, ap, ap₂, ℕ, ◌&&◌, not, true, List}
use Rattle.flat_model.specs.declared.model.FlatName.{FlatName}
use Rattle.flat_model.specs.declared.model.NameKind.TheVariants as kind
use Rattle.flat_model.specs.declared.expression.Expr.{Expr}
use Rattle.flat_model.specs.declared.clock.Conversion.{Conversion}
use Rattle.flat_model.specs.declared.clock.ClockExpr.TheVariants as c
use Rattle.flat_model.specs.declared.clock.ClockExpr.TheOpen.{ClockExpr-F}
use Rattle.flat_model.specs.Arguments.{is_input}
use Rattle.flat_model.specs.Counters.{is_counter, has_counters}
use Rattle.flat_model.specs.Typing.{types_in, is_type}
use Rattle.flat_model.specs.WholeTyping.{is_clock}
use Rattle.typed_model.proofs.Good.{IsGoodValue, IsGoodClock, good_clock}

module _ (names : List FlatName) where
  pub good-Name : (x : ℕ) → is_clock (types_in names x) ≡ true → IsGoodClock names (c.Name x)
  good-Name x is = good_clock names (ClockExpr-F.Name x) (c.Name x) (c.rolls-Name x) is refl refl

  pub good-Inferred : IsGoodClock names c.Inferred
  good-Inferred = good_clock names ClockExpr-F.Inferred c.Inferred c.rolls-Inferred refl refl refl

  pub good-Rational : (n r : ℕ) → is_counter 1 n ≡ true → is_counter 1 r ≡ true → IsGoodClock names (c.Rational n r)
  good-Rational n r one two = good_clock names (ClockExpr-F.Rational n r) (c.Rational n r) (c.rolls-Rational n r) refl (ap₂ (λ a b. a && b) one two) refl

  pub good-Event : (condition : Expr) → IsGoodValue names condition kind.Boolean → IsGoodClock names (c.Event condition)
  good-Event condition good =
      good_clock names (ClockExpr-F.Event condition) (c.Event condition) (c.rolls-Event condition) (ap (λ o. is_type kind.Boolean o) good.type) good.counters good.inputs

  pub good-ClockConvert : (conversion : Conversion) (x : ℕ) → has_counters conversion ≡ true → is_clock (types_in names x) ≡ true → not (is_input names x) ≡ true
      → IsGoodClock names (c.Convert conversion x)
  good-ClockConvert conversion x fits is own =
      good_clock names (ClockExpr-F.«ClockExpr::Convert» conversion x) (c.Convert conversion x) (c.rolls-Convert conversion x) is fits own
