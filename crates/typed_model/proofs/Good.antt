-- What is asked of an expression and of a clock in a model: its type, its counters, and no input held or converted.
use Rattle.std.proofs.Common.{◌≡◌, ◌∙◌, subst, ◌&&◌, Bool, true, List, ◌∷◌, map, Option, Some, ap₂}
use Rattle.flat_model.specs.declared.model.FlatName.{FlatName}
use Rattle.flat_model.specs.declared.model.NameKind.{NameKind}
use Rattle.flat_model.specs.declared.expression.Expr.{Expr}
use Rattle.flat_model.specs.declared.clock.ClockExpr.{ClockExpr}
use Rattle.flat_model.specs.declared.clock.ClockExpr.TheOpen.{ClockExpr-F, Expr-F}
use Rattle.flat_model.specs.declared.clock.ClockExpr.TheViews.{roll-Expr, roll-ClockExpr}
use Rattle.flat_model.specs.declared.clock.ClockExpr.TheFolds.{fold-roll-Expr, fold-roll-ClockExpr, map-Expr, map-ClockExpr}
use Rattle.flat_model.specs.Arguments.{arguments_in_clock_level, arguments_in_level, holds_no_input, clock_holds_no_input}
use Rattle.flat_model.specs.Counters.{all_fit, counters_in_clock_level, counters_in_level, counters_fit, clock_counters_fit}
use Rattle.flat_model.specs.Typing.{types_in}
use Rattle.flat_model.specs.WholeTyping.{clock_level, whole_level, whole_type_of, is_typed_clock}

-- an expression of a type
pub record IsGoodValue (names : List FlatName) (e : Expr) (t : NameKind) : Type 0 where
  pub type : whole_type_of (types_in names) e ≡ Some t
  pub counters : counters_fit e ≡ true
  pub inputs : holds_no_input names e ≡ true

pub record IsGoodClock (names : List FlatName) (c : ClockExpr) : Type 0 where
  pub typed : is_typed_clock (types_in names) c ≡ true
  pub counters : clock_counters_fit c ≡ true
  pub inputs : clock_holds_no_input names c ≡ true

-- the same of several expressions, whose types are given
pub record AreGoodValues (names : List FlatName) (es : List Expr) (ts : List (Option NameKind)) : Type 0 where
  pub types : map (whole_type_of (types_in names)) es ≡ ts
  pub counters : all_fit (map counters_fit es) ≡ true
  pub inputs : all_fit (map (holds_no_input names) es) ≡ true

module _ (names : List FlatName) where
  -- one level, with the types of its parts, and with what holds of their counters and of their arguments
  abbrev pub typed_parts : Expr-F ClockExpr Expr → Expr-F Bool (Option NameKind)
  typed_parts y = map-Expr ClockExpr Expr Bool (Option NameKind) (is_typed_clock (types_in names)) (whole_type_of (types_in names)) y

  abbrev pub typed_clock_parts : ClockExpr-F ClockExpr Expr → ClockExpr-F Bool (Option NameKind)
  typed_clock_parts y = map-ClockExpr ClockExpr Expr Bool (Option NameKind) (is_typed_clock (types_in names)) (whole_type_of (types_in names)) y

  abbrev pub counted_parts : Expr-F ClockExpr Expr → Expr-F Bool Bool
  counted_parts y = map-Expr ClockExpr Expr Bool Bool clock_counters_fit counters_fit y

  abbrev pub counted_clock_parts : ClockExpr-F ClockExpr Expr → ClockExpr-F Bool Bool
  counted_clock_parts y = map-ClockExpr ClockExpr Expr Bool Bool clock_counters_fit counters_fit y

  abbrev pub own_parts : Expr-F ClockExpr Expr → Expr-F Bool Bool
  own_parts y = map-Expr ClockExpr Expr Bool Bool (clock_holds_no_input names) (holds_no_input names) y

  abbrev pub own_clock_parts : ClockExpr-F ClockExpr Expr → ClockExpr-F Bool Bool
  own_clock_parts y = map-ClockExpr ClockExpr Expr Bool Bool (clock_holds_no_input names) (holds_no_input names) y

  whole_roll : (y : Expr-F ClockExpr Expr) → whole_type_of (types_in names) (roll-Expr y) ≡ whole_level (types_in names) (typed_parts y)
  unfolding whole_type_of is_typed_clock
  whole_roll y = fold-roll-Expr Bool (Option NameKind) (clock_level (types_in names)) (whole_level (types_in names)) y

  clock_roll : (y : ClockExpr-F ClockExpr Expr) → is_typed_clock (types_in names) (roll-ClockExpr y) ≡ clock_level (types_in names) (typed_clock_parts y)
  unfolding whole_type_of is_typed_clock
  clock_roll y = fold-roll-ClockExpr Bool (Option NameKind) (clock_level (types_in names)) (whole_level (types_in names)) y

  counters_roll : (y : Expr-F ClockExpr Expr) → counters_fit (roll-Expr y) ≡ counters_in_level (counted_parts y)
  unfolding counters_fit clock_counters_fit
  counters_roll y = fold-roll-Expr Bool Bool counters_in_clock_level counters_in_level y

  clock_counters_roll : (y : ClockExpr-F ClockExpr Expr) → clock_counters_fit (roll-ClockExpr y) ≡ counters_in_clock_level (counted_clock_parts y)
  unfolding counters_fit clock_counters_fit
  clock_counters_roll y = fold-roll-ClockExpr Bool Bool counters_in_clock_level counters_in_level y

  inputs_roll : (y : Expr-F ClockExpr Expr) → holds_no_input names (roll-Expr y) ≡ arguments_in_level names (own_parts y)
  unfolding holds_no_input clock_holds_no_input
  inputs_roll y = fold-roll-Expr Bool Bool (arguments_in_clock_level names) (arguments_in_level names) y

  clock_inputs_roll : (y : ClockExpr-F ClockExpr Expr) → clock_holds_no_input names (roll-ClockExpr y) ≡ arguments_in_clock_level names (own_clock_parts y)
  unfolding holds_no_input clock_holds_no_input
  clock_inputs_roll y = fold-roll-ClockExpr Bool Bool (arguments_in_clock_level names) (arguments_in_level names) y

  -- an expression that is good by its outermost level
  pub good_value : (y : Expr-F ClockExpr Expr) (e : Expr) (t : NameKind) → roll-Expr y ≡ e
      → whole_level (types_in names) (typed_parts y) ≡ Some t
      → counters_in_level (counted_parts y) ≡ true
      → arguments_in_level names (own_parts y) ≡ true
      → IsGoodValue names e t
  good_value y e t is type counters inputs = subst (λ it. IsGoodValue names it t) is (record {
    type = whole_roll y ∙ type;
    counters = counters_roll y ∙ counters;
    inputs = inputs_roll y ∙ inputs;
  })

  pub good_clock : (y : ClockExpr-F ClockExpr Expr) (c : ClockExpr) → roll-ClockExpr y ≡ c
      → clock_level (types_in names) (typed_clock_parts y) ≡ true
      → counters_in_clock_level (counted_clock_parts y) ≡ true
      → arguments_in_clock_level names (own_clock_parts y) ≡ true
      → IsGoodClock names c
  good_clock y c is typed counters inputs = subst (λ it. IsGoodClock names it) is (record {
    typed = clock_roll y ∙ typed;
    counters = clock_counters_roll y ∙ counters;
    inputs = clock_inputs_roll y ∙ inputs;
  })

  -- one expression more
  pub good_more : (e : Expr) (es : List Expr) (t : NameKind) (ts : List (Option NameKind)) → IsGoodValue names e t → AreGoodValues names es ts → AreGoodValues names (e ∷ es) (Some t ∷ ts)
  good_more e es t ts one rest = record {
    types = ap₂ (λ a b. a ∷ b) one.type rest.types;
    counters = ap₂ (λ a b. a && b) one.counters rest.counters;
    inputs = ap₂ (λ a b. a && b) one.inputs rest.inputs;
  }
