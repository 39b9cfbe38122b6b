-- Each kind of expression is good where its parts are and its type is one.
use Rattle.std.proofs.Common.{◌≡◌, refl, ◌∙◌, ap, ap₂, ℕ, ◌&&◌, not, true, List, Option, Some, None}
use Rattle.sync_values.specs.declared.value.Value.{Value}
use Rattle.sync_values.specs.declared.value.Rel.{Rel}
use Rattle.sync_values.specs.declared.value.ChainOp.{ChainOp}
use Rattle.flat_model.specs.declared.model.FlatName.{FlatName}
use Rattle.flat_model.specs.declared.model.NameKind.{NameKind}
use Rattle.flat_model.specs.declared.model.NameKind.TheVariants as kind
use Rattle.flat_model.specs.declared.expression.Expr.{Expr}
use Rattle.flat_model.specs.declared.expression.Expr.TheVariants as e
use Rattle.flat_model.specs.declared.expression.Fun.{Fun}
use Rattle.flat_model.specs.declared.clock.Conversion.{Conversion}
use Rattle.flat_model.specs.declared.clock.ClockExpr.{ClockExpr}
use Rattle.flat_model.specs.declared.clock.ClockExpr.TheOpen.{Expr-F}
use Rattle.flat_model.specs.Arguments.{is_input}
use Rattle.flat_model.specs.Counters.{is_counter, has_counters}
use Rattle.flat_model.specs.Typing.{types_in, valued_type, type_of_value, is_value, is_type, typed_if, chain_type, relation_type, if_type, call_type}
use Rattle.flat_model.specs.WholeTyping.{is_variable_if, sampled_type, whole_type_of}
use Rattle.typed_model.proofs.Good.{IsGoodValue, IsGoodClock, AreGoodValues, good_value}

module _ (names : List FlatName) where
  pub good-Const : (v : Value) → is_value v ≡ true → IsGoodValue names (e.Const v) (type_of_value v)
  good-Const v fits = good_value names (Expr-F.Const v) (e.Const v) (type_of_value v) (e.rolls-Const v) (ap (λ b. typed_if b (type_of_value v)) fits) refl refl

  pub good-Read : (x : ℕ) (t : NameKind) → valued_type (types_in names x) ≡ Some t → IsGoodValue names (e.Read x) t
  good-Read x t is = good_value names (Expr-F.Read x) (e.Read x) t (e.rolls-Read x) is refl refl

  pub good-Chain : (parts : List Expr) (ops : List ChainOp) (ts : List (Option NameKind)) (t : NameKind) → AreGoodValues names parts ts → chain_type ts ops ≡ Some t
      → IsGoodValue names (e.Chain parts ops) t
  good-Chain parts ops ts t good is =
      good_value names (Expr-F.Chain parts ops) (e.Chain parts ops) t (e.rolls-Chain parts ops) (ap (λ os. chain_type os ops) good.types ∙ is) good.counters good.inputs

  pub good-Relation : (rel : Rel) (left right : Expr) (a b t : NameKind) → IsGoodValue names left a → IsGoodValue names right b → relation_type (Some a) (Some b) ≡ Some t
      → IsGoodValue names (e.Relation rel left right) t
  good-Relation rel left right a b t one two is = good_value names (Expr-F.Relation rel left right) (e.Relation rel left right) t (e.rolls-Relation rel left right)
      (ap₂ (λ o p. relation_type o p) one.type two.type ∙ is) (ap₂ (λ o p. o && p) one.counters two.counters) (ap₂ (λ o p. o && p) one.inputs two.inputs)

  pub good-Neg : (part : Expr) (a t : NameKind) → IsGoodValue names part a → typed_if (is_type kind.Integer (Some a)) kind.Integer ≡ Some t → IsGoodValue names (e.Neg part) t
  good-Neg part a t good is =
      good_value names (Expr-F.Neg part) (e.Neg part) t (e.rolls-Neg part) (ap (λ o. typed_if (is_type kind.Integer o) kind.Integer) good.type ∙ is) good.counters good.inputs

  pub good-Not : (part : Expr) (a t : NameKind) → IsGoodValue names part a → typed_if (is_type kind.Boolean (Some a)) kind.Boolean ≡ Some t → IsGoodValue names (e.Not part) t
  good-Not part a t good is =
      good_value names (Expr-F.Not part) (e.Not part) t (e.rolls-Not part) (ap (λ o. typed_if (is_type kind.Boolean o) kind.Boolean) good.type ∙ is) good.counters good.inputs

  pub good-If : (conditions branches : List Expr) (other : Expr) (cs bs : List (Option NameKind)) (o t : NameKind) → AreGoodValues names conditions cs → AreGoodValues names branches bs
      → IsGoodValue names other o → if_type cs bs (Some o) ≡ Some t → IsGoodValue names (e.If conditions branches other) t
  good-If conditions branches other cs bs o t one two three is = good_value names (Expr-F.If conditions branches other) (e.If conditions branches other) t (e.rolls-If conditions branches other)
      (ap₂ (λ p q. if_type p q (whole_type_of (types_in names) other)) one.types two.types ∙ ap (λ p. if_type cs bs p) three.type ∙ is)
      (ap₂ (λ p q. p && q) (ap₂ (λ p q. p && q) one.counters two.counters) three.counters)
      (ap₂ (λ p q. p && q) (ap₂ (λ p q. p && q) one.inputs two.inputs) three.inputs)

  pub good-Apply : (function : Fun) (parts : List Expr) (ts : List (Option NameKind)) (t : NameKind) → AreGoodValues names parts ts → call_type function ts ≡ Some t
      → IsGoodValue names (e.Apply function parts) t
  good-Apply function parts ts t good is =
      good_value names (Expr-F.Apply function parts) (e.Apply function parts) t (e.rolls-Apply function parts) (ap (λ os. call_type function os) good.types ∙ is) good.counters good.inputs

  pub good-Previous : (x : ℕ) (t : NameKind) → valued_type (types_in names x) ≡ Some t → IsGoodValue names (e.Previous x) t
  good-Previous x t is = good_value names (Expr-F.Previous x) (e.Previous x) t (e.rolls-Previous x) is refl refl

  pub good-FirstTick : (x : Option ℕ) → is_variable_if (types_in names) x ≡ true → IsGoodValue names (e.FirstTick x) kind.Boolean
  good-FirstTick x is = good_value names (Expr-F.FirstTick x) (e.FirstTick x) kind.Boolean (e.rolls-FirstTick x) (ap (λ b. typed_if b kind.Boolean) is) refl refl

  pub good-IntervalTimes : (x : Option ℕ) (k : ℕ) → is_variable_if (types_in names) x ≡ true → is_counter 1 k ≡ true → IsGoodValue names (e.IntervalTimes x k) kind.Integer
  good-IntervalTimes x k is fits =
      good_value names (Expr-F.IntervalTimes x k) (e.IntervalTimes x k) kind.Integer (e.rolls-IntervalTimes x k) (ap (λ b. typed_if b kind.Integer) is) fits refl

  pub good-Hold : (x : ℕ) (t : NameKind) → valued_type (types_in names x) ≡ Some t → not (is_input names x) ≡ true → IsGoodValue names (e.Hold x) t
  good-Hold x t is own = good_value names (Expr-F.Hold x) (e.Hold x) t (e.rolls-Hold x) is refl own

  pub good-Convert : (conversion : Conversion) (x : ℕ) (t : NameKind) → has_counters conversion ≡ true → valued_type (types_in names x) ≡ Some t → not (is_input names x) ≡ true
      → IsGoodValue names (e.Convert conversion x) t
  good-Convert conversion x t fits is own = good_value names (Expr-F.«Expr::Convert» conversion x) (e.Convert conversion x) t (e.rolls-Convert conversion x) is fits own

  pub good-Sample : (part : Expr) (clock : Option ClockExpr) (t : NameKind) → IsGoodValue names part t → ((c : ClockExpr) → clock ≡ Some c → IsGoodClock names c)
      → IsGoodValue names (e.Sample part clock) t
  good-Sample part None t good clocks =
      good_value names (Expr-F.Sample part None) (e.Sample part None) t (e.rolls-Sample part None) good.type (ap (λ b. b && true) good.counters) (ap (λ b. b && true) good.inputs)
  good-Sample part (Some c) t good clocks =
      let clock = clocks c refl in
      good_value names (Expr-F.Sample part (Some c)) (e.Sample part (Some c)) t (e.rolls-Sample part (Some c))
      (ap (λ b. sampled_type (whole_type_of (types_in names) part) (Some b)) clock.typed ∙ good.type)
      (ap₂ (λ a b. a && b) good.counters clock.counters) (ap₂ (λ a b. a && b) good.inputs clock.inputs)
