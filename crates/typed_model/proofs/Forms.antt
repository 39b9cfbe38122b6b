-- The operators of expressions and the arithmetic functions give good nodes of good parts.
use Rattle.std.proofs.Common.{◌≡◌, refl, ap, ◌∙◌, ◌==◌, ◌&&◌, Bool, true, false, if◌then◌else◌, List, length, Option, Some, None, option_map}
use Rattle.std.specs.List.{list_all, list_any}
use Rattle.std.proofs.lemmas.List.{length-map}
use Rattle.sync_values.specs.declared.value.Rel.{Rel}
use Rattle.sync_values.specs.declared.value.ChainOp.{ChainOp}
use Rattle.flat_model.specs.declared.model.FlatName.{FlatName}
use Rattle.flat_model.specs.declared.model.NameKind.{NameKind}
use Rattle.flat_model.specs.declared.model.NameKind.TheVariants as kind
use Rattle.flat_model.specs.declared.expression.Expr.{Expr}
use Rattle.flat_model.specs.declared.expression.Expr.TheVariants as e
use Rattle.flat_model.specs.declared.expression.Fun.{Fun}
use Rattle.flat_model.specs.Typing.{is_type, typed_if, arity, chain_type, relation_type, if_type}
use Rattle.flat_types.specs.declared.ends.TypeCode.TheVariants.{Y3, Y5}
use Rattle.flat_types.specs.declared.outcome.Outcome.{Outcome}
use Rattle.flat_types.specs.declared.outcome.Outcome.TheVariants.{Broken}
use Rattle.flat_types.specs.Outcomes.{as_value, as_values, type_of_part, made}
use Rattle.flat_types.specs.Readings.{both_of, all_three, is_quotient, types_of, chain_found, relation_found, single_found, if_found, arithmetic}
use Rattle.typed_model.proofs.Good.{IsGoodValue}
use Rattle.typed_model.proofs.Values.{good-Chain, good-Relation, good-Neg, good-Not, good-If, good-Apply}
use Rattle.typed_model.proofs.NodeParts.{Each, IsGood, IsGoodTyped, AreGoodTyped, value_good, values_good, made_none, made_good}

module _ (names : List FlatName) where
  pub chain_good : (parts : List Outcome) (ops : List ChainOp) → Each (IsGood names) parts → IsGood names (chain_found names parts ops)
  chain_good parts ops good = by (list_any is_quotient ops)
    where
      by_values : (ts : List (Option NameKind)) (p : Option (List Expr)) → AreGoodTyped names ts p → IsGood names (made (chain_type ts ops) (option_map (λ exprs. e.Chain exprs ops) p))
      by_values ts None all = made_none names (chain_type ts ops)
      by_values ts (Some exprs) all = made_good names (chain_type ts ops) (e.Chain exprs ops) (λ t is. good-Chain names exprs ops ts t all is)

      by : (b : Bool) → IsGood names (if b then Broken Y5 else made (chain_type (types_of names parts) ops) (option_map (λ exprs. e.Chain exprs ops) (as_values names parts)))
      by true = tt
      by false = by_values (types_of names parts) (as_values names parts) (values_good names parts good)

  pub relation_good : (rel : Rel) (left right : Outcome) → IsGood names left → IsGood names right → IsGood names (relation_found names rel left right)
  relation_good rel left right one two = by (as_value names left) (as_value names right) (value_good names left one) (value_good names right two)
    where
      by : (o p : Option (Expr × NameKind)) → IsGoodTyped names o → IsGoodTyped names p
          → IsGood names (made (relation_type (option_map (λ typed. typed.1) o) (option_map (λ typed. typed.1) p)) (both_of (λ a b. e.Relation rel a b) o p))
      by None p a b = tt
      by (Some x) None a b = made_none names (relation_type (Some x.1) None)
      by (Some x) (Some y) a b = made_good names (relation_type (Some x.1) (Some y.1)) (e.Relation rel x.0 y.0) (λ t is. good-Relation names rel x.0 y.0 x.1 y.1 t a b is)

  -- an expression of one part
  single_good : (make : Expr → Expr) (type : NameKind)
      → ((expr : Expr) (a t : NameKind) → IsGoodValue names expr a → typed_if (is_type type (Some a)) type ≡ Some t → IsGoodValue names (make expr) t)
      → (part : Outcome) → IsGood names part → IsGood names (single_found names make type part)
  single_good make type step part good = by (as_value names part) (value_good names part good)
    where
      by : (o : Option (Expr × NameKind)) → IsGoodTyped names o
          → IsGood names (made (typed_if (is_type type (option_map (λ typed. typed.1) o)) type) (option_map (λ typed. make typed.0) o))
      by None a = made_none names (typed_if (is_type type None) type)
      by (Some x) a = made_good names (typed_if (is_type type (Some x.1)) type) (make x.0) (λ t is. step x.0 x.1 t a is)

  pub neg_good : (part : Outcome) → IsGood names part → IsGood names (single_found names (λ it. e.Neg it) kind.Integer part)
  neg_good part good = single_good (λ it. e.Neg it) kind.Integer (λ expr a t one is. good-Neg names expr a t one is) part good

  pub not_good : (part : Outcome) → IsGood names part → IsGood names (single_found names (λ it. e.Not it) kind.Boolean part)
  not_good part good = single_good (λ it. e.Not it) kind.Boolean (λ expr a t one is. good-Not names expr a t one is) part good

  pub if_good : (conditions branches : List Outcome) (other : Outcome) → Each (IsGood names) conditions → Each (IsGood names) branches → IsGood names other
      → IsGood names (if_found names conditions branches other)
  if_good conditions branches other one two three =
      by (types_of names conditions) (types_of names branches) (as_values names conditions) (as_values names branches) (as_value names other)
      (values_good names conditions one) (values_good names branches two) (value_good names other three)
    where
      by : (cs bs : List (Option NameKind)) (p q : Option (List Expr)) (o : Option (Expr × NameKind)) → AreGoodTyped names cs p → AreGoodTyped names bs q → IsGoodTyped names o
          → IsGood names (made (if_type cs bs (option_map (λ typed. typed.1) o)) (all_three p q o))
      by cs bs None q o a b c = made_none names (if_type cs bs (option_map (λ typed. typed.1) o))
      by cs bs (Some x) None o a b c = made_none names (if_type cs bs (option_map (λ typed. typed.1) o))
      by cs bs (Some x) (Some y) None a b c = tt
      by cs bs (Some x) (Some y) (Some z) a b c = made_good names (if_type cs bs (Some z.1)) (e.If x y z.0) (λ t is. good-If names x y z.0 cs bs z.1 t a b c is)

  pub arithmetic_good : (function : Fun) (parts : List Outcome) → Each (IsGood names) parts → IsGood names (arithmetic names function parts)
  arithmetic_good function parts good = by (length parts == arity function) refl
    where
      long : (b : Bool) → (length parts == arity function) ≡ b → (length (types_of names parts) == arity function) ≡ b
      long b is = ap (λ n. n == arity function) (length-map parts (type_of_part names)) ∙ is

      by_values : (ts : List (Option NameKind)) (p : Option (List Expr)) → (length ts == arity function) ≡ true → AreGoodTyped names ts p
          → IsGood names (made (typed_if (list_all (is_type kind.Integer) ts) kind.Integer) (option_map (λ exprs. e.Apply function exprs) p))
      by_values ts None size all = made_none names (typed_if (list_all (is_type kind.Integer) ts) kind.Integer)
      by_values ts (Some exprs) size all = made_good names (typed_if (list_all (is_type kind.Integer) ts) kind.Integer) (e.Apply function exprs)
          (λ t is. good-Apply names function exprs ts t all (ap (λ b. typed_if (b && list_all (is_type kind.Integer) ts) kind.Integer) size ∙ is))

      by : (b : Bool) → (length parts == arity function) ≡ b
          → IsGood names (if b then made (typed_if (list_all (is_type kind.Integer) (types_of names parts)) kind.Integer)
          (option_map (λ exprs. e.Apply function exprs) (as_values names parts)) else Broken Y3)
      by true is = by_values (types_of names parts) (as_values names parts) (long true is) (values_good names parts good)
      by false is = tt
