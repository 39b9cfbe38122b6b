-- The values of parameters, and the constants of expressions, are values.
use Rattle.std.proofs.Common.{◌≡◌, ◌≢◌, ◌↔◌, refl, subst, sym, ap, ap₂, ◌∙◌, ℕ, zero, suc, ℤ, pos, Bool, true, false, ◌&&◌, List, [], ◌∷◌, map, find, cond, Option, Some, None, option_and_then, bytes_eq, if◌then◌else◌}
use Rattle.sync_values.specs.declared.value.Value.{Value}
use Rattle.sync_values.specs.declared.value.Value.TheVariants as value
use Rattle.mo_parser.specs.declared.tree.ClassDef.{ClassDef}
use Rattle.mo_parser.specs.declared.tree.Element.{Element}
use Rattle.mo_parser.specs.declared.tree.Path.{Path}
use Rattle.mo_parser.specs.declared.tree.TreeExpr.{TreeExpr}
use Rattle.mo_parser.specs.declared.tree.TreeNode.{TreeNode}
use Rattle.mo_parser.specs.declared.tree.TreeNode.TheOpen.{TreeNode-F}
use Rattle.mo_parser.specs.declared.tree.TreeNode.TheViews.{roll-TreeNode}
use Rattle.mo_parser.specs.declared.tree.TreeNode.TheFolds.{fold-TreeNode, fold-roll-TreeNode, fold_out-TreeExpr, map-TreeNode}
use Rattle.flat_model.specs.Counters.{all_fit}
use Rattle.flat_model.specs.Operators.{Answer, Is, Fails, Absent, read}
use Rattle.flat_model.specs.RawModels.{constants_fit}
use Rattle.flat_model.specs.declared.model.NameKind.{NameKind}
use Rattle.flat_model.specs.declared.model.NameKind.TheVariants as kind
use Rattle.flat_model.specs.declared.raw.RawExpr.{RawExpr}
use Rattle.flat_model.specs.declared.raw.RawExpr.TheVariants as raw
use Rattle.flat_limits.proofs.Fitting.{fits-Const, fits-Name, fits-Call, fits-Chain, fits-Relation, fits-Neg, fits-Not, fits-Power, fits-If, fits-Time}
use Rattle.class_scopes.specs.Spelled.{Ident, idents, is_time, dotted}
use Rattle.class_scopes.specs.Types.{kind_of}
use Rattle.class_scopes.specs.declared.type_name.TypeName.{TypeName}
use Rattle.flat_instances.specs.Instances.{Placed, Variable}
use Rattle.parameter_values.specs.Values.{Values, flat_name, read_name, answer_level, answer, function_named, of_kind, zero_of, value_by, value_expr, value_from, is_parameter, parameter_named, derived, AreValues}
use Rattle.flat_expressions.specs.Expressions.{NumberOf, numbered, valued, name_by, name_lowered, expr_level, expr_of}
use Rattle.flat_limits.proofs.Spelled.{Every, Maybe}
use Rattle.flat_limits.proofs.Tokens.{IsValue}
use Rattle.flat_limits.proofs.Nodes.{Parts, Rises}
use Rattle.flat_limits.proofs.Placings.{PlacedIs, VariableIs}
use Rattle.flat_limits.proofs.Operations.{Fits, read_fits, chain_fits, negated_fits, inverted_fits, relation_fits, chosen_fits, call_fits}

abbrev pub Fit : RawExpr → Type 0
Fit e = constants_fit e ≡ true

-- names have values of 64 bits
abbrev pub AreFit : Values → Type 0
AreFit values = (name : Ident) (v : Value) → values name ≡ Some v → IsValue v

module _ (text : List ℕ) (classes : List ClassDef) where
  -- on such values, an expression gives such a value, and what it stands for has such constants
  pub record IsWorth (e : TreeExpr) : Type 0 where
    pub given : (values : Values) (scope : Ident) → AreFit values → Fits (answer text classes values scope e)
    pub told : (values : Values) (number : NumberOf) (scope : Ident) → AreFit values → Fit (expr_of text values number scope e)

  module _ (values : Values) (are : AreFit values) where
    module _ (number : NumberOf) where
      numbered_fits : (o : Option ℕ) → Fit (numbered o)
      numbered_fits (Some x) = fits-Name x
      numbered_fits None = fits-Time

      valued_fits : (name : Ident) (o : Option Value) → values name ≡ o → Fit (valued o (number name))
      valued_fits name (Some v) is = fits-Const v ∙ are name v is
      valued_fits name None is = numbered_fits (number name)

      pub name_fits : (name : Ident) → Fit (name_by text values number name)
      name_fits name = valued_fits name (values name) refl

    module _ (number : NumberOf) (scope : Ident) where
      told_by : (parts : List Ident) (b : Bool) → Fit (if b then raw.Time else name_by text values number (flat_name text classes scope parts))
      told_by parts true = fits-Time
      told_by parts false = name_fits number (flat_name text classes scope parts)

      abbrev whole : TreeExpr → RawExpr
      whole = expr_of text values number scope

      abbrev node_whole : TreeNode → RawExpr
      node_whole = fold-TreeNode RawExpr RawExpr (expr_level text values number scope) (λ expr. expr.node)

      all_told : (es : List TreeExpr) → Every IsWorth es → all_fit (map constants_fit (map whole es)) ≡ true
      all_told [] all = refl
      all_told (e ∷ es) all = ap₂ (λ a b. a && b) (all.0.told values number scope are) (all_told es all.1)

      level_told : (y : TreeNode-F TreeNode TreeExpr) → Parts IsValue IsWorth y → Fit (expr_level text values number scope (map-TreeNode TreeNode TreeExpr RawExpr RawExpr node_whole whole y))
      level_told (TreeNode-F.Const v) is = fits-Const v ∙ is
      level_told (TreeNode-F.Name path) is = told_by (idents text path) (is_time (idents text path))
      level_told (TreeNode-F.Call path arguments) is = fits-Call (dotted (idents text path)) (map whole arguments) ∙ all_told arguments is
      level_told (TreeNode-F.Chain parts ops) is = fits-Chain (map whole parts) ops ∙ all_told parts is
      level_told (TreeNode-F.Relation rel l r) is =
          fits-Relation rel (whole l) (whole r) ∙ ap₂ (λ a b. a && b) (is.0.told values number scope are) (is.1.told values number scope are)
      level_told (TreeNode-F.Neg part) is = fits-Neg (whole part) ∙ is.told values number scope are
      level_told (TreeNode-F.Not part) is = fits-Not (whole part) ∙ is.told values number scope are
      level_told (TreeNode-F.Power l r) is =
          fits-Power (whole l) (whole r) ∙ ap₂ (λ a b. a && b) (is.0.told values number scope are) (is.1.told values number scope are)
      level_told (TreeNode-F.If cs bs other) is =
          fits-If (map whole cs) (map whole bs) (whole other)
          ∙ ap₂ (λ a b. a && b) (ap₂ (λ a b. a && b) (all_told cs is.0) (all_told bs is.1)) (is.2.told values number scope are)

      whole_out : (e : TreeExpr) → whole e ≡ node_whole e.node
      unfolding expr_of
      whole_out e = fold_out-TreeExpr RawExpr RawExpr (expr_level text values number scope) (λ expr. expr.node) e

      told_of : (e : TreeExpr) (y : TreeNode-F TreeNode TreeExpr) → e.node ≡ roll-TreeNode y
          → whole e ≡ expr_level text values number scope (map-TreeNode TreeNode TreeExpr RawExpr RawExpr node_whole whole y)
      unfolding expr_of
      told_of e y is = whole_out e ∙ ap node_whole is ∙ fold-roll-TreeNode RawExpr RawExpr (expr_level text values number scope) (λ expr. expr.node) y

      pub told_rises : (e : TreeExpr) (y : TreeNode-F TreeNode TreeExpr) → e.node ≡ roll-TreeNode y → Parts IsValue IsWorth y → Fit (whole e)
      told_rises e y is parts = ap constants_fit (told_of e y is) ∙ level_told y parts

      pub told_same : (e f : TreeExpr) → e.node ≡ f.node → Fit (whole e) → Fit (whole f)
      told_same e f is fit = ap constants_fit (whole_out f ∙ ap node_whole (sym is) ∙ sym (whole_out e)) ∙ fit

    module _ (scope : Ident) where
      abbrev worth : TreeExpr → Answer
      worth = answer text classes values scope

      abbrev node_worth : TreeNode → Answer
      node_worth = fold-TreeNode Answer Answer (answer_level text classes values scope) (λ expr. expr.node)

      all_given : (es : List TreeExpr) → Every IsWorth es → Every Fits (map worth es)
      all_given [] all = tt
      all_given (e ∷ es) all = (all.0.given values scope are, all_given es all.1)

      found_fits : (name : Ident) (o : Option Value) → values name ≡ o → Maybe IsValue o
      found_fits name (Some v) is = are name v is
      found_fits name None is = tt

      read_by : (parts : List Ident) (b : Bool) → Fits (if b then Absent else read (values (flat_name text classes scope parts)))
      read_by parts true = tt
      read_by parts false = read_fits (values (flat_name text classes scope parts)) (found_fits (flat_name text classes scope parts) (values (flat_name text classes scope parts)) refl)

      level_given : (y : TreeNode-F TreeNode TreeExpr) → Parts IsValue IsWorth y → Fits (answer_level text classes values scope (map-TreeNode TreeNode TreeExpr Answer Answer node_worth worth y))
      level_given (TreeNode-F.Const v) is = is
      level_given (TreeNode-F.Name path) is = read_by (idents text path) (is_time (idents text path))
      level_given (TreeNode-F.Call path arguments) is = call_fits (function_named (dotted (idents text path))) (map worth arguments) (all_given arguments is)
      level_given (TreeNode-F.Chain parts ops) is = chain_fits ops (map worth parts) (all_given parts is)
      level_given (TreeNode-F.Relation rel l r) is = relation_fits rel (worth l) (worth r)
      level_given (TreeNode-F.Neg part) is = negated_fits (worth part)
      level_given (TreeNode-F.Not part) is = inverted_fits (worth part)
      level_given (TreeNode-F.Power l r) is = tt
      level_given (TreeNode-F.If cs bs other) is = chosen_fits (map worth cs) (map worth bs) (worth other) (all_given bs is.1) (is.2.given values scope are)

      worth_out : (e : TreeExpr) → worth e ≡ node_worth e.node
      unfolding answer
      worth_out e = fold_out-TreeExpr Answer Answer (answer_level text classes values scope) (λ expr. expr.node) e

      given_of : (e : TreeExpr) (y : TreeNode-F TreeNode TreeExpr) → e.node ≡ roll-TreeNode y
          → worth e ≡ answer_level text classes values scope (map-TreeNode TreeNode TreeExpr Answer Answer node_worth worth y)
      unfolding answer
      given_of e y is = worth_out e ∙ ap node_worth is ∙ fold-roll-TreeNode Answer Answer (answer_level text classes values scope) (λ expr. expr.node) y

      pub given_rises : (e : TreeExpr) (y : TreeNode-F TreeNode TreeExpr) → e.node ≡ roll-TreeNode y → Parts IsValue IsWorth y → Fits (worth e)
      given_rises e y is parts = subst Fits (sym (given_of e y is)) (level_given y parts)

      pub given_same : (e f : TreeExpr) → e.node ≡ f.node → Fits (worth e) → Fits (worth f)
      given_same e f is fit = subst Fits (worth_out e ∙ ap node_worth is ∙ sym (worth_out f)) fit

  pub worth_rises : Rises IsValue IsWorth
  worth_rises = record {
    rises = λ e y is parts. record {
      given = λ values scope are. given_rises values are scope e y is parts;
      told = λ values number scope are. told_rises values are number scope e y is parts;
    };
    same = λ e f is worth. record {
      given = λ values scope are. given_same values are scope e f is (worth.given values scope are);
      told = λ values number scope are. told_same values are number scope e f is (worth.told values number scope are);
    };
  }

  of_kind_fits : (type : Option NameKind) (a : Answer) (v : Value) → Fits a → of_kind type a ≡ Some v → IsValue v
  of_kind_fits (Some kind.Integer) (Is (value.Int z)) v is same =
      let one : value.Int z ≡ v = cc same in
      subst IsValue one is
  of_kind_fits (Some kind.Boolean) (Is (value.Bool b)) v is same =
      let one : value.Bool b ≡ v = cc same in
      subst IsValue one is
  of_kind_fits _ _ v is same = absurd (cc same)

  zero_fits : (type : Option NameKind) (v : Value) → zero_of type ≡ Some v → IsValue v
  zero_fits (Some kind.Integer) v same =
      let one : value.Int (pos 0) ≡ v = cc same in
      subst IsValue one refl
  zero_fits (Some kind.Boolean) v same =
      let one : value.Bool false ≡ v = cc same in
      subst IsValue one refl
  zero_fits _ v same = absurd (cc same)

  pub value_by_fits : (values : Values) → AreFit values → (type : Option NameKind) (o : Option Placed) (v : Value) → Maybe (PlacedIs text IsWorth) o
      → value_by text classes values type o ≡ Some v → IsValue v
  value_by_fits values are type (Some there) v is same = of_kind_fits type (answer text classes values there.scope there.expr) v (is.given values there.scope are) same
  value_by_fits values are type None v is same = zero_fits type v same

  expr_is : (name : Ident) (element : Element) (type : TypeName) (binding start : Option Placed) → Maybe (PlacedIs text IsWorth) binding → Maybe (PlacedIs text IsWorth) start
      → Maybe (PlacedIs text IsWorth) (value_expr text classes (record { name = name; element = element; type = type; binding = binding; start = start }))
  expr_is name element type (Some there) start is also = is
  expr_is name element type None start is also = also

  value_from_fits : (values : Values) → AreFit values → (p : Variable) (v : Value) → VariableIs text IsWorth p → value_from text classes values p ≡ Some v → IsValue v
  value_from_fits values are p v is same =
      value_by_fits values are (kind_of text classes p.type) (value_expr text classes p) v (expr_is p.name p.element p.type p.binding p.start is.binding is.start) same

  find_is : (test : Variable → Bool) (all : List Variable) → Every (VariableIs text IsWorth) all → Maybe (VariableIs text IsWorth) (find test all)
  find_is test [] are = tt
  find_is test (x ∷ xs) are = by (test x) (find_is test xs are.1)
    where
      by : (b : Bool) → Maybe (VariableIs text IsWorth) (find test xs) → Maybe (VariableIs text IsWorth) (cond b (Some x) (find test xs))
      by true rest = are.0
      by false rest = rest

  module _ (all : List Variable) (are : Every (VariableIs text IsWorth) all) where
    then_fits : (values : Values) → AreFit values → (o : Option Variable) (v : Value) → Maybe (VariableIs text IsWorth) o
        → option_and_then (value_from text classes values) o ≡ Some v → IsValue v
    then_fits values fit None v is same = absurd (cc same)
    then_fits values fit (Some p) v is same = value_from_fits values fit p v is same

    derived_fits : (n : ℕ) → AreFit (derived text classes all n)
    derived_fits zero name v same = absurd (cc same)
    derived_fits (suc n) name v same =
        then_fits (derived text classes all n) (derived_fits n) (parameter_named text classes all name) v
        (find_is (λ p. is_parameter p && bytes_eq name p.name) all are) same

    pub values_fit : (values : Values) → AreValues text classes all values → AreFit values
    values_fit values given name v same = let d = (given name v).0 same in derived_fits d.0 name v d.1
