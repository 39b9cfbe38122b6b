-- More values of names give an expression no other value.
use Rattle.std.proofs.Common.{◌≡◌, refl, ap, ◌∙◌, subst, ℕ, Bool, true, false, List, [], ◌∷◌, map, Option, Some, None, if◌then◌else◌}
use Rattle.sync_values.specs.declared.value.Value.{Value}
use Rattle.mo_parser.specs.declared.tree.ClassDef.{ClassDef}
use Rattle.mo_parser.specs.declared.tree.TreeExpr.{TreeExpr}
use Rattle.mo_parser.specs.declared.tree.TreeNode.{TreeNode}
use Rattle.mo_parser.specs.declared.tree.TreeNode.TheOpen.{TreeNode-F, TreeExpr-F}
use Rattle.mo_parser.specs.declared.tree.TreeNode.TheViews.{roll-TreeNode, roll-TreeExpr}
use Rattle.mo_parser.specs.declared.tree.TreeNode.TheFolds.{fold-TreeNode, fold-TreeExpr, fold-roll-TreeNode, fold-roll-TreeExpr, map-TreeNode, map-TreeExpr, ind-TreeExpr}
use Rattle.flat_model.specs.declared.expression.Fun.{Fun}
use Rattle.flat_model.specs.Operators.{Answer, Is, Fails, Absent, read, negated, inverted}
use Rattle.class_scopes.specs.Spelled.{Ident, idents, is_time, dotted}
use Rattle.flat_model.specs.declared.model.NameKind.{NameKind}
use Rattle.flat_model.specs.declared.model.NameKind.TheVariants as kind
use Rattle.class_scopes.specs.Types.{kind_of}
use Rattle.flat_instances.specs.Instances.{Placed, Variable}
use Rattle.parameter_values.specs.Values.{Values, flat_name, read_name, answer_level, answer, called_by, function_named, of_kind, value_by, value_expr, value_from, AreValues}
use Rattle.parameter_values.proofs.Derivations.{Below, IsSound, IsClosed, are_values}
use Rattle.parameter_values.proofs.Larger.{Refines, RefineAll, strict, relation_grows, chain_grows, chosen_grows, called_grows}

module _ (text : List ℕ) (classes : List ClassDef) (a b : Values) (below : Below a b) (scope : Ident) where
  abbrev node_answer : Values → TreeNode → Answer
  node_answer values = fold-TreeNode Answer Answer (answer_level text classes values scope) (λ expr. expr.node)

  abbrev expr_answer : Values → TreeExpr → Answer
  expr_answer values = fold-TreeExpr Answer Answer (answer_level text classes values scope) (λ expr. expr.node)

  abbrev NodeGrows : TreeNode → Type 0
  NodeGrows node = Refines (node_answer a node) (node_answer b node)

  abbrev ExprGrows : TreeExpr → Type 0
  ExprGrows expr = Refines (expr_answer a expr) (expr_answer b expr)

  read_grows : (name : Ident) → Refines (read (a name)) (read (b name))
  read_grows name = by (a name) refl
    where
      by : (r : Option Value) → a name ≡ r → Refines (read r) (read (b name))
      by None is = tt
      by (Some v) is = ap read (below name v is)

  name_grows : (parts : List Ident) → Refines (read_name text classes a scope parts) (read_name text classes b scope parts)
  name_grows parts = by (is_time parts)
    where
      by : (t : Bool) → Refines (if t then Absent else read (a (flat_name text classes scope parts))) (if t then Absent else read (b (flat_name text classes scope parts)))
      by true = tt
      by false = read_grows (flat_name text classes scope parts)

  call_grows : (function : Option Fun) (xs ys : List Answer) → RefineAll xs ys → Refines (called_by function xs) (called_by function ys)
  call_grows None xs ys all = tt
  call_grows (Some function) xs ys all = called_grows function xs ys all

  module _ {A B : Type 0} (f : A → TreeNode) (g : B → TreeExpr) (all_f : (x : A) → NodeGrows (f x)) (all_g : (y : B) → ExprGrows (g y)) where
    parts_grow : (ps : List B) → RefineAll (map (expr_answer a) (map g ps)) (map (expr_answer b) (map g ps))
    parts_grow [] = tt
    parts_grow (p ∷ ps) = (all_g p, parts_grow ps)

    abbrev seen : Values → TreeNode-F A B → TreeNode-F Answer Answer
    seen values y = map-TreeNode TreeNode TreeExpr Answer Answer (node_answer values) (expr_answer values) (map-TreeNode A B TreeNode TreeExpr f g y)

    level_grows : (y : TreeNode-F A B) → Refines (answer_level text classes a scope (seen a y)) (answer_level text classes b scope (seen b y))
    level_grows (TreeNode-F.Const v) = refl
    level_grows (TreeNode-F.Name path) = name_grows (idents text path)
    level_grows (TreeNode-F.Call path ps) = call_grows (function_named (dotted (idents text path))) _ _ (parts_grow ps)
    level_grows (TreeNode-F.Chain ps ops) = chain_grows ops _ _ (parts_grow ps)
    level_grows (TreeNode-F.Relation rel l r) = relation_grows rel _ _ _ _ (all_g l) (all_g r)
    level_grows (TreeNode-F.Neg p) = strict negated refl _ _ (all_g p)
    level_grows (TreeNode-F.Not p) = strict inverted refl _ _ (all_g p)
    level_grows (TreeNode-F.Power p q) = tt
    level_grows (TreeNode-F.If cs bs o) = chosen_grows _ _ _ _ _ _ (parts_grow cs) (parts_grow bs) (all_g o)

    node_grows : (y : TreeNode-F A B) → NodeGrows (roll-TreeNode (map-TreeNode A B TreeNode TreeExpr f g y))
    node_grows y =
        let z = map-TreeNode A B TreeNode TreeExpr f g y in
        let one = fold-roll-TreeNode Answer Answer (answer_level text classes a scope) (λ expr. expr.node) z in
        let two = fold-roll-TreeNode Answer Answer (answer_level text classes b scope) (λ expr. expr.node) z in
        rw (one, two) (level_grows y)

    whole_grows : (y : TreeExpr-F A B) → ExprGrows (roll-TreeExpr (map-TreeExpr A B TreeNode TreeExpr f g y))
    whole_grows y =
        let z = map-TreeExpr A B TreeNode TreeExpr f g y in
        let one = fold-roll-TreeExpr Answer Answer (answer_level text classes a scope) (λ expr. expr.node) z in
        let two = fold-roll-TreeExpr Answer Answer (answer_level text classes b scope) (λ expr. expr.node) z in
        rw (one, two) (all_f y.node)

  expr_grows : (expr : TreeExpr) → ExprGrows expr
  expr_grows = ind-TreeExpr NodeGrows ExprGrows
      (λ x y is. subst (λ z. NodeGrows (roll-TreeNode z)) is (node_grows (λ e. e.0) (λ e. e.0) (λ e. e.1) (λ e. e.1) y))
      (λ x y is. subst (λ z. ExprGrows (roll-TreeExpr z)) is (whole_grows (λ e. e.0) (λ e. e.0) (λ e. e.1) (λ e. e.1) y))

  -- more values of names give an expression no other value
  pub answer_grows : (expr : TreeExpr) → Refines (answer text classes a scope expr) (answer text classes b scope expr)
  unfolding answer
  answer_grows expr = expr_grows expr

kind_grows : (type : Option NameKind) (x y : Answer) (w : Value) → Refines x y → of_kind type x ≡ Some w → of_kind type y ≡ Some w
kind_grows type (Is v) y w r is = ap (of_kind type) r ∙ is
kind_grows None Absent y w r is = absurd (cc is)
kind_grows (Some kind.Integer) Absent y w r is = absurd (cc is)
kind_grows (Some kind.Boolean) Absent y w r is = absurd (cc is)
kind_grows (Some kind.Clock) Absent y w r is = absurd (cc is)
kind_grows None (Fails f) y w r is = absurd (cc is)
kind_grows (Some kind.Integer) (Fails f) y w r is = absurd (cc is)
kind_grows (Some kind.Boolean) (Fails f) y w r is = absurd (cc is)
kind_grows (Some kind.Clock) (Fails f) y w r is = absurd (cc is)

module _ (text : List ℕ) (classes : List ClassDef) (a b : Values) (below : Below a b) where
  by_grows : (type : Option NameKind) (placed : Option Placed) (w : Value) → value_by text classes a type placed ≡ Some w → value_by text classes b type placed ≡ Some w
  by_grows type None w is = is
  by_grows type (Some placed) w is =
      kind_grows type (answer text classes a placed.scope placed.expr) (answer text classes b placed.scope placed.expr) w (answer_grows text classes a b below placed.scope placed.expr) is

  pub value_grows : (p : Variable) (w : Value) → value_from text classes a p ≡ Some w → value_from text classes b p ≡ Some w
  value_grows p w is = by_grows (kind_of text classes p.type) (value_expr text classes p) w is

-- a table whose values have derivations, and that gives no more, has the values of the parameters
pub table_of_values : (text : List ℕ) (classes : List ClassDef) (all : List Variable) (values : Values)
    → IsSound text classes all (value_grows text classes) values → IsClosed text classes all (value_grows text classes) values → AreValues text classes all values
table_of_values text classes all values sound closed = are_values text classes all (value_grows text classes) values sound closed
