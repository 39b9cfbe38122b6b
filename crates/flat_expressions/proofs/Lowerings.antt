-- The equations of `expr_of`, one for each kind of node.
use Rattle.std.proofs.Common.{◌≡◌, ap, ◌∙◌, sym, ℕ, List, map}
use Rattle.sync_values.specs.declared.value.Value.{Value}
use Rattle.sync_values.specs.declared.value.Rel.{Rel}
use Rattle.sync_values.specs.declared.value.ChainOp.{ChainOp}
use Rattle.mo_parser.specs.declared.tree.Path.{Path}
use Rattle.mo_parser.specs.declared.tree.TreeExpr.{TreeExpr}
use Rattle.mo_parser.specs.declared.tree.TreeNode.{TreeNode}
use Rattle.mo_parser.specs.declared.tree.TreeNode.TheVariants.{Const, Name, Call, Chain, Relation, Neg, Not, Power, If, rolls-Const, rolls-Name, rolls-Call, rolls-Chain, rolls-Relation, rolls-Neg, rolls-Not, rolls-Power, rolls-If}
use Rattle.mo_parser.specs.declared.tree.TreeNode.TheOpen.{TreeNode-F}
use Rattle.mo_parser.specs.declared.tree.TreeNode.TheViews.{roll-TreeNode}
use Rattle.mo_parser.specs.declared.tree.TreeNode.TheFolds.{fold-TreeNode, fold-roll-TreeNode, fold_out-TreeExpr, map-TreeNode}
use Rattle.flat_model.specs.declared.raw.RawExpr.{RawExpr}
use Rattle.flat_model.specs.declared.raw.RawExpr.TheVariants as raw
use Rattle.class_scopes.specs.Spelled.{Ident, idents, dotted}
use Rattle.parameter_values.specs.Values.{Values}
use Rattle.flat_expressions.specs.Expressions.{NumberOf, name_lowered, expr_level, expr_of}

module _ (text : List ℕ) (values : Values) (number : NumberOf) (scope : Ident) where
  abbrev lowered : TreeExpr → RawExpr
  lowered = expr_of text values number scope

  abbrev node_lowered : TreeNode → RawExpr
  node_lowered = fold-TreeNode RawExpr RawExpr (expr_level text values number scope) (λ expr. expr.node)

  lowered_at : (expr : TreeExpr) (node : TreeNode) (y : TreeNode-F TreeNode TreeExpr) → expr.node ≡ node → roll-TreeNode y ≡ node
      → lowered expr ≡ expr_level text values number scope (map-TreeNode TreeNode TreeExpr RawExpr RawExpr node_lowered lowered y)
  unfolding expr_of
  lowered_at expr node y is rolls =
      fold_out-TreeExpr RawExpr RawExpr (expr_level text values number scope) (λ expr. expr.node) expr
      ∙ ap node_lowered (is ∙ sym rolls) ∙ fold-roll-TreeNode RawExpr RawExpr (expr_level text values number scope) (λ expr. expr.node) y

  module _ (expr : TreeExpr) where
    pub lowered-Const : (value : Value) → expr.node ≡ Const value → lowered expr ≡ raw.Const value
    lowered-Const value is = lowered_at expr (Const value) (TreeNode-F.Const value) is (rolls-Const value)

    pub lowered-Name : (path : Path) → expr.node ≡ Name path → lowered expr ≡ name_lowered text values number scope (idents text path)
    lowered-Name path is = lowered_at expr (Name path) (TreeNode-F.Name path) is (rolls-Name path)

    pub lowered-Call : (path : Path) (arguments : List TreeExpr) → expr.node ≡ Call path arguments
        → lowered expr ≡ raw.Call (dotted (idents text path)) (map lowered arguments)
    lowered-Call path arguments is = lowered_at expr (Call path arguments) (TreeNode-F.Call path arguments) is (rolls-Call path arguments)

    pub lowered-Chain : (parts : List TreeExpr) (ops : List ChainOp) → expr.node ≡ Chain parts ops → lowered expr ≡ raw.Chain (map lowered parts) ops
    lowered-Chain parts ops is = lowered_at expr (Chain parts ops) (TreeNode-F.Chain parts ops) is (rolls-Chain parts ops)

    pub lowered-Relation : (rel : Rel) (left right : TreeExpr) → expr.node ≡ Relation rel left right → lowered expr ≡ raw.Relation rel (lowered left) (lowered right)
    lowered-Relation rel left right is = lowered_at expr (Relation rel left right) (TreeNode-F.Relation rel left right) is (rolls-Relation rel left right)

    pub lowered-Neg : (part : TreeExpr) → expr.node ≡ Neg part → lowered expr ≡ raw.Neg (lowered part)
    lowered-Neg part is = lowered_at expr (Neg part) (TreeNode-F.Neg part) is (rolls-Neg part)

    pub lowered-Not : (part : TreeExpr) → expr.node ≡ Not part → lowered expr ≡ raw.Not (lowered part)
    lowered-Not part is = lowered_at expr (Not part) (TreeNode-F.Not part) is (rolls-Not part)

    pub lowered-Power : (base exponent : TreeExpr) → expr.node ≡ Power base exponent → lowered expr ≡ raw.Power (lowered base) (lowered exponent)
    lowered-Power base exponent is = lowered_at expr (Power base exponent) (TreeNode-F.Power base exponent) is (rolls-Power base exponent)

    pub lowered-If : (conditions branches : List TreeExpr) (other : TreeExpr) → expr.node ≡ If conditions branches other
        → lowered expr ≡ raw.If (map lowered conditions) (map lowered branches) (lowered other)
    lowered-If conditions branches other is =
        lowered_at expr (If conditions branches other) (TreeNode-F.If conditions branches other) is (rolls-If conditions branches other)
