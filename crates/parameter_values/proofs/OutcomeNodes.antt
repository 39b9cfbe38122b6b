-- The equations of `outcome`, one for each kind of node.
use Rattle.std.proofs.Common.{◌≡◌, ap, ◌∙◌, sym, ℕ, List, map, None}
use Rattle.sync_values.specs.declared.value.Value.{Value}
use Rattle.sync_values.specs.declared.value.Rel.{Rel}
use Rattle.sync_values.specs.declared.value.ChainOp.{ChainOp}
use Rattle.mo_order.specs.Values.{Slots}
use Rattle.mo_parser.specs.declared.tree.Path.{Path}
use Rattle.mo_parser.specs.declared.tree.TreeExpr.{TreeExpr}
use Rattle.mo_parser.specs.declared.tree.TreeNode.{TreeNode}
use Rattle.mo_parser.specs.declared.tree.TreeNode.TheVariants.{Const, Name, Call, Chain, Relation, Neg, Not, Power, If, rolls-Const, rolls-Name, rolls-Call, rolls-Chain, rolls-Relation, rolls-Neg, rolls-Not, rolls-Power, rolls-If}
use Rattle.mo_parser.specs.declared.tree.TreeNode.TheOpen.{TreeNode-F}
use Rattle.mo_parser.specs.declared.tree.TreeNode.TheViews.{roll-TreeNode}
use Rattle.mo_parser.specs.declared.tree.TreeNode.TheFolds.{fold-TreeNode, fold-roll-TreeNode, fold_out-TreeExpr, map-TreeNode}
use Rattle.class_scopes.specs.Spelled.{Ident, idents, dotted}
use Rattle.class_scopes.specs.Tables.{Numbered}
use Rattle.parameter_values.specs.Values.{function_named}
use Rattle.parameter_values.specs.declared.evaluate.Outcome.{Outcome}
use Rattle.parameter_values.specs.declared.evaluate.Outcome.TheVariants as out
use Rattle.parameter_values.specs.Outcomes.{outcome, outcome_level, name_outcome, called_outcome_by, chain_outcome, related_outcome, negated_outcome, inverted_outcome, chosen_outcome}

module _ (text : List ℕ) (table : Numbered) (slots : Slots) (scope : Ident) where
  abbrev told : TreeExpr → Outcome
  told = outcome text table slots scope

  abbrev node_told : TreeNode → Outcome
  node_told = fold-TreeNode Outcome Outcome (outcome_level text table slots scope) (λ expr. expr.node)

  told_at : (expr : TreeExpr) (node : TreeNode) (y : TreeNode-F TreeNode TreeExpr) → expr.node ≡ node → roll-TreeNode y ≡ node
      → told expr ≡ outcome_level text table slots scope (map-TreeNode TreeNode TreeExpr Outcome Outcome node_told told y)
  unfolding outcome
  told_at expr node y is rolls =
      fold_out-TreeExpr Outcome Outcome (outcome_level text table slots scope) (λ expr. expr.node) expr
      ∙ ap node_told (is ∙ sym rolls) ∙ fold-roll-TreeNode Outcome Outcome (outcome_level text table slots scope) (λ expr. expr.node) y

  module _ (expr : TreeExpr) where
    pub told-Const : (value : Value) → expr.node ≡ Const value → told expr ≡ out.Known value
    told-Const value is = told_at expr (Const value) (TreeNode-F.Const value) is (rolls-Const value)

    pub told-Name : (path : Path) → expr.node ≡ Name path → told expr ≡ name_outcome text table slots scope (idents text path)
    told-Name path is = told_at expr (Name path) (TreeNode-F.Name path) is (rolls-Name path)

    pub told-Call : (path : Path) (parts : List TreeExpr) → expr.node ≡ Call path parts
        → told expr ≡ called_outcome_by (function_named (dotted (idents text path))) (map told parts)
    told-Call path parts is = told_at expr (Call path parts) (TreeNode-F.Call path parts) is (rolls-Call path parts)

    pub told-Chain : (parts : List TreeExpr) (ops : List ChainOp) → expr.node ≡ Chain parts ops → told expr ≡ chain_outcome ops (map told parts)
    told-Chain parts ops is = told_at expr (Chain parts ops) (TreeNode-F.Chain parts ops) is (rolls-Chain parts ops)

    pub told-Relation : (rel : Rel) (left right : TreeExpr) → expr.node ≡ Relation rel left right → told expr ≡ related_outcome rel (told left) (told right)
    told-Relation rel left right is = told_at expr (Relation rel left right) (TreeNode-F.Relation rel left right) is (rolls-Relation rel left right)

    pub told-Neg : (part : TreeExpr) → expr.node ≡ Neg part → told expr ≡ negated_outcome (told part)
    told-Neg part is = told_at expr (Neg part) (TreeNode-F.Neg part) is (rolls-Neg part)

    pub told-Not : (part : TreeExpr) → expr.node ≡ Not part → told expr ≡ inverted_outcome (told part)
    told-Not part is = told_at expr (Not part) (TreeNode-F.Not part) is (rolls-Not part)

    pub told-If : (conditions branches : List TreeExpr) (other : TreeExpr) → expr.node ≡ If conditions branches other
        → told expr ≡ chosen_outcome (map told conditions) (map told branches) (told other)
    told-If conditions branches other is =
        told_at expr (If conditions branches other) (TreeNode-F.If conditions branches other) is (rolls-If conditions branches other)

    pub told-Power : (base exponent : TreeExpr) → expr.node ≡ Power base exponent → told expr ≡ out.Missing None
    told-Power base exponent is = told_at expr (Power base exponent) (TreeNode-F.Power base exponent) is (rolls-Power base exponent)
