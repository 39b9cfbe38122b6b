-- The expressions of a flat model that those of instances stand for. MLS 3.6, chapter 5, "Flattening Process", in this project's profile.
use Rattle.std.specs.Prelude.{ℕ, List, ◌++◌, Option, Some, None, if◌then◌else◌}
use Rattle.sync_values.specs.declared.value.Value.{Value}
use Rattle.mo_parser.specs.declared.tree.TreeExpr.{TreeExpr}
use Rattle.mo_parser.specs.declared.tree.TreeNode.TheOpen.{TreeNode-F}
use Rattle.mo_parser.specs.declared.tree.TreeNode.TheFolds.{fold-TreeExpr}
use Rattle.flat_model.specs.declared.raw.RawExpr.{RawExpr}
use Rattle.flat_model.specs.declared.raw.RawExpr.TheVariants as raw
use Rattle.class_scopes.specs.Spelled.{Ident, idents, dotted, is_time}
use Rattle.parameter_values.specs.Values.{Values}

-- the numbers of names, by their flat names
abbrev pub NumberOf : Type 0
NumberOf = Ident → Option ℕ

-- a name with a number, and `time` without one
abbrev pub numbered : Option ℕ → RawExpr
numbered (Some x) = raw.Name x
numbered None = raw.Time

-- the value of a name that has one
abbrev pub valued : Option Value → Option ℕ → RawExpr
valued (Some v) number = raw.Const v
valued None number = numbered number

module _ (text : List ℕ) (values : Values) (number : NumberOf) where
  -- a parameter or constant by its value, another name by its number; a name that is nowhere is `time`
  abbrev pub name_by : Ident → RawExpr
  name_by name = valued (values name) (number name)

  -- a name that is written in a scope
  abbrev pub name_lowered : Ident → List Ident → RawExpr
  name_lowered scope parts = if is_time parts then raw.Time else name_by (scope ++ dotted parts)

  -- one level of an expression that is written in a scope; a call keeps its name as a text
  abbrev pub expr_level : Ident → TreeNode-F RawExpr RawExpr → RawExpr
  expr_level scope (TreeNode-F.Const v) = raw.Const v
  expr_level scope (TreeNode-F.Name path) = name_lowered scope (idents text path)
  expr_level scope (TreeNode-F.Call path arguments) = raw.Call (dotted (idents text path)) arguments
  expr_level scope (TreeNode-F.Chain parts ops) = raw.Chain parts ops
  expr_level scope (TreeNode-F.Relation rel left right) = raw.Relation rel left right
  expr_level scope (TreeNode-F.Neg part) = raw.Neg part
  expr_level scope (TreeNode-F.Not part) = raw.Not part
  expr_level scope (TreeNode-F.Power base exponent) = raw.Power base exponent
  expr_level scope (TreeNode-F.If conditions branches other) = raw.If conditions branches other

  -- the expression that one in a scope stands for
  unfoldable pub expr_of : Ident → TreeExpr → RawExpr
  expr_of scope = fold-TreeExpr RawExpr RawExpr (expr_level scope) (λ expr. expr.node)
