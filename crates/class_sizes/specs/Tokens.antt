-- How many source tokens the own equations of a class have, counted once for each instance. This project's own.
use Rattle.std.specs.Prelude.{ℕ, zero, suc, ◌+◌, List, sum_by}
use Rattle.mo_lexer.specs.declared.token.Token.{Token}
use Rattle.mo_parser.specs.declared.tree.ClassDef.{ClassDef}
use Rattle.mo_parser.specs.declared.tree.TreeExpr.{TreeExpr}
use Rattle.mo_parser.specs.declared.tree.TreeNode.TheViews.{out-TreeExpr}
use Rattle.mo_parser.specs.declared.tree.TreeEq.{TreeEq}
use Rattle.mo_parser.specs.declared.tree.TreeEq.TheOpen.{TreeEq-F}
use Rattle.mo_parser.specs.declared.tree.TreeEq.TheViews.{out-TreeEq}
use Rattle.class_scopes.specs.Types.{class_equations}
use Rattle.source_tokens.specs.Pieces.{tokens_in}
use Rattle.class_sizes.specs.Equations.{inside_equations}

-- over the tokens of the text
module _ (tokens : List Token) where
  -- the tokens of an expression are those that stand in its piece of the text
  abbrev pub expr_tokens : TreeExpr → ℕ
  expr_tokens expr = tokens_in tokens (out-TreeExpr expr).span.at (out-TreeExpr expr).span.end

  -- two sides and the sign between them
  abbrev pub sides_tokens : TreeExpr → TreeExpr → ℕ
  sides_tokens left right = expr_tokens left + 1 + expr_tokens right

  -- an equation inside a clause
  abbrev pub inside_by : TreeEq-F TreeEq → ℕ
  inside_by (TreeEq-F.Equal left right) = sides_tokens left right
  inside_by _ = 0

  abbrev pub inside_tokens : TreeEq → ℕ
  inside_tokens equation = inside_by (out-TreeEq equation)

  -- the clock of a clause of so many equations; one without equations is dropped
  abbrev pub clock_tokens : TreeExpr → ℕ → ℕ
  clock_tokens clock zero = 0
  clock_tokens clock (suc count) = expr_tokens clock

  -- an equation of a class: its sides, or the clock and the equations of a clause; a connect has none
  abbrev pub tokens_by : TreeEq-F TreeEq → ℕ
  tokens_by (TreeEq-F.Equal left right) = sides_tokens left right
  tokens_by (TreeEq-F.When clock inside) = clock_tokens clock (sum_by inside_equations inside) + sum_by inside_tokens inside
  tokens_by (TreeEq-F.Connect a b) = 0

  abbrev pub tokens_at : TreeEq → ℕ
  tokens_at equation = tokens_by (out-TreeEq equation)

-- all of a class
abbrev pub own_tokens : List ℕ → List ClassDef → List Token → ℕ → ℕ
own_tokens text classes tokens class = sum_by (tokens_at tokens) (class_equations text classes class)
