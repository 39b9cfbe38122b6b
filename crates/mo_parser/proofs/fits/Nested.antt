-- Whole expressions at each depth.
use Rattle.std.proofs.Common.{Some, [], ◌<◌, inl, inr, ℕ, zero, suc, true, ◌∷◌, refl, arith}
use Rattle.sync_values.specs.declared.value.Value.TheVariants as value
use Rattle.mo_lexer.specs.declared.token.Token.{Token}
use Rattle.mo_lexer.specs.declared.token.TokenKind.TheVariants as k
use Rattle.mo_lexer.specs.declared.token.Word.TheVariants as w
use Rattle.mo_parser.specs.declared.tree.TreeExpr.{TreeExpr}
use Rattle.mo_parser.specs.declared.tree.TreeNode.TheVariants as n
use Rattle.mo_parser.specs.grammar.Kinds.{literal_of}
use Rattle.mo_parser.specs.grammar.Rules.{◌>>=◌, either, gives, one}
use Rattle.mo_parser.specs.grammar.Trees.{spanning}
use Rattle.mo_parser.specs.grammar.Expressions.{Expr, arith as sum_rule, conj, factor, level, links, lit, literal, primary, rel, signed, simple, term}
use Rattle.mo_parser.specs.reading.Expressions.{expr}
use Rattle.mo_parser.proofs.rules.Fits.{Fits, Some_of}
use Rattle.mo_parser.proofs.rules.Levels.{fits_levels}
use Rattle.mo_parser.proofs.fits.Tests.{example}
use Rattle.mo_parser.proofs.fits.Expressions.{after_expr, exprs, fits_level}

-- the shortest expression
some_expr : (m : ℕ) → 0 < m → Some_of (Expr m)
unfolding Expr level simple conj lit rel sum_rule signed term factor primary links literal literal_of either one gives ◌>>=◌ example
some_expr zero lt = absurd (omega arith)
some_expr (suc m) lt =
    let e : TreeExpr = spanning (n.Const (value.Bool true)) 0 0 in let t : Token = example (k.Keyword w.KwTrue) in
    (e, λ c. (t ∷ c, inr (e, c, (e, c, inr (e, c, (e, c, inr (inr (e, c, (e, c, inl (t, refl, refl), inr (refl, refl)), inr (refl, refl))), inr (refl, refl)), inr (refl, refl)), inr (refl, refl)), inr (refl, refl))))

pub fits_expr : (n : ℕ) → Fits exprs after_expr 1 (Some []) Expr expr n
unfolding Expr expr
fits_expr = fits_levels refl (λ n. refl) (λ a. refl) (λ n a. refl) some_expr (λ n f. fits_level f)
