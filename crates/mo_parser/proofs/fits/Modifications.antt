-- Modifications.
use Rattle.std.proofs.Common.{Some, ◌<◌, inr, ℕ, zero, suc, List, [], ◌∷◌, None, refl, arith}
use Rattle.mo_lexer.specs.declared.token.Token.{Token}
use Rattle.mo_lexer.specs.declared.token.TokenKind.TheVariants as k
use Rattle.mo_lexer.specs.declared.token.Sym.TheVariants as s
use Rattle.mo_parser.specs.declared.tree.Arg.{Arg}
use Rattle.mo_parser.specs.declared.grammar.parts.Modification.{Modification}
use Rattle.mo_parser.specs.grammar.Kinds.{is_ident, is_symbol}
use Rattle.mo_parser.specs.grammar.Rules.{Rule, ◌>>=◌, either, gives, many, one, optional, over}
use Rattle.mo_parser.specs.grammar.Names.{ident, name, named}
use Rattle.mo_parser.specs.grammar.Expressions.{Expr}
use Rattle.mo_parser.specs.grammar.Modifications as rule
use Rattle.mo_parser.specs.reading.Outcomes.{Parser}
use Rattle.mo_parser.specs.reading.Outcomes as reads
use Rattle.mo_parser.specs.reading.Expressions.{expr}
use Rattle.mo_parser.specs.reading.Modifications as read
use Rattle.mo_parser.proofs.rules.Fits.{Fits, Some_of, fits_as}
use Rattle.mo_parser.proofs.rules.Kinds.{sy}
use Rattle.mo_parser.proofs.rules.Gives.{fits_gives}
use Rattle.mo_parser.proofs.rules.Levels.{fits_levels}
use Rattle.mo_parser.proofs.rules.Then.{fits_then}
use Rattle.mo_parser.proofs.rules.Choose.{fits_choose, fits_unless}
use Rattle.mo_parser.proofs.rules.Many.{fits_many}
use Rattle.mo_parser.proofs.fits.Tests.{example, fits_symbol, tells_symbol}
use Rattle.mo_parser.proofs.fits.Names.{fits_name}
use Rattle.mo_parser.proofs.fits.Expressions.{after_expr, fits_level}
use Rattle.mo_parser.proofs.fits.Nested.{fits_expr}
use Rattle.mo_parser.proofs.fits.Comments.{fits_some_texts}

abbrev pub after_modification : List ℕ
after_modification = sy s.RoundOpen ∷ sy s.Equals ∷ after_expr

abbrev pub after_args : List ℕ
after_args = sy s.Comma ∷ sy s.Dot ∷ 3 ∷ after_modification

module _ {n : ℕ} where
  pub fits_value : Fits (sy s.Equals ∷ []) after_expr 1 None (λ k. rule.value (Expr k)) (λ k. read.value (expr k)) n
  unfolding rule.value read.value
  fits_value = fits_then (fits_symbol s.Equals) (λ _. fits_level (fits_expr n)) refl

  fits_some_value : Fits (sy s.Equals ∷ []) (sy s.Equals ∷ after_expr) 0 None (λ k. optional (rule.value (Expr k))) (λ k. reads.optional (is_symbol s.Equals) (read.value (expr k))) n
  fits_some_value = fits_as (sy s.Equals ∷ []) (sy s.Equals ∷ after_expr) refl refl
      (fits_choose (is_symbol s.Equals) (sy s.Equals ∷ []) (tells_symbol s.Equals) (fits_then fits_value (λ e. fits_gives _) refl) (fits_gives _) refl refl (omega arith))

  module _ {R : ℕ → Rule (List Arg)} {p : ℕ → Parser (List Arg)} (nested : Fits (0 ∷ []) after_args 1 (Some []) R p n) where
    pub fits_in_brackets : Fits (sy s.RoundClose ∷ 0 ∷ []) [] 1 (Some (sy s.RoundClose ∷ [])) (λ k. rule.in_brackets (R k)) (λ k. read.in_brackets (p k)) n
    unfolding rule.in_brackets read.in_brackets
    fits_in_brackets = fits_choose (is_symbol s.RoundClose) (sy s.RoundClose ∷ []) (tells_symbol s.RoundClose) (fits_then (fits_symbol s.RoundClose) (λ _. fits_gives _) refl)
        (fits_then (fits_unless (is_symbol s.RoundClose) (sy s.RoundClose ∷ []) (tells_symbol s.RoundClose) nested refl) (λ us. fits_then (fits_symbol s.RoundClose) (λ _. fits_gives us) refl) refl) refl refl (omega arith)

    pub fits_modification : Fits (sy s.RoundOpen ∷ sy s.Equals ∷ []) after_modification 0 None (λ k. rule.modification (Expr k) (R k)) (λ k. read.modification (expr k) (p k)) n
    unfolding rule.modification read.modification
    fits_modification = fits_as (sy s.RoundOpen ∷ sy s.Equals ∷ []) after_modification refl refl
        (fits_choose (is_symbol s.RoundOpen) (sy s.RoundOpen ∷ []) (tells_symbol s.RoundOpen)
        (fits_then (fits_symbol s.RoundOpen) (λ _. fits_then fits_in_brackets (λ us. fits_then fits_some_value (λ v. fits_gives _) refl) refl) refl)
        (fits_then fits_some_value (λ v. fits_gives _) refl) refl refl (omega arith))

    fits_argument : Fits (0 ∷ []) (sy s.Dot ∷ 3 ∷ after_modification) 1 None (λ k. rule.argument (Expr k) (R k)) (λ k. read.argument (expr k) (p k)) n
    unfolding rule.argument read.argument
    fits_argument = fits_as (0 ∷ []) (sy s.Dot ∷ 3 ∷ after_modification) refl refl
        (fits_then fits_name (λ x. fits_then fits_modification (λ m. fits_then fits_some_texts (λ _. fits_gives _) refl) refl) refl)

    fits_further_argument : (us : List Arg) → Fits (sy s.Comma ∷ []) (sy s.Dot ∷ 3 ∷ after_modification) 1 None (λ k. rule.further_argument (Expr k) (R k) us) (λ k. read.further_argument (expr k) (p k) us) n
    unfolding rule.further_argument read.further_argument
    fits_further_argument us = fits_then (fits_symbol s.Comma) (λ _. fits_then fits_argument (λ a. fits_gives _) refl) refl

    pub fits_arguments : Fits (0 ∷ []) after_args 1 None (λ k. rule.arguments (Expr k) (R k)) (λ k. read.arguments (expr k) (p k)) n
    unfolding rule.arguments read.arguments
    fits_arguments = fits_as (0 ∷ []) after_args refl refl
        (fits_then fits_argument (λ a. fits_many (is_symbol s.Comma) (sy s.Comma ∷ []) (tells_symbol s.Comma) refl (λ us. fits_further_argument us) refl refl (a ∷ [])) refl)

-- the shortest arguments
some_args : (m : ℕ) → 0 < m → Some_of (rule.Args m)
unfolding rule.Args rule.arguments rule.argument rule.modification name ident either one gives many ◌>>=◌ example is_ident
some_args zero lt = absurd (omega arith)
some_args (suc m) lt =
    let t : Token = example k.Ident in let none : Modification = record { args = []; binding = None } in let a : Arg = rule.argument_of (named t) none in
    (a ∷ [], λ c. (t ∷ c, (a, c, (named t, c, (t, c, (t, refl, refl), over (named t) c), (none, c, inr (None, c, inr (refl, refl), (refl, refl)), (tt, c, inr (refl, refl), (refl, refl)))), over (a ∷ []) c)))

pub fits_args : (n : ℕ) → Fits (0 ∷ []) after_args 1 (Some []) rule.Args read.args n
unfolding rule.Args read.args
fits_args = fits_levels refl (λ n. refl) (λ a. refl) (λ n a. refl) some_args (λ n f. fits_arguments f)
