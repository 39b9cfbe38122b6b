-- Expressions.
use Rattle.std.proofs.Common.{None, Some, ◌++◌, ℕ, is_some, List, [], ◌∷◌, refl, arith}
use Rattle.mo_lexer.specs.declared.token.Word.TheVariants as w
use Rattle.mo_lexer.specs.declared.token.Sym.TheVariants as s
use Rattle.mo_parser.specs.declared.tree.TreeExpr.{TreeExpr}
use Rattle.mo_parser.specs.declared.grammar.parts.Branches.{Branches}
use Rattle.mo_parser.specs.grammar.Kinds.{and_of, is_symbol, is_word, literal_of, or_of, product_of, relation_of, sum_of}
use Rattle.mo_parser.specs.grammar.Rules.{Rule}
use Rattle.mo_parser.specs.grammar.Trees.{no_branches}
use Rattle.mo_parser.specs.grammar.Expressions as rule
use Rattle.mo_parser.specs.reading.Outcomes.{Parser}
use Rattle.mo_parser.specs.reading.Expressions as read
use Rattle.mo_parser.proofs.rules.Fits.{Fits, fits_as}
use Rattle.mo_parser.proofs.rules.Kinds.{kw, sy}
use Rattle.mo_parser.proofs.rules.Gives.{fits_gives}
use Rattle.mo_parser.proofs.rules.Then.{fits_then}
use Rattle.mo_parser.proofs.rules.Choose.{fits_choose, fits_unless}
use Rattle.mo_parser.proofs.rules.Many.{fits_many}
use Rattle.mo_parser.proofs.fits.Tests.{fits_symbol, fits_word, tells_symbol, tells_word}
use Rattle.mo_parser.proofs.fits.Names.{fits_name}
use Rattle.mo_parser.proofs.fits.Chains.{fits_links}
use Rattle.mo_parser.proofs.fits.Operators.{fits_and, fits_literal, fits_or, fits_product, fits_relation, fits_sum, literals, products, relations, sums, tells_and, tells_literal, tells_or, tells_product, tells_relation, tells_sum}

-- what begins an operand, a part of a sum, and an expression without and with `if`
abbrev pub primaries : List ℕ
primaries = literals ++ sy s.RoundOpen ∷ 0 ∷ []

abbrev pub simples : List ℕ
simples = sy s.Plus ∷ sy s.Minus ∷ kw w.KwNot ∷ primaries

abbrev pub exprs : List ℕ
exprs = kw w.KwIf ∷ simples

-- what lengthens them
abbrev pub after_primary : List ℕ
after_primary = sy s.RoundOpen ∷ sy s.Dot ∷ []

abbrev pub after_factor : List ℕ
after_factor = sy s.Power ∷ after_primary

abbrev pub after_term : List ℕ
after_term = products ++ after_factor

abbrev pub after_arith : List ℕ
after_arith = sums ++ after_term

abbrev pub after_rel : List ℕ
after_rel = relations ++ after_arith

abbrev pub after_conj : List ℕ
after_conj = kw w.KwAnd ∷ after_rel

abbrev pub after_expr : List ℕ
after_expr = kw w.KwOr ∷ after_conj

module _ {n : ℕ} {R : ℕ → Rule TreeExpr} {p : ℕ → Parser TreeExpr} (whole : Fits exprs after_expr 1 (Some []) R p n) where
  fits_bracketed : Fits (sy s.RoundOpen ∷ []) [] 1 None (λ k. rule.bracketed (R k)) (λ k. read.bracketed (p k)) n
  unfolding rule.bracketed read.bracketed read.inner
  fits_bracketed = fits_then (fits_symbol s.RoundOpen)
      (λ first. fits_then (fits_unless (is_symbol s.RoundClose) (sy s.RoundClose ∷ []) (tells_symbol s.RoundClose) whole refl) (λ e. fits_then (fits_symbol s.RoundClose) (λ last. fits_gives _) refl) refl) refl

  fits_further : (es : List TreeExpr) → Fits (sy s.Comma ∷ []) after_expr 1 None (λ k. rule.further (R k) es) (λ k. read.further (p k) es) n
  unfolding rule.further read.further
  fits_further es = fits_then (fits_symbol s.Comma) (λ _. fits_then whole (λ e. fits_gives _) refl) refl

  fits_listed : Fits exprs (sy s.Comma ∷ after_expr) 1 (Some []) (λ k. rule.listed (R k)) (λ k. read.listed (p k)) n
  unfolding rule.listed read.listed
  fits_listed = fits_as exprs (sy s.Comma ∷ after_expr) refl refl
      (fits_then whole (λ e. fits_many (is_symbol s.Comma) (sy s.Comma ∷ []) (tells_symbol s.Comma) refl (λ es. fits_further es) refl refl (e ∷ [])) refl)

  fits_arguments : Fits (sy s.RoundClose ∷ exprs) [] 1 (Some (sy s.RoundClose ∷ [])) (λ k. rule.arguments (R k)) (λ k. read.arguments (p k)) n
  unfolding rule.arguments read.arguments
  fits_arguments = fits_choose (is_symbol s.RoundClose) (sy s.RoundClose ∷ []) (tells_symbol s.RoundClose)
      (fits_then (fits_symbol s.RoundClose) (λ last. fits_gives _) refl)
      (fits_then (fits_unless (is_symbol s.RoundClose) (sy s.RoundClose ∷ []) (tells_symbol s.RoundClose) fits_listed refl) (λ es. fits_then (fits_symbol s.RoundClose) (λ last. fits_gives _) refl) refl) refl refl (omega arith)

  fits_reference : Fits (0 ∷ []) after_primary 1 None (λ k. rule.reference (R k)) (λ k. read.reference (p k)) n
  unfolding rule.reference read.reference
  fits_reference = fits_then fits_name (λ x. fits_choose (is_symbol s.RoundOpen) (sy s.RoundOpen ∷ []) (tells_symbol s.RoundOpen)
      (fits_then (fits_symbol s.RoundOpen) (λ _. fits_then fits_arguments (λ es. fits_gives _) refl) refl) (fits_gives _) refl refl (omega arith)) refl

  fits_primary : Fits primaries after_primary 1 None (λ k. rule.primary (R k)) (λ k. read.primary (p k)) n
  unfolding rule.primary read.primary
  fits_primary = fits_choose (λ t. is_some (literal_of t)) literals tells_literal fits_literal
      (fits_choose (is_symbol s.RoundOpen) (sy s.RoundOpen ∷ []) (tells_symbol s.RoundOpen) fits_bracketed fits_reference refl refl (omega arith)) refl refl (omega arith)

  fits_factor : Fits primaries after_factor 1 None (λ k. rule.factor (R k)) (λ k. read.factor (p k)) n
  unfolding rule.factor read.factor
  fits_factor = fits_as primaries after_factor refl refl (fits_then fits_primary (λ base. fits_choose (is_symbol s.Power) (sy s.Power ∷ []) (tells_symbol s.Power)
      (fits_then (fits_symbol s.Power) (λ _. fits_then fits_primary (λ e. fits_gives _) refl) refl) (fits_gives base) refl refl (omega arith)) refl)

  fits_term : Fits primaries after_term 1 None (λ k. rule.term (R k)) (λ k. read.term (p k)) n
  unfolding rule.term read.term
  fits_term = fits_as primaries after_term refl refl (fits_then fits_factor (λ e. fits_links product_of tells_product fits_product fits_factor refl refl e) refl)

  fits_signed : Fits (sy s.Plus ∷ sy s.Minus ∷ primaries) after_term 1 None (λ k. rule.signed (R k)) (λ k. read.signed (p k)) n
  unfolding rule.signed read.signed
  fits_signed = fits_as (sy s.Plus ∷ sy s.Minus ∷ primaries) after_term refl refl (fits_choose (is_symbol s.Plus) (sy s.Plus ∷ []) (tells_symbol s.Plus)
      (fits_then (fits_symbol s.Plus) (λ sign. fits_then fits_term (λ e. fits_gives _) refl) refl)
      (fits_choose (is_symbol s.Minus) (sy s.Minus ∷ []) (tells_symbol s.Minus)
      (fits_then (fits_symbol s.Minus) (λ sign. fits_then fits_term (λ e. fits_gives _) refl) refl) fits_term refl refl (omega arith)) refl refl (omega arith))

  fits_arith : Fits (sy s.Plus ∷ sy s.Minus ∷ primaries) after_arith 1 None (λ k. rule.arith (R k)) (λ k. read.arith (p k)) n
  unfolding rule.arith read.arith
  fits_arith = fits_as (sy s.Plus ∷ sy s.Minus ∷ primaries) after_arith refl refl (fits_then fits_signed (λ e. fits_links sum_of tells_sum fits_sum fits_term refl refl e) refl)

  fits_rel : Fits (sy s.Plus ∷ sy s.Minus ∷ primaries) after_rel 1 None (λ k. rule.rel (R k)) (λ k. read.rel (p k)) n
  unfolding rule.rel read.rel
  fits_rel = fits_as (sy s.Plus ∷ sy s.Minus ∷ primaries) after_rel refl refl (fits_then fits_arith (λ a. fits_choose (λ t. is_some (relation_of t)) relations tells_relation
      (fits_then fits_relation (λ r. fits_then fits_arith (λ b. fits_gives _) refl) refl) (fits_gives a) refl refl (omega arith)) refl)

  fits_lit : Fits simples after_rel 1 None (λ k. rule.lit (R k)) (λ k. read.lit (p k)) n
  unfolding rule.lit read.lit
  fits_lit = fits_as simples after_rel refl refl (fits_choose (is_word w.KwNot) (kw w.KwNot ∷ []) (tells_word w.KwNot)
      (fits_then (fits_word w.KwNot) (λ x. fits_then fits_rel (λ e. fits_gives _) refl) refl) fits_rel refl refl (omega arith))

  fits_conj : Fits simples after_conj 1 None (λ k. rule.conj (R k)) (λ k. read.conj (p k)) n
  unfolding rule.conj read.conj
  fits_conj = fits_as simples after_conj refl refl (fits_then fits_lit (λ e. fits_links and_of tells_and fits_and fits_lit refl refl e) refl)

  pub fits_simple : Fits simples after_expr 1 None (λ k. rule.simple (R k)) (λ k. read.simple (p k)) n
  unfolding rule.simple read.simple
  fits_simple = fits_as simples after_expr refl refl (fits_then fits_conj (λ e. fits_links or_of tells_or fits_or fits_conj refl refl e) refl)

  fits_consequence : Fits (kw w.KwThen ∷ []) after_expr 1 None (λ k. rule.consequence (R k)) (λ k. read.consequence (p k)) n
  unfolding rule.consequence read.consequence
  fits_consequence = fits_then (fits_word w.KwThen) (λ _. whole) refl

  fits_branch : (b : Branches) → Fits exprs after_expr 1 (Some []) (λ k. rule.branch (R k) b) (λ k. read.branch (p k) b) n
  unfolding rule.branch read.branch
  fits_branch b = fits_then whole (λ c. fits_then fits_consequence (λ e. fits_gives _) refl) refl

  fits_other_branch : (b : Branches) → Fits (kw w.KwElseif ∷ []) after_expr 1 None (λ k. rule.other_branch (R k) b) (λ k. read.other_branch (p k) b) n
  unfolding rule.other_branch read.other_branch
  fits_other_branch b = fits_then (fits_word w.KwElseif) (λ _. fits_branch b) refl

  fits_otherwise : Fits (kw w.KwElse ∷ []) after_expr 1 None (λ k. rule.otherwise (R k)) (λ k. read.otherwise (p k)) n
  unfolding rule.otherwise read.otherwise
  fits_otherwise = fits_then (fits_word w.KwElse) (λ _. whole) refl

  fits_choice : Fits (kw w.KwIf ∷ []) after_expr 1 None (λ k. rule.choice (R k)) (λ k. read.choice (p k)) n
  unfolding rule.choice read.choice
  fits_choice = fits_then (fits_word w.KwIf) (λ x. fits_then (fits_branch no_branches)
      (λ b. fits_then (fits_many (is_word w.KwElseif) (kw w.KwElseif ∷ []) (tells_word w.KwElseif) refl (λ b. fits_other_branch b) refl refl b)
      (λ all. fits_then fits_otherwise (λ e. fits_gives _) refl) refl) refl) refl

  pub fits_level : Fits exprs after_expr 1 None (λ k. rule.level (R k)) (λ k. read.level (p k)) n
  unfolding rule.level read.level
  fits_level = fits_as exprs after_expr refl refl (fits_choose (is_word w.KwIf) (kw w.KwIf ∷ []) (tells_word w.KwIf) fits_choice fits_simple refl refl (omega arith))
