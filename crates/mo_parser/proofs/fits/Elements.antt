-- Elements and equations.
use Rattle.std.proofs.Common.{None, ℕ, List, [], ◌∷◌, is_some, refl, arith}
use Rattle.mo_lexer.specs.declared.token.Word.TheVariants as w
use Rattle.mo_lexer.specs.declared.token.Sym.TheVariants as s
use Rattle.mo_parser.specs.declared.tree.Element.{Element}
use Rattle.mo_parser.specs.declared.tree.TreeEq.{TreeEq}
use Rattle.mo_parser.specs.declared.tree.Causality.TheVariants as causality
use Rattle.mo_parser.specs.declared.tree.Variability.TheVariants as variability
use Rattle.mo_parser.specs.declared.grammar.parts.Declared.{Declared}
use Rattle.mo_parser.specs.grammar.Kinds.{causality_of, is_symbol, is_word, variability_of}
use Rattle.mo_parser.specs.reading.Starts.{begins_element, begins_equation, begins_simple}
use Rattle.mo_parser.specs.grammar.Elements as rule
use Rattle.mo_parser.specs.grammar.Equations as rule_of
use Rattle.mo_parser.specs.reading.Elements as read
use Rattle.mo_parser.specs.reading.Equations as read_of
use Rattle.mo_parser.proofs.rules.Fits.{Fits, fits_as}
use Rattle.mo_parser.proofs.rules.Kinds.{kw, sy}
use Rattle.mo_parser.proofs.rules.Gives.{fits_gives}
use Rattle.mo_parser.proofs.rules.Then.{fits_then}
use Rattle.mo_parser.proofs.rules.Choose.{fits_choose}
use Rattle.mo_parser.proofs.rules.Many.{fits_many}
use Rattle.mo_parser.proofs.fits.Tests.{fits_ident, fits_symbol, fits_word, tells_symbol, tells_word}
use Rattle.mo_parser.proofs.fits.Names.{fits_name}
use Rattle.mo_parser.proofs.fits.Expressions.{after_expr, fits_level, fits_simple}
use Rattle.mo_parser.proofs.fits.Nested.{fits_expr}
use Rattle.mo_parser.proofs.fits.Words.{causalities, element_starts, equation_starts, every_other, fits_causality, fits_variability, simple_starts, tells_causality, tells_element, tells_equation, tells_simple, tells_variability, variabilities}
use Rattle.mo_parser.proofs.fits.Comments.{fits_balanced, fits_comment}
use Rattle.mo_parser.proofs.fits.Modifications.{after_modification, fits_args, fits_modification}

fits_some_variability : {n : ℕ} → Fits variabilities variabilities 0 None (λ _. rule.some_variability) (λ _. read.some_variability) n
unfolding rule.some_variability read.some_variability
fits_some_variability = fits_as variabilities variabilities refl refl (fits_choose (λ t. is_some (variability_of t)) variabilities tells_variability fits_variability (fits_gives variability.Plain) refl refl (omega arith))

pub fits_some_causality : {n : ℕ} → Fits causalities causalities 0 None (λ _. rule.some_causality) (λ _. read.some_causality) n
unfolding rule.some_causality read.some_causality
fits_some_causality = fits_as causalities causalities refl refl (fits_choose (λ t. is_some (causality_of t)) causalities tells_causality fits_causality (fits_gives causality.Plain) refl refl (omega arith))

fits_declared : {n : ℕ} → Fits element_starts (sy s.Dot ∷ []) 1 None (λ _. rule.declared) (λ _. read.declared) n
unfolding rule.declared read.declared
fits_declared = fits_as element_starts (sy s.Dot ∷ []) refl refl (fits_then fits_some_variability (λ v. fits_then fits_some_causality (λ c. fits_then fits_name (λ x. fits_gives _) refl) refl) refl)

abbrev after_component : List ℕ
after_component = sy s.Comma ∷ 3 ∷ sy s.Plus ∷ kw w.KwAnnotation ∷ after_modification

module _ {n : ℕ} where
  fits_component : (d : Declared) (es : List Element) → Fits (0 ∷ []) (3 ∷ sy s.Plus ∷ kw w.KwAnnotation ∷ after_modification) 1 None (λ k. rule.component k d es) (λ k. read.component k d es) n
  unfolding rule.component read.component every_other
  fits_component d es = fits_as (0 ∷ []) (3 ∷ sy s.Plus ∷ kw w.KwAnnotation ∷ after_modification) refl refl
      (fits_then fits_ident (λ x. fits_then (fits_modification (fits_args n)) (λ m. fits_then (fits_comment (fits_balanced n)) (λ _. fits_gives _) refl) refl) refl)

  fits_further_component : (d : Declared) (es : List Element) → Fits (sy s.Comma ∷ []) (3 ∷ sy s.Plus ∷ kw w.KwAnnotation ∷ after_modification) 1 None (λ k. rule.further_component k d es) (λ k. read.further_component k d es) n
  unfolding rule.further_component read.further_component
  fits_further_component d es = fits_then (fits_symbol s.Comma) (λ _. fits_component d es) refl

  fits_components : (d : Declared) (es : List Element) → Fits (0 ∷ []) after_component 1 None (λ k. rule.components k d es) (λ k. read.components k d es) n
  unfolding rule.components read.components
  fits_components d es = fits_as (0 ∷ []) after_component refl refl
      (fits_then (fits_component d es) (λ us. fits_many (is_symbol s.Comma) (sy s.Comma ∷ []) (tells_symbol s.Comma) refl (λ us. fits_further_component d us) refl refl us) refl)

  fits_element : (es : List Element) → Fits element_starts [] 1 None (λ k. rule.element k es) (λ k. read.element k es) n
  unfolding rule.element read.element
  fits_element es = fits_then fits_declared (λ d. fits_then (fits_components d es) (λ all. fits_then (fits_symbol s.Semicolon) (λ _. fits_gives all) refl) refl) refl

  pub fits_elements : (es : List Element) → Fits element_starts element_starts 0 None (λ k. rule.elements k es) (λ k. read.elements k es) n
  unfolding rule.elements
  fits_elements es = fits_as element_starts element_starts refl refl (fits_many begins_element element_starts tells_element refl (λ us. fits_element us) refl refl es)

  fits_right_side : Fits (sy s.Equals ∷ []) after_expr 1 None (λ k. rule_of.right_side k) (λ k. read_of.right_side k) n
  unfolding rule_of.right_side read_of.right_side
  fits_right_side = fits_then (fits_symbol s.Equals) (λ _. fits_level (fits_expr n)) refl

  fits_equal : Fits simple_starts after_expr 1 None (λ k. rule_of.equal k) (λ k. read_of.equal k) n
  unfolding rule_of.equal read_of.equal
  fits_equal = fits_as simple_starts after_expr refl refl (fits_then (fits_simple (fits_expr n)) (λ l. fits_then fits_right_side (λ r. fits_gives _) refl) refl)

  fits_connect : Fits (kw w.KwConnect ∷ []) [] 1 None (λ k. rule_of.connect) (λ k. read_of.connect) n
  unfolding rule_of.connect read_of.connect
  fits_connect = fits_then (fits_word w.KwConnect) (λ _. fits_then (fits_symbol s.RoundOpen) (λ _. fits_then fits_name (λ a. fits_then (fits_symbol s.Comma) (λ _. fits_then fits_name
      (λ b. fits_then (fits_symbol s.RoundClose) (λ _. fits_gives _) refl) refl) refl) refl) refl) refl

  fits_clause_equation : (es : List TreeEq) → Fits simple_starts [] 1 None (λ k. rule_of.clause_equation k es) (λ k. read_of.clause_equation k es) n
  unfolding rule_of.clause_equation read_of.clause_equation
  fits_clause_equation es = fits_then fits_equal (λ e. fits_then (fits_comment (fits_balanced n)) (λ _. fits_then (fits_symbol s.Semicolon) (λ _. fits_gives _) refl) refl) refl

  fits_clause_body : Fits (kw w.KwThen ∷ []) [] 1 None (λ k. rule_of.clause_body k) (λ k. read_of.clause_body k) n
  unfolding rule_of.clause_body read_of.clause_body
  fits_clause_body = fits_then (fits_word w.KwThen) (λ _. fits_then (fits_many begins_simple simple_starts tells_simple refl (λ us. fits_clause_equation us) refl refl [])
      (λ es. fits_then (fits_word w.KwEnd) (λ _. fits_then (fits_word w.KwWhen) (λ _. fits_gives _) refl) refl) refl) refl

  fits_clause : Fits (kw w.KwWhen ∷ []) [] 1 None (λ k. rule_of.clause k) (λ k. read_of.clause k) n
  unfolding rule_of.clause read_of.clause
  fits_clause = fits_then (fits_word w.KwWhen) (λ _. fits_then (fits_level (fits_expr n)) (λ c. fits_then fits_clause_body (λ es. fits_gives _) refl) refl) refl

  fits_any_equation : Fits equation_starts after_expr 1 None (λ k. rule_of.any_equation k) (λ k. read_of.any_equation k) n
  unfolding rule_of.any_equation read_of.any_equation
  fits_any_equation = fits_as equation_starts after_expr refl refl (fits_choose (is_word w.KwWhen) (kw w.KwWhen ∷ []) (tells_word w.KwWhen) fits_clause
      (fits_choose (is_word w.KwConnect) (kw w.KwConnect ∷ []) (tells_word w.KwConnect) fits_connect fits_equal refl refl (omega arith)) refl refl (omega arith))

  fits_equation : (es : List TreeEq) → Fits equation_starts [] 1 None (λ k. rule_of.equation k es) (λ k. read_of.equation k es) n
  unfolding rule_of.equation read_of.equation
  fits_equation es = fits_then fits_any_equation (λ e. fits_then (fits_comment (fits_balanced n)) (λ _. fits_then (fits_symbol s.Semicolon) (λ _. fits_gives _) refl) refl) refl

  pub fits_equations : (es : List TreeEq) → Fits equation_starts equation_starts 0 None (λ k. rule_of.equations k es) (λ k. read_of.equations k es) n
  unfolding rule_of.equations
  fits_equations es = fits_as equation_starts equation_starts refl refl (fits_many begins_equation equation_starts tells_equation refl (λ us. fits_equation us) refl refl es)
