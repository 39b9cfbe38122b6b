-- Classes and the file.
use Rattle.std.proofs.Common.{None, ◌++◌, ℕ, List, [], ◌∷◌, is_some, refl, arith}
use Rattle.mo_lexer.specs.declared.token.Token.{Token}
use Rattle.mo_lexer.specs.declared.token.Word.TheVariants as w
use Rattle.mo_lexer.specs.declared.token.Sym.TheVariants as s
use Rattle.mo_parser.specs.declared.tree.ClassDef.{ClassDef}
use Rattle.mo_parser.specs.declared.grammar.parts.Body.{Body}
use Rattle.mo_parser.specs.grammar.Kinds.{is_ident, is_symbol, is_word, visibility_of}
use Rattle.mo_parser.specs.reading.Starts.{begins_class, begins_section}
use Rattle.mo_parser.specs.grammar.Classes as rule
use Rattle.mo_parser.specs.reading.Classes as read
use Rattle.mo_parser.proofs.rules.Fits.{Fits, fits_as}
use Rattle.mo_parser.proofs.rules.Kinds.{kw, sy}
use Rattle.mo_parser.proofs.rules.Gives.{fits_gives}
use Rattle.mo_parser.proofs.rules.Then.{fits_then}
use Rattle.mo_parser.proofs.rules.Choose.{fits_choose}
use Rattle.mo_parser.proofs.rules.Many.{fits_many}
use Rattle.mo_parser.proofs.fits.Tests.{fits_ident, fits_symbol, fits_word, tells_ident, tells_symbol, tells_word}
use Rattle.mo_parser.proofs.fits.Names.{fits_name}
use Rattle.mo_parser.proofs.fits.Words.{class_starts, element_starts, equation_starts, fits_class_kind, fits_same_ident, fits_visibility, long_starts, section_starts, tells_class, tells_section, tells_visibility, visibilities}
use Rattle.mo_parser.proofs.fits.Comments.{fits_balanced, fits_comment, fits_note, fits_some_texts}
use Rattle.mo_parser.proofs.fits.Modifications.{fits_args, fits_in_brackets}
use Rattle.mo_parser.proofs.fits.Elements.{fits_elements, fits_equations, fits_some_causality}

fits_within : {n : ℕ} → Fits (kw w.KwWithin ∷ []) [] 1 None (λ _. rule.within) (λ _. read.within) n
unfolding rule.within read.within
fits_within = fits_then (fits_word w.KwWithin) (λ _. fits_then (fits_choose is_ident (0 ∷ []) tells_ident (fits_then fits_name (λ _. fits_gives tt) refl) (fits_gives tt) refl refl (omega arith))
    (λ _. fits_then (fits_symbol s.Semicolon) (λ _. fits_gives tt) refl) refl) refl

module _ {n : ℕ} where
  fits_section : (b : Body) → Fits section_starts (element_starts ++ equation_starts) 1 None (λ k. rule.section k b) (λ k. read.section k b) n
  unfolding rule.section read.section
  fits_section b = fits_as section_starts (element_starts ++ equation_starts) refl refl (fits_choose (λ t. is_some (visibility_of t)) visibilities tells_visibility
      (fits_then fits_visibility (λ _. fits_then (fits_elements b.elements) (λ es. fits_gives _) refl) refl)
      (fits_then (fits_word w.KwEquation) (λ _. fits_then (fits_equations b.equations) (λ es. fits_gives _) refl) refl) refl refl (omega arith))

  fits_last_note : Fits (kw w.KwAnnotation ∷ []) [] 1 None (λ k. rule.last_note k) (λ k. read.last_note k) n
  unfolding rule.last_note read.last_note
  fits_last_note = fits_then (fits_note (fits_balanced n)) (λ _. fits_then (fits_symbol s.Semicolon) (λ _. fits_gives tt) refl) refl

  fits_short_args : Fits (sy s.RoundOpen ∷ []) (sy s.RoundOpen ∷ []) 0 None (λ k. rule.short_args k) (λ k. read.short_args k) n
  unfolding rule.short_args read.short_args
  fits_short_args = fits_choose (is_symbol s.RoundOpen) (sy s.RoundOpen ∷ []) (tells_symbol s.RoundOpen) (fits_then (fits_symbol s.RoundOpen) (λ _. fits_in_brackets (fits_args n)) refl) (fits_gives []) refl refl (omega arith)

  fits_short : Fits (sy s.Equals ∷ []) (sy s.Dot ∷ sy s.RoundOpen ∷ 3 ∷ sy s.Plus ∷ kw w.KwAnnotation ∷ []) 1 None (λ k. rule.short k) (λ k. read.short k) n
  unfolding rule.short read.short
  fits_short = fits_as (sy s.Equals ∷ []) (sy s.Dot ∷ sy s.RoundOpen ∷ 3 ∷ sy s.Plus ∷ kw w.KwAnnotation ∷ []) refl refl
      (fits_then (fits_symbol s.Equals) (λ _. fits_then fits_some_causality (λ c. fits_then fits_name (λ x. fits_then fits_short_args (λ us. fits_then (fits_comment (fits_balanced n)) (λ _. fits_gives _) refl) refl) refl) refl) refl)

module _ (text : List ℕ) {n : ℕ} where
  fits_ending : (x : Token) → Fits (kw w.KwAnnotation ∷ kw w.KwEnd ∷ []) [] 1 None (λ k. rule.ending text k x) (λ k. read.ending text k x) n
  unfolding rule.ending read.ending
  fits_ending x = fits_then (fits_choose (is_word w.KwAnnotation) (kw w.KwAnnotation ∷ []) (tells_word w.KwAnnotation) (fits_then fits_last_note (λ _. fits_gives tt) refl) (fits_gives tt) refl refl (omega arith))
      (λ _. fits_then (fits_word w.KwEnd) (λ _. fits_then (fits_same_ident text x) (λ _. fits_gives tt) refl) refl) refl

  fits_long : (x : Token) → Fits (3 ∷ element_starts ++ section_starts ++ kw w.KwAnnotation ∷ kw w.KwEnd ∷ []) [] 1 None (λ k. rule.long text k x) (λ k. read.long text k x) n
  unfolding rule.long read.long
  fits_long x = fits_as (3 ∷ element_starts ++ section_starts ++ kw w.KwAnnotation ∷ kw w.KwEnd ∷ []) [] refl refl
      (fits_then fits_some_texts (λ _. fits_then (fits_elements []) (λ es. fits_then (fits_many begins_section section_starts tells_section refl (λ b. fits_section b) refl refl _)
      (λ b. fits_then (fits_ending x) (λ _. fits_gives b) refl) refl) refl) refl)

  fits_plain_class : (x : Token) → Fits (3 ∷ element_starts ++ kw w.KwAnnotation ∷ kw w.KwEnd ∷ []) [] 1 None (λ k. rule.plain text k x) (λ k. read.plain text k x) n
  unfolding rule.plain read.plain
  fits_plain_class x = fits_as (3 ∷ element_starts ++ kw w.KwAnnotation ∷ kw w.KwEnd ∷ []) [] refl refl
      (fits_then fits_some_texts (λ _. fits_then (fits_elements []) (λ es. fits_then (fits_ending x) (λ _. fits_gives _) refl) refl) refl)

  fits_long_class : Fits long_starts [] 1 None (λ k. rule.long_class text k) (λ k. read.long_class text k) n
  unfolding rule.long_class read.long_class
  fits_long_class = fits_then fits_class_kind (λ c. fits_then fits_ident (λ x. fits_then (fits_long x) (λ b. fits_gives _) refl) refl) refl

  fits_connector : Fits (kw w.KwConnector ∷ []) (sy s.Dot ∷ sy s.RoundOpen ∷ 3 ∷ sy s.Plus ∷ kw w.KwAnnotation ∷ []) 1 None (λ k. rule.connector text k) (λ k. read.connector text k) n
  unfolding rule.connector read.connector
  fits_connector = fits_as (kw w.KwConnector ∷ []) (sy s.Dot ∷ sy s.RoundOpen ∷ 3 ∷ sy s.Plus ∷ kw w.KwAnnotation ∷ []) refl refl
      (fits_then (fits_word w.KwConnector) (λ _. fits_then fits_ident (λ x. fits_choose (is_symbol s.Equals) (sy s.Equals ∷ []) (tells_symbol s.Equals)
      (fits_then fits_short (λ sh. fits_gives _) refl) (fits_then (fits_plain_class x) (λ b. fits_gives _) refl) refl refl (omega arith)) refl) refl)

  fits_any_class : Fits class_starts (sy s.Dot ∷ sy s.RoundOpen ∷ 3 ∷ sy s.Plus ∷ kw w.KwAnnotation ∷ []) 1 None (λ k. rule.any_class text k) (λ k. read.any_class text k) n
  unfolding rule.any_class read.any_class
  fits_any_class = fits_as class_starts (sy s.Dot ∷ sy s.RoundOpen ∷ 3 ∷ sy s.Plus ∷ kw w.KwAnnotation ∷ []) refl refl
      (fits_choose (is_word w.KwConnector) (kw w.KwConnector ∷ []) (tells_word w.KwConnector) fits_connector fits_long_class refl refl (omega arith))

  fits_class_line : (cs : List ClassDef) → Fits class_starts [] 1 None (λ k. rule.class_line text k cs) (λ k. read.class_line text k cs) n
  unfolding rule.class_line read.class_line
  fits_class_line cs = fits_then fits_any_class (λ c. fits_then (fits_symbol s.Semicolon) (λ _. fits_gives _) refl) refl

  pub fits_file : Fits (kw w.KwWithin ∷ class_starts) (kw w.KwWithin ∷ class_starts) 0 None (λ k. rule.file text k) (λ k. read.file text k) n
  unfolding rule.file read.file
  fits_file = fits_as (kw w.KwWithin ∷ class_starts) (kw w.KwWithin ∷ class_starts) refl refl
      (fits_then (fits_choose (is_word w.KwWithin) (kw w.KwWithin ∷ []) (tells_word w.KwWithin) (fits_then fits_within (λ _. fits_gives tt) refl) (fits_gives tt) refl refl (omega arith))
      (λ _. fits_then (fits_many begins_class class_starts tells_class refl (λ cs. fits_class_line cs) refl refl []) (λ cs. fits_gives _) refl) refl)
