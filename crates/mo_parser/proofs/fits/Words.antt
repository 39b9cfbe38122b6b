-- Which kinds of tokens begin comments, elements, equations and classes.
use Rattle.std.proofs.Common.{None, ◌≡◌, ◌∙◌, ◌+◌, ◌++◌, ◌&&◌, ℕ, zero, suc, Bool, true, false, is_some, List, [], ◌∷◌, Some, refl, sym}
use Rattle.std.proofs.lemmas.Slice.Eq.{bytes_eq-Decides}
use Rattle.std.specs.Str.{bytes_eq}
use Rattle.mo_lexer.specs.declared.token.Token.{Token}
use Rattle.mo_lexer.specs.declared.token.TokenKind.{TokenKind}
use Rattle.mo_lexer.specs.declared.token.TokenKind.TheVariants as k
use Rattle.mo_lexer.specs.declared.token.Word.TheVariants as w
use Rattle.mo_lexer.specs.declared.token.Sym.TheVariants as s
use Rattle.mo_parser.specs.declared.tree.Variability.TheVariants as variability
use Rattle.mo_parser.specs.declared.tree.Causality.TheVariants as causality
use Rattle.mo_parser.specs.declared.tree.ClassKind.TheVariants as class
use Rattle.mo_parser.specs.grammar.Kinds.{causality_by, causality_of, class_by, class_of, is_ident, is_plain, plain_by, variability_by, variability_of, visibility_by, visibility_of, when}
use Rattle.mo_parser.specs.reading.Starts.{balanced_by, begins_balanced, begins_class, begins_element, begins_equation, begins_section, begins_simple, class_start_by, element_by, equation_by, section_by, simple_by}
use Rattle.mo_parser.specs.grammar.Names.{same_name, span_of}
use Rattle.mo_parser.specs.grammar.Spans.{spelled}
use Rattle.mo_parser.specs.grammar.Rules as rule
use Rattle.mo_parser.specs.grammar.Classes as rule_of
use Rattle.mo_parser.specs.reading.Outcomes as read
use Rattle.mo_parser.specs.reading.Classes as read_of
use Rattle.mo_parser.proofs.rules.Fits.{Fits}
use Rattle.mo_parser.proofs.rules.Kinds.{among, kw, sy, tag}
use Rattle.mo_parser.proofs.rules.Choose.{Tells}
use Rattle.mo_parser.proofs.rules.One.{fits_one}
use Rattle.mo_parser.proofs.fits.Tests.{example, taken, tells_ident}
use Rattle.mo_parser.proofs.fits.Operators.{valued}

unfoldable pub every_other : ℕ → ℕ → List ℕ
every_other zero a = []
every_other (suc n) a = a ∷ every_other n (a + 2)

-- all kinds but End and brackets: others, the 59 words, and the symbols from the comma on
abbrev pub plains : List ℕ
plains = 0 ∷ 1 ∷ 2 ∷ 3 ∷ every_other 59 10 ++ every_other 17 (sy s.Comma)

abbrev pub pieces_start : List ℕ
pieces_start = sy s.RoundOpen ∷ sy s.CurlyOpen ∷ sy s.SquareOpen ∷ plains

abbrev pub variabilities : List ℕ
variabilities = kw w.KwParameter ∷ kw w.KwConstant ∷ kw w.KwDiscrete ∷ []

abbrev pub causalities : List ℕ
causalities = kw w.KwInput ∷ kw w.KwOutput ∷ []

abbrev pub element_starts : List ℕ
element_starts = variabilities ++ causalities ++ 0 ∷ []

abbrev pub simple_starts : List ℕ
simple_starts = sy s.Plus ∷ sy s.Minus ∷ kw w.KwNot ∷ 1 ∷ kw w.KwTrue ∷ kw w.KwFalse ∷ sy s.RoundOpen ∷ 0 ∷ []

abbrev pub equation_starts : List ℕ
equation_starts = kw w.KwWhen ∷ kw w.KwConnect ∷ simple_starts

abbrev pub visibilities : List ℕ
visibilities = kw w.KwPublic ∷ kw w.KwProtected ∷ []

abbrev pub section_starts : List ℕ
section_starts = kw w.KwEquation ∷ visibilities

abbrev pub long_starts : List ℕ
long_starts = kw w.KwModel ∷ kw w.KwBlock ∷ kw w.KwClass ∷ []

abbrev pub class_starts : List ℕ
class_starts = kw w.KwConnector ∷ long_starts

plain_tells : (x : TokenKind) → plain_by x ≡ among plains (tag x)
unfolding every_other
plain_tells (k.Symbol s.Less) = refl
plain_tells (k.Keyword w.KwOr) = refl
plain_tells other = refl

balanced_tells : (x : TokenKind) → balanced_by x ≡ among pieces_start (tag x)
unfolding every_other
balanced_tells (k.Symbol s.Less) = refl
balanced_tells (k.Keyword w.KwOr) = refl
balanced_tells other = refl

variability_tells : (x : TokenKind) → is_some (variability_by x) ≡ among variabilities (tag x)
variability_tells (k.Symbol s.Less) = refl
variability_tells (k.Keyword w.KwOr) = refl
variability_tells other = refl

causality_tells : (x : TokenKind) → is_some (causality_by x) ≡ among causalities (tag x)
causality_tells (k.Symbol s.Less) = refl
causality_tells (k.Keyword w.KwOr) = refl
causality_tells other = refl

class_tells : (x : TokenKind) → is_some (class_by x) ≡ among long_starts (tag x)
class_tells (k.Symbol s.Less) = refl
class_tells (k.Keyword w.KwOr) = refl
class_tells other = refl

visibility_tells : (x : TokenKind) → is_some (visibility_by x) ≡ among visibilities (tag x)
visibility_tells (k.Symbol s.Less) = refl
visibility_tells (k.Keyword w.KwOr) = refl
visibility_tells other = refl

element_tells : (x : TokenKind) → element_by x ≡ among element_starts (tag x)
element_tells (k.Symbol s.Less) = refl
element_tells (k.Keyword w.KwOr) = refl
element_tells other = refl

simple_tells : (x : TokenKind) → simple_by x ≡ among simple_starts (tag x)
simple_tells (k.Symbol s.Less) = refl
simple_tells (k.Keyword w.KwOr) = refl
simple_tells other = refl

equation_tells : (x : TokenKind) → equation_by x ≡ among equation_starts (tag x)
equation_tells (k.Symbol s.Less) = refl
equation_tells (k.Keyword w.KwOr) = refl
equation_tells other = refl

section_tells : (x : TokenKind) → section_by x ≡ among section_starts (tag x)
section_tells (k.Symbol s.Less) = refl
section_tells (k.Keyword w.KwOr) = refl
section_tells other = refl

class_start_tells : (x : TokenKind) → class_start_by x ≡ among class_starts (tag x)
class_start_tells (k.Symbol s.Less) = refl
class_start_tells (k.Keyword w.KwOr) = refl
class_start_tells other = refl

pub tells_plain : Tells is_plain plains
unfolding is_plain
tells_plain t = plain_tells t.kind

pub tells_balanced : Tells begins_balanced pieces_start
unfolding begins_balanced
tells_balanced t = balanced_tells t.kind

pub tells_variability : Tells (λ t. is_some (variability_of t)) variabilities
unfolding variability_of
tells_variability t = variability_tells t.kind

pub tells_causality : Tells (λ t. is_some (causality_of t)) causalities
unfolding causality_of
tells_causality t = causality_tells t.kind

tells_long : Tells (λ t. is_some (class_of t)) long_starts
unfolding class_of
tells_long t = class_tells t.kind

pub tells_visibility : Tells (λ t. is_some (visibility_of t)) visibilities
unfolding visibility_of
tells_visibility t = visibility_tells t.kind

pub tells_element : Tells begins_element element_starts
unfolding begins_element
tells_element t = element_tells t.kind

pub tells_simple : Tells begins_simple simple_starts
unfolding begins_simple
tells_simple t = simple_tells t.kind

pub tells_equation : Tells begins_equation equation_starts
unfolding begins_equation
tells_equation t = equation_tells t.kind

pub tells_section : Tells begins_section section_starts
unfolding begins_section
tells_section t = section_tells t.kind

pub tells_class : Tells begins_class class_starts
unfolding begins_class
tells_class t = class_start_tells t.kind

pub fits_plain : {n : ℕ} → Fits plains [] 1 None (λ _. rule.one (λ t. when (is_plain t) t)) (λ _. read.one (λ t. when (is_plain t) t)) n
unfolding is_plain example every_other
fits_plain = fits_one (λ t. when (is_plain t) t) plains (taken is_plain plains tells_plain refl) refl (example k.Ident) (example k.Ident) refl

pub fits_variability : {n : ℕ} → Fits variabilities [] 1 None (λ _. rule.one variability_of) (λ _. read.one variability_of) n
unfolding variability_of example
fits_variability = fits_one variability_of variabilities (valued variability_of variabilities tells_variability) refl (example (k.Keyword w.KwParameter)) variability.Parameter refl

pub fits_causality : {n : ℕ} → Fits causalities [] 1 None (λ _. rule.one causality_of) (λ _. read.one causality_of) n
unfolding causality_of example
fits_causality = fits_one causality_of causalities (valued causality_of causalities tells_causality) refl (example (k.Keyword w.KwInput)) causality.Input refl

pub fits_class_kind : {n : ℕ} → Fits long_starts [] 1 None (λ _. rule.one class_of) (λ _. read.one class_of) n
unfolding class_of example
fits_class_kind = fits_one class_of long_starts (valued class_of long_starts tells_long) refl (example (k.Keyword w.KwModel)) class.Model refl

pub fits_visibility : {n : ℕ} → Fits visibilities [] 1 None (λ _. rule.one visibility_of) (λ _. read.one visibility_of) n
unfolding visibility_of example
fits_visibility = fits_one visibility_of visibilities (valued visibility_of visibilities tells_visibility) refl (example (k.Keyword w.KwPublic)) tt refl

-- the name of a class once more
same_self : (text : List ℕ) (x y : Token) → spelled text (span_of x) ≡ spelled text (span_of y) → same_name text x y ≡ true
unfolding same_name
same_self text x y e = bytes_same _ _ e
  where
    bytes_same : (xs ys : List ℕ) → xs ≡ ys → bytes_eq xs ys ≡ true
    bytes_same xs ys e = (bytes_eq-Decides xs ys).1 e

own_taken : (text : List ℕ) (x t y : Token) → when (is_ident t && same_name text x t) t ≡ Some y → among (0 ∷ []) (tag t.kind) ≡ true
own_taken text x t y h = go (is_ident t) refl h
  where
    go : (b : Bool) → is_ident t ≡ b → when (b && same_name text x t) t ≡ Some y → among (0 ∷ []) (tag t.kind) ≡ true
    go true e h = sym (tells_ident t) ∙ e
    go false e h = cc

pub fits_same_ident : {n : ℕ} (text : List ℕ) (x : Token) → Fits (0 ∷ []) [] 1 None (λ _. rule_of.same_ident text x) (λ _. read_of.same_ident text x) n
unfolding rule_of.same_ident read_of.same_ident is_ident
fits_same_ident text x =
    let y : Token = record { kind = k.Ident; at = x.at; end = x.end } in
    let same : same_name text x y ≡ true = same_self text x y refl in
    fits_one (λ t. when (is_ident t && same_name text x t) t) (0 ∷ []) (own_taken text x) refl y y (rw same refl)
