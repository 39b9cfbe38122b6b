-- Which kinds of tokens the tests on a token tell, and what fits a single token.
use Rattle.std.proofs.Common.{None, ◌≡◌, ◌∙◌, ◌||◌, ℕ, Bool, true, false, nat_eq, List, [], ◌∷◌, Some, refl, sym, arith}
use Rattle.std.proofs.lemmas.Bool.{eqb-true, eq-eqb}
use denote.Enum.Bare.{true_same}
use denote.Enum.Declared.{tag_of}
use Rattle.mo_lexer.specs.declared.token.Token.{Token}
use Rattle.mo_lexer.specs.declared.token.TokenKind.{TokenKind}
use Rattle.mo_lexer.specs.declared.token.TokenKind.TheVariants as k
use Rattle.mo_lexer.specs.declared.token.Word.{Word}
use Rattle.mo_lexer.specs.declared.token.Sym.{Sym}
use Rattle.mo_lexer.specs.contracts.token.Word as the_words
use Rattle.mo_lexer.specs.contracts.token.Sym as the_symbols
use Rattle.mo_parser.specs.grammar.Kinds.{is_ident, is_symbol, is_text, is_word, kind_is_ident, kind_is_symbol, kind_is_text, kind_is_word, same_symbol, same_word, when}
use Rattle.mo_parser.specs.grammar.Names as rule
use Rattle.mo_parser.specs.reading.Names as read
use Rattle.mo_parser.proofs.rules.Fits.{Fits}
use Rattle.mo_parser.proofs.rules.Kinds.{among, kw, sy, tag}
use Rattle.mo_parser.proofs.rules.Choose.{Tells}
use Rattle.mo_parser.proofs.rules.One.{fits_one}

-- two tests of numbers that say the same
same_test : (a b c d : ℕ) → (a ≡ b → c ≡ d) → (c ≡ d → a ≡ b) → nat_eq a b ≡ (nat_eq c d || false)
same_test a b c d there back = go (nat_eq a b) (nat_eq c d) refl refl
  where
    go : (x y : Bool) → nat_eq a b ≡ x → nat_eq c d ≡ y → x ≡ (y || false)
    go true true e f = refl
    go false false e f = refl
    go true false e f = let g : nat_eq c d ≡ true = eq-eqb c d (there (eqb-true a b e)) in cc
    go false true e f = let g : nat_eq a b ≡ true = eq-eqb a b (back (eqb-true c d f)) in cc

not_same : (c d : ℕ) → (c ≡ d → ⊥) → false ≡ (nat_eq c d || false)
not_same c d other = go (nat_eq c d) refl
  where
    go : (y : Bool) → nat_eq c d ≡ y → false ≡ (y || false)
    go true f = absurd (other (eqb-true c d f))
    go false f = refl

symbol_by : (x : Sym) (found : TokenKind) → kind_is_symbol x found ≡ among (sy x ∷ []) (tag found)
unfolding same_symbol
symbol_by x (k.Symbol f) = same_test (tag_of the_symbols.the_type f) (tag_of the_symbols.the_type x) (sy x) (sy f) (λ e. omega (arith, e)) (λ e. omega (arith, e))
symbol_by x (k.Keyword f) = not_same (sy x) (kw f) (λ e. omega (arith, e))
symbol_by x k.Ident = not_same (sy x) 0 (λ e. omega (arith, e))
symbol_by x (k.Integer n) = not_same (sy x) 1 (λ e. omega (arith, e))
symbol_by x k.Real = not_same (sy x) 2 (λ e. omega (arith, e))
symbol_by x k.Text = not_same (sy x) 3 (λ e. omega (arith, e))
symbol_by x k.End = not_same (sy x) 4 (λ e. omega (arith, e))

word_by : (x : Word) (found : TokenKind) → kind_is_word x found ≡ among (kw x ∷ []) (tag found)
unfolding same_word
word_by x (k.Keyword f) = same_test (tag_of the_words.the_type f) (tag_of the_words.the_type x) (kw x) (kw f) (λ e. omega (arith, e)) (λ e. omega (arith, e))
word_by x (k.Symbol f) = not_same (kw x) (sy f) (λ e. omega (arith, e))
word_by x k.Ident = not_same (kw x) 0 (λ e. omega (arith, e))
word_by x (k.Integer n) = not_same (kw x) 1 (λ e. omega (arith, e))
word_by x k.Real = not_same (kw x) 2 (λ e. omega (arith, e))
word_by x k.Text = not_same (kw x) 3 (λ e. omega (arith, e))
word_by x k.End = not_same (kw x) 4 (λ e. omega (arith, e))

ident_by : (found : TokenKind) → kind_is_ident found ≡ among (0 ∷ []) (tag found)
ident_by k.Ident = refl
ident_by (k.Keyword f) = not_same 0 (kw f) (λ e. omega (arith, e))
ident_by (k.Symbol f) = not_same 0 (sy f) (λ e. omega (arith, e))
ident_by other = refl

text_by : (found : TokenKind) → kind_is_text found ≡ among (3 ∷ []) (tag found)
text_by k.Text = refl
text_by (k.Keyword f) = not_same 3 (kw f) (λ e. omega (arith, e))
text_by (k.Symbol f) = not_same 3 (sy f) (λ e. omega (arith, e))
text_by other = refl

pub tells_symbol : (x : Sym) → Tells (is_symbol x) (sy x ∷ [])
unfolding is_symbol
tells_symbol x t = symbol_by x t.kind

pub tells_word : (x : Word) → Tells (is_word x) (kw x ∷ [])
unfolding is_word
tells_word x t = word_by x t.kind

pub tells_ident : Tells is_ident (0 ∷ [])
unfolding is_ident
tells_ident t = ident_by t.kind

pub tells_text : Tells is_text (3 ∷ [])
unfolding is_text
tells_text t = text_by t.kind

-- a token that is taken where a test holds
module _ (test : Token → Bool) (ms : List ℕ) (tells : Tells test ms) (no_end : among ms 4 ≡ false) where
  pub taken : (t x : Token) → when (test t) t ≡ Some x → among ms (tag t.kind) ≡ true
  taken t x h = go (test t) refl h
    where
      go : (b : Bool) → test t ≡ b → when b t ≡ Some x → among ms (tag t.kind) ≡ true
      go true e h = sym (tells t) ∙ e
      go false e h = cc

unfoldable pub example : TokenKind → Token
example kind = record { kind = kind; at = 0; end = 0 }

pub fits_symbol : {n : ℕ} (x : Sym) → Fits (sy x ∷ []) [] 1 None (λ _. rule.symbol x) (λ _. read.symbol x) n
unfolding rule.symbol read.symbol is_symbol same_symbol example
fits_symbol x =
    let yes : is_symbol x (example (k.Symbol x)) ≡ true = true_same the_symbols.the_type x x refl in
    let no_end : among (sy x ∷ []) 4 ≡ false = sym (not_same (sy x) 4 (λ e. omega (arith, e))) in
    fits_one (λ t. when (is_symbol x t) t) (sy x ∷ []) (taken (is_symbol x) (sy x ∷ []) (tells_symbol x) no_end) no_end (example (k.Symbol x)) (example (k.Symbol x)) (rw yes refl)

pub fits_word : {n : ℕ} (x : Word) → Fits (kw x ∷ []) [] 1 None (λ _. rule.word x) (λ _. read.word x) n
unfolding rule.word read.word is_word same_word example
fits_word x =
    let yes : is_word x (example (k.Keyword x)) ≡ true = true_same the_words.the_type x x refl in
    let no_end : among (kw x ∷ []) 4 ≡ false = sym (not_same (kw x) 4 (λ e. omega (arith, e))) in
    fits_one (λ t. when (is_word x t) t) (kw x ∷ []) (taken (is_word x) (kw x ∷ []) (tells_word x) no_end) no_end (example (k.Keyword x)) (example (k.Keyword x)) (rw yes refl)

pub fits_ident : {n : ℕ} → Fits (0 ∷ []) [] 1 None (λ _. rule.ident) (λ _. read.ident) n
unfolding rule.ident read.ident is_ident example
fits_ident = fits_one (λ t. when (is_ident t) t) (0 ∷ []) (taken is_ident (0 ∷ []) tells_ident refl) refl (example k.Ident) (example k.Ident) refl

pub fits_text : {n : ℕ} → Fits (3 ∷ []) [] 1 None (λ _. rule.text) (λ _. read.text) n
unfolding rule.text read.text is_text example
fits_text = fits_one (λ t. when (is_text t) t) (3 ∷ []) (taken is_text (3 ∷ []) tells_text refl) refl (example k.Text) (example k.Text) refl
