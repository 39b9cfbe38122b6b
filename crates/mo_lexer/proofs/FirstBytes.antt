-- Which kinds of piece a first byte leaves.
use Rattle.std.proofs.Common.{◌≡◌, ◌≢◌, ◌&&◌, ◌==◌, ◌⊎◌, inl, inr, ◌∙◌, ℕ, Bool, true, false, not, List, ◌∷◌, refl, ap, sym, subst, arith}
use Rattle.std.proofs.lemmas.Bool.Decides.{nat_tests}
use Rattle.mo_lexer.specs.declared.piece.Piece.{Piece}
use Rattle.mo_lexer.specs.declared.piece.Piece.TheVariants as piece
use Rattle.mo_lexer.specs.declared.token.Sym.{Sym}
use Rattle.mo_lexer.specs.Bytes.{is_separator, is_letter, is_digit}
use Rattle.mo_lexer.specs.Spelling.{Spells}
use Rattle.mo_lexer.specs.private.Front.{is_other}
use Rattle.mo_lexer.proofs.Pieces.{both, is_mark, starts}

-- ---- what a byte cannot be besides

pub not_both : {x : Bool} → x ≡ true → not x ≡ true → ⊥
not_both h k = cc

mark_separates : (b : ℕ) → is_mark b ≡ true → is_separator b ≡ true → ⊥
mark_separates b m h = let rest = both (not (is_letter b)) _ m in not_both h (both (not (is_separator b)) _ rest.1).0

mark_letter : (b : ℕ) → is_mark b ≡ true → is_letter b ≡ true → ⊥
mark_letter b m h = not_both h (both (not (is_letter b)) _ m).0

mark_digit : (b : ℕ) → is_mark b ≡ true → is_digit b ≡ true → ⊥
mark_digit b m h =
    let rest = both (not (is_letter b)) _ m in let more = both (not (is_separator b)) _ rest.1 in not_both h (both (not (is_digit b)) _ more.1).0

separator_letter : (b : ℕ) → is_separator b ≡ true → is_letter b ≡ true → ⊥
separator_letter b h k = grind (arith, nat_tests)

separator_digit : (b : ℕ) → is_separator b ≡ true → is_digit b ≡ true → ⊥
separator_digit b h k = grind (arith, nat_tests)

letter_digit : (b : ℕ) → is_letter b ≡ true → is_digit b ≡ true → ⊥
letter_digit b h k = grind (arith, nat_tests)

-- a byte with this value fails the test
is_no : (p : ℕ → Bool) (b c : ℕ) → p b ≡ true → b ≡ c → p c ≡ false → ⊥
is_no p b c h same fails = let here = ap p (sym same) ∙ h in cc

-- ---- the kinds

pub separator_only : (other : Piece) (b : ℕ) (q : List ℕ) → is_separator b ≡ true → Spells other (b ∷ q) → piece.Separator ≡ other
separator_only piece.Separator b q first h = refl
separator_only piece.Comment b q first h = absurd (is_no is_separator b 47 first (starts piece.Comment b q h) refl)
separator_only piece.Unended b q first h = elim (starts piece.Unended b q h) [ inl e ↦ absurd (is_no is_separator b 47 first e refl) | inr e ↦ absurd (is_no is_separator b 34 first e refl) ]
separator_only piece.Word b q first h = absurd (separator_letter b first (starts piece.Word b q h))
separator_only piece.Integer b q first h = absurd (separator_digit b first (starts piece.Integer b q h))
separator_only piece.Real b q first h = absurd (separator_digit b first (starts piece.Real b q h))
separator_only piece.Text b q first h = absurd (is_no is_separator b 34 first (starts piece.Text b q h) refl)
separator_only (piece.Symbol s) b q first h = absurd (mark_separates b (starts (piece.Symbol s) b q h) first)

pub word_only : (other : Piece) (b : ℕ) (q : List ℕ) → is_letter b ≡ true → Spells other (b ∷ q) → piece.Word ≡ other
word_only piece.Separator b q first h = absurd (separator_letter b (starts piece.Separator b q h) first)
word_only piece.Comment b q first h = absurd (is_no is_letter b 47 first (starts piece.Comment b q h) refl)
word_only piece.Unended b q first h = elim (starts piece.Unended b q h) [ inl e ↦ absurd (is_no is_letter b 47 first e refl) | inr e ↦ absurd (is_no is_letter b 34 first e refl) ]
word_only piece.Word b q first h = refl
word_only piece.Integer b q first h = absurd (letter_digit b first (starts piece.Integer b q h))
word_only piece.Real b q first h = absurd (letter_digit b first (starts piece.Real b q h))
word_only piece.Text b q first h = absurd (is_no is_letter b 34 first (starts piece.Text b q h) refl)
word_only (piece.Symbol s) b q first h = absurd (mark_letter b (starts (piece.Symbol s) b q h) first)

pub digit_only : (other : Piece) (b : ℕ) (q : List ℕ) → is_digit b ≡ true → Spells other (b ∷ q) → (piece.Integer ≡ other) ⊎ (piece.Real ≡ other)
digit_only piece.Separator b q first h = absurd (separator_digit b (starts piece.Separator b q h) first)
digit_only piece.Comment b q first h = absurd (is_no is_digit b 47 first (starts piece.Comment b q h) refl)
digit_only piece.Unended b q first h = elim (starts piece.Unended b q h) [ inl e ↦ absurd (is_no is_digit b 47 first e refl) | inr e ↦ absurd (is_no is_digit b 34 first e refl) ]
digit_only piece.Word b q first h = absurd (letter_digit b (starts piece.Word b q h) first)
digit_only piece.Integer b q first h = inl refl
digit_only piece.Real b q first h = inr refl
digit_only piece.Text b q first h = absurd (is_no is_digit b 34 first (starts piece.Text b q h) refl)
digit_only (piece.Symbol s) b q first h = absurd (mark_digit b (starts (piece.Symbol s) b q h) first)

pub quote_only : (other : Piece) (b : ℕ) (q : List ℕ) → b ≡ 34 → Spells other (b ∷ q) → (piece.Text ≡ other) ⊎ (piece.Unended ≡ other)
quote_only piece.Separator b q e h = absurd (is_no is_separator b 34 (starts piece.Separator b q h) e refl)
quote_only piece.Comment b q e h = let slash = starts piece.Comment b q h in absurd (omega (arith, slash, e))
quote_only piece.Unended b q e h = inr refl
quote_only piece.Word b q e h = absurd (is_no is_letter b 34 (starts piece.Word b q h) e refl)
quote_only piece.Integer b q e h = absurd (is_no is_digit b 34 (starts piece.Integer b q h) e refl)
quote_only piece.Real b q e h = absurd (is_no is_digit b 34 (starts piece.Real b q h) e refl)
quote_only piece.Text b q e h = inl refl
quote_only (piece.Symbol s) b q e h = absurd (is_no is_mark b 34 (starts (piece.Symbol s) b q h) e refl)

pub slash_only : (other : Piece) (b : ℕ) (q : List ℕ) → b ≡ 47 → Spells other (b ∷ q) → (piece.Comment ≡ other) ⊎ ((piece.Unended ≡ other) ⊎ ((s : Sym) × (piece.Symbol s ≡ other)))
slash_only piece.Separator b q e h = absurd (is_no is_separator b 47 (starts piece.Separator b q h) e refl)
slash_only piece.Comment b q e h = inl refl
slash_only piece.Unended b q e h = inr (inl refl)
slash_only piece.Word b q e h = absurd (is_no is_letter b 47 (starts piece.Word b q h) e refl)
slash_only piece.Integer b q e h = absurd (is_no is_digit b 47 (starts piece.Integer b q h) e refl)
slash_only piece.Real b q e h = absurd (is_no is_digit b 47 (starts piece.Real b q h) e refl)
slash_only piece.Text b q e h = let quote = starts piece.Text b q h in absurd (omega (arith, quote, e))
slash_only (piece.Symbol s) b q e h = inr (inr (s, refl))

-- a byte that begins no word, number, Text, separator or comment fails each of these tests
parts : (b : ℕ) → is_other b ≡ true → (not (is_letter b) ≡ true) × (not (is_separator b) ≡ true) × (not (is_digit b) ≡ true) × (b ≢ 34) × (b ≢ 47)
parts b h =
    let four = both (not (is_letter b) && not (is_separator b) && not (is_digit b) && not (b == 34)) (not (b == 47)) h in
    let three = both (not (is_letter b) && not (is_separator b) && not (is_digit b)) (not (b == 34)) four.0 in
    let two = both (not (is_letter b) && not (is_separator b)) (not (is_digit b)) three.0 in
    let one = both (not (is_letter b)) (not (is_separator b)) two.0 in
    (one.0, one.1, two.1, (λ e. let same : b == 34 ≡ true = grind (arith, nat_tests) in not_both same three.1), (λ e. let same : b == 47 ≡ true = grind (arith, nat_tests) in not_both same four.1))

pub symbol_only : (other : Piece) (b : ℕ) (q : List ℕ) → is_other b ≡ true → Spells other (b ∷ q) → (s : Sym) × (piece.Symbol s ≡ other)
symbol_only piece.Separator b q is h = absurd (not_both (starts piece.Separator b q h) (parts b is).1)
symbol_only piece.Comment b q is h = absurd ((parts b is).4 (starts piece.Comment b q h))
symbol_only piece.Unended b q is h = elim (starts piece.Unended b q h) [ inl e ↦ absurd ((parts b is).4 e) | inr e ↦ absurd ((parts b is).3 e) ]
symbol_only piece.Word b q is h = absurd (not_both (starts piece.Word b q h) (parts b is).0)
symbol_only piece.Integer b q is h = absurd (not_both (starts piece.Integer b q h) (parts b is).2)
symbol_only piece.Real b q is h = absurd (not_both (starts piece.Real b q h) (parts b is).2)
symbol_only piece.Text b q is h = absurd ((parts b is).3 (starts piece.Text b q h))
symbol_only (piece.Symbol s) b q is h = (s, refl)

-- what a piece spells, it spells under its own name
pub spelled_as : {kind other : Piece} (p : List ℕ) → kind ≡ other → Spells other p → Spells kind p
spelled_as p e h = let P : Piece → Type 0 = λ k. Spells k p in subst P (sym e) h
