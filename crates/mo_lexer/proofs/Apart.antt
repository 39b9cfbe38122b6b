-- Two pieces with the same bytes are of one kind.
use Rattle.std.proofs.Common.{◌≡◌, ◌≤◌, ◌+◌, ◌++◌, ◌⊎◌, inl, inr, ◌∙◌, ℕ, Bool, true, false, cond, List, [], ◌∷◌, length, drop, slice_index, refl, ap, sym, subst, arith, Option, Some, None, bytes_eq, length-append}
use Rattle.std.specs.List.{list_all}
use Rattle.std.proofs.lemmas.List.Folds.{list_all-append}
use Rattle.std.proofs.lemmas.Bool.Decides.{nat_tests}
use Rattle.std.proofs.lemmas.Slice.Eq.{bytes_eq-Decides}
use Rattle.std.proofs.Math.Seq.{get_or-append_seam}
use Rattle.mo_lexer.specs.declared.piece.Piece.{Piece}
use Rattle.mo_lexer.specs.declared.piece.Piece.TheVariants as piece
use Rattle.mo_lexer.specs.declared.token.Sym.{Sym}
use Rattle.mo_lexer.specs.declared.token.Sym.TheVariants as sym_of
use Rattle.mo_lexer.specs.Bytes.{is_digit}
use Rattle.mo_lexer.specs.Spelling.{Spells, IsRun, IsExponent, IsPointed, IsScaled, IsText, IsOpenText, IsLineComment, IsBlockComment, IsOpenComment, symbol_bytes}
use Rattle.mo_lexer.proofs.Pieces.{both, starts, some_bytes}
use Rattle.mo_lexer.proofs.FirstBytes.{separator_only, word_only, digit_only, quote_only, slash_only, spelled_as}
use Rattle.mo_lexer.proofs.Numbers.{letter_first, no_letters}
use Rattle.mo_lexer.proofs.Quotes.{quoted_first, not_slash}
use Rattle.mo_lexer.proofs.Comments.{line_or_block, slash_symbol, not_quote}

-- ---- numbers

all_behind : (ds r : List ℕ) → list_all is_digit (ds ++ r) ≡ true → list_all is_digit r ≡ true
all_behind ds r h = (both (list_all is_digit ds) (list_all is_digit r) (sym (list_all-append is_digit ds r) ∙ h)).1

exponent_digits : (q : List ℕ) → IsExponent q → list_all is_digit q ≡ true → ⊥
exponent_digits [] x h = no_letters x
exponent_digits (b ∷ q) x h = let letter = letter_first b q x in let digit = (both (is_digit b) (list_all is_digit q) h).0 in grind (arith, nat_tests)

number_apart : (p : List ℕ) → IsRun is_digit p → IsPointed p ⊎ IsScaled p → ⊥
number_apart p run (inl r) = let rest = all_behind r.digits (46 ∷ (r.places ++ r.exponent)) (ap (list_all is_digit) (sym r.whole) ∙ run.1) in cc
number_apart p run (inr r) = exponent_digits r.exponent r.exponent_right (all_behind r.digits r.exponent (ap (list_all is_digit) (sym r.whole) ∙ run.1))

-- ---- Texts

text_apart : (p : List ℕ) → IsText p → IsOpenText p → ⊥
text_apart p x y = go y.last_right
  where
    same : x.inside ++ 34 ∷ [] ≡ y.inside ++ y.last
    same = ap (drop 1) (sym x.whole ∙ y.whole)

    least : length y.inside ≤ length x.inside
    least = quoted_first x.inside y.inside [] y.last x.inside_right y.inside_right same

    sizes : length x.inside + 1 ≡ length y.inside + length y.last
    sizes = omega (arith, ap length same, length-append x.inside (34 ∷ []), length-append y.inside y.last)

    go : (y.last ≡ []) ⊎ (y.last ≡ 92 ∷ []) → ⊥
    go (inl none) = omega (arith, least, sizes, ap length none)
    go (inr slash) =
        let level : length x.inside ≡ length y.inside = omega (arith, sizes, ap length slash) in
        let quote : slice_index (x.inside ++ 34 ∷ []) (length x.inside) ≡ 34 = get_or-append_seam x.inside 34 [] 0 in
        let back : slice_index (y.inside ++ 92 ∷ []) (length y.inside) ≡ 92 = get_or-append_seam y.inside 92 [] 0 in
        let one : slice_index (x.inside ++ 34 ∷ []) (length x.inside) ≡ slice_index (y.inside ++ 92 ∷ []) (length y.inside) = (λ i. slice_index ((same ∙ ap (λ z. y.inside ++ z) slash) i) (level i)) in
        omega (arith, quote, back, one)

text_unended : (b : ℕ) (q : List ℕ) → b ≡ 34 → IsText (b ∷ q) → IsOpenComment (b ∷ q) ⊎ IsOpenText (b ∷ q) → ⊥
text_unended b q e x (inl y) = not_slash b q e y
text_unended b q e x (inr y) = text_apart (b ∷ q) x y

-- ---- comments

comment_unended : (b : ℕ) (q : List ℕ) → b ≡ 47 → IsLineComment (b ∷ q) ⊎ IsBlockComment (b ∷ q) → IsOpenComment (b ∷ q) ⊎ IsOpenText (b ∷ q) → ⊥
comment_unended b q e (inl x) (inl y) = line_or_block x.inside y.inside (sym x.whole ∙ y.whole)
comment_unended b q e (inr x) (inl y) = y.unended x.inside [] (ap (drop 2) (sym y.whole ∙ x.whole))
comment_unended b q e x (inr y) = not_quote b q e y

comment_long : (b : ℕ) (q : List ℕ) → IsLineComment (b ∷ q) ⊎ IsBlockComment (b ∷ q) → 2 ≤ length (b ∷ q)
comment_long b q (inl x) = omega (arith, ap length x.whole)
comment_long b q (inr x) = omega (arith, ap length x.whole)

open_long : (b : ℕ) (q : List ℕ) → IsOpenComment (b ∷ q) → 2 ≤ length (b ∷ q)
open_long b q x = omega (arith, ap length x.whole)

-- ---- symbols

all_symbols : List Sym
all_symbols =
    sym_of.RoundOpen ∷ sym_of.RoundClose ∷ sym_of.CurlyOpen ∷ sym_of.CurlyClose ∷ sym_of.SquareOpen ∷ sym_of.SquareClose ∷ sym_of.Comma ∷ sym_of.Semicolon ∷ sym_of.Colon ∷ sym_of.Dot ∷ sym_of.Equals ∷ sym_of.Equal
    ∷ sym_of.Unequal ∷ sym_of.Less ∷ sym_of.LessEq ∷ sym_of.Greater ∷ sym_of.GreaterEq ∷ sym_of.Plus ∷ sym_of.Minus ∷ sym_of.Times ∷ sym_of.Over ∷ sym_of.Power ∷ sym_of.Assign ∷ []

found_in : List Sym → List ℕ → Option Sym
found_in [] bytes = None
found_in (s ∷ symbols) bytes = cond (bytes_eq (symbol_bytes s) bytes) (Some s) (found_in symbols bytes)

-- the symbol of these bytes, if there is one
pub symbol_of : List ℕ → Option Sym
symbol_of bytes = found_in all_symbols bytes

pub symbol_found : (s : Sym) → symbol_of (symbol_bytes s) ≡ Some s
unfolding symbol_of found_in all_symbols
symbol_found sym_of.RoundOpen = refl
symbol_found _ = refl

found_right : (symbols : List Sym) (bytes : List ℕ) (s : Sym) → found_in symbols bytes ≡ Some s → symbol_bytes s ≡ bytes
unfolding found_in
found_right [] bytes s h = cc
found_right (x ∷ symbols) bytes s h = go (bytes_eq (symbol_bytes x) bytes) refl h (found_right symbols bytes s)
  where
    go : (b : Bool) → bytes_eq (symbol_bytes x) bytes ≡ b → cond b (Some x) (found_in symbols bytes) ≡ Some s → (found_in symbols bytes ≡ Some s → symbol_bytes s ≡ bytes) → symbol_bytes s ≡ bytes
    go true is same later =
        let this : x ≡ s = cc in
        let equal : symbol_bytes x ≡ bytes = (bytes_eq-Decides (symbol_bytes x) bytes).0 is in
        subst (λ z. symbol_bytes z ≡ bytes) this equal
    go false is same later = later same

pub symbol_right : (bytes : List ℕ) (s : Sym) → symbol_of bytes ≡ Some s → symbol_bytes s ≡ bytes
unfolding symbol_of
symbol_right bytes s h = found_right all_symbols bytes s h

symbols_same : (s s' : Sym) → symbol_bytes s ≡ symbol_bytes s' → piece.Symbol s ≡ piece.Symbol s'
symbols_same s s' e = let same : Some s ≡ Some s' = sym (symbol_found s) ∙ ap symbol_of e ∙ symbol_found s' in cc

-- ---- all kinds

comment_symbol : (b : ℕ) (q : List ℕ) (s : Sym) → b ≡ 47 → b ∷ q ≡ symbol_bytes s → 2 ≤ length (b ∷ q) → ⊥
comment_symbol b q s e h long = let short = slash_symbol b q s e h in omega (arith, short, long)

of_symbol : (s : Sym) (other : Piece) (b : ℕ) (q : List ℕ) → b ∷ q ≡ symbol_bytes s → Spells other (b ∷ q) → piece.Symbol s ≡ other
of_symbol s piece.Separator b q h k = let e = separator_only (piece.Symbol s) b q (starts piece.Separator b q k) h in cc
of_symbol s piece.Comment b q h k = absurd (comment_symbol b q s (starts piece.Comment b q k) h (comment_long b q k))
of_symbol s piece.Unended b q h (inl k) = absurd (comment_symbol b q s (ap (λ z. slice_index z 0) k.whole) h (open_long b q k))
of_symbol s piece.Unended b q h (inr k) = elim (quote_only (piece.Symbol s) b q (ap (λ z. slice_index z 0) k.whole) h) [ inl e ↦ cc | inr e ↦ cc ]
of_symbol s piece.Word b q h k = let e = word_only (piece.Symbol s) b q (starts piece.Word b q k) h in cc
of_symbol s piece.Integer b q h k = elim (digit_only (piece.Symbol s) b q (starts piece.Integer b q k) h) [ inl e ↦ cc | inr e ↦ cc ]
of_symbol s piece.Real b q h k = elim (digit_only (piece.Symbol s) b q (starts piece.Real b q k) h) [ inl e ↦ cc | inr e ↦ cc ]
of_symbol s piece.Text b q h k = elim (quote_only (piece.Symbol s) b q (starts piece.Text b q k) h) [ inl e ↦ cc | inr e ↦ cc ]
of_symbol s (piece.Symbol s') b q h k = symbols_same s s' (sym h ∙ k)

of_unended : (other : Piece) (b : ℕ) (q : List ℕ) → IsOpenComment (b ∷ q) ⊎ IsOpenText (b ∷ q) → Spells other (b ∷ q) → piece.Unended ≡ other
of_unended other b q (inl h) k = elim (slash_only other b q (ap (λ z. slice_index z 0) h.whole) k) [
  | inl e ↦ absurd (comment_unended b q (ap (λ z. slice_index z 0) h.whole) (spelled_as (b ∷ q) e k) (inl h))
  | inr (inl e) ↦ e
  | inr (inr (s, e)) ↦ absurd (comment_symbol b q s (ap (λ z. slice_index z 0) h.whole) (spelled_as (b ∷ q) e k) (open_long b q h))
]
of_unended other b q (inr h) k = elim (quote_only other b q (ap (λ z. slice_index z 0) h.whole) k) [
  | inl e ↦ absurd (text_apart (b ∷ q) (spelled_as (b ∷ q) e k) h)
  | inr e ↦ e
]

of_byte : (kind other : Piece) (b : ℕ) (q : List ℕ) → Spells kind (b ∷ q) → Spells other (b ∷ q) → kind ≡ other
of_byte piece.Separator other b q h k = separator_only other b q (starts piece.Separator b q h) k
of_byte piece.Comment other b q h k = elim (slash_only other b q (starts piece.Comment b q h) k) [
  | inl e ↦ e
  | inr (inl e) ↦ absurd (comment_unended b q (starts piece.Comment b q h) h (spelled_as (b ∷ q) e k))
  | inr (inr (s, e)) ↦ absurd (comment_symbol b q s (starts piece.Comment b q h) (spelled_as (b ∷ q) e k) (comment_long b q h))
]
of_byte piece.Unended other b q h k = of_unended other b q h k
of_byte piece.Word other b q h k = word_only other b q (starts piece.Word b q h) k
of_byte piece.Integer other b q h k = elim (digit_only other b q (starts piece.Integer b q h) k) [ inl e ↦ e | inr e ↦ absurd (number_apart (b ∷ q) h (spelled_as (b ∷ q) e k)) ]
of_byte piece.Real other b q h k = elim (digit_only other b q (starts piece.Real b q h) k) [ inl e ↦ absurd (number_apart (b ∷ q) (spelled_as (b ∷ q) e k) h) | inr e ↦ e ]
of_byte piece.Text other b q h k = elim (quote_only other b q (starts piece.Text b q h) k) [ inl e ↦ e | inr e ↦ absurd (text_unended b q (starts piece.Text b q h) h (spelled_as (b ∷ q) e k)) ]
of_byte (piece.Symbol s) other b q h k = of_symbol s other b q h k

pub one_kind : (kind other : Piece) (p : List ℕ) → Spells kind p → Spells other p → kind ≡ other
one_kind kind other [] h k = absurd (some_bytes kind h)
one_kind kind other (b ∷ q) h k = of_byte kind other b q h k
