-- Each text has a token list or a fault.
use Rattle.std.proofs.Common.{◌≡◌, ◌≢◌, ◌≤◌, ◌<◌, ◌+◌, ◌&&◌, ◌==◌, ◌⊎◌, inl, inr, ◌∙◌, ℕ, zero, suc, Bool, true, false, cond, nat_lt, bytes_eq, List, [], ◌∷◌, length, take, drop, slice_index, refl, ap, sym, subst, arith, Option, Some, None, Result, Ok, Err, length-drop}
use Rattle.std.proofs.lemmas.Bool.Decides.{nat_tests}
use Rattle.mo_lexer.specs.declared.token.Token.{Token}
use Rattle.mo_lexer.specs.declared.token.TokenKind.{TokenKind}
use Rattle.mo_lexer.specs.declared.token.Sym.{Sym}
use Rattle.mo_lexer.specs.declared.fault.LexCode.{LexCode}
use Rattle.mo_lexer.specs.declared.fault.LexCode.TheVariants.{L1}
use Rattle.mo_lexer.specs.declared.piece.Piece.{Piece}
use Rattle.mo_lexer.specs.declared.piece.Piece.TheVariants as piece
use Rattle.mo_lexer.specs.declared.token.Sym.TheVariants as sym_of
use Rattle.mo_lexer.specs.Bytes.{is_separator, is_letter, is_digit, is_exponent_letter}
use Rattle.mo_lexer.specs.Spelling.{IsOpenText}
use Rattle.mo_lexer.specs.Tokens.{Begins, BeginsNone, Divided, Faulty, ended, gap, token, no_piece, refused, later, token_of, mark_len, HasTokens, HasFault}
use Rattle.mo_lexer.specs.private.Front.{EndsText, HasEnd, EndsComment, HasExponent, IsSymbolOf, has_point, sign_len, is_other}
use Rattle.std.proofs.lemmas.List.{length-take}
use Rattle.std.proofs.lemmas.Slice.Eq.{bytes_eq-Decides}
use borrow.Author.Count.{below_more}
use Rattle.mo_lexer.proofs.Pieces.{both, both_true}
use Rattle.mo_lexer.proofs.Runs.{separators_front, word_front}
use Rattle.mo_lexer.proofs.Numbers.{digits, no_exponent, exponent_none, exponent, pointed_number, whole_number, scaled_number}
use Rattle.mo_lexer.proofs.Quotes.{InText, text_taken, text_free, text_open, quoted_text}
use Rattle.mo_lexer.proofs.Comments.{line_comment, block_comment, open_comment, lone_slash, to_the_end}
use Rattle.mo_lexer.proofs.Symbols.{long_found, short_found, none_found}
use Rattle.mo_lexer.proofs.Apart.{symbol_of, symbol_found, symbol_right}
use Rattle.mo_lexer.proofs.Steps.{some_len}

-- ---- the end of a Text and of a comment

text_end : (bytes : List ℕ) (left at : ℕ) (taken : Bool) → at + left ≡ length bytes → InText taken bytes at → (o : Option ℕ) × EndsText bytes o
text_end bytes zero at taken all read = (None, text_open taken bytes (subst (λ n. InText taken bytes n) (omega arith) read))
text_end bytes (suc n) at true all read = text_end bytes n (at + 1) false (omega arith) (text_taken bytes at (omega arith) read)
text_end bytes (suc n) at false all read = go (slice_index bytes at == 34) refl (λ no_quote. text_end bytes n (at + 1) (slice_index bytes at == 92) (omega arith) (text_free bytes at inside read no_quote))
  where
    inside : at < length bytes
    inside = omega arith

    go : (x : Bool) → slice_index bytes at == 34 ≡ x → (slice_index bytes at ≢ 34 → (o : Option ℕ) × EndsText bytes o) → (o : Option ℕ) × EndsText bytes o
    go true is rest = let quote : slice_index bytes at ≡ 34 = grind (arith, nat_tests) in (Some at, (inside, read, quote))
    go false is rest = rest (λ quote. grind (arith, nat_tests))

abbrev has_end : List ℕ → ℕ → Bool
has_end bytes at = nat_lt (at + 1) (length bytes) && (slice_index bytes at == 42 && slice_index bytes (at + 1) == 47)

end_is : (bytes : List ℕ) (at : ℕ) → has_end bytes at ≡ true → HasEnd bytes at
end_is bytes at h =
    let two = both (nat_lt (at + 1) (length bytes)) (slice_index bytes at == 42 && slice_index bytes (at + 1) == 47) h in
    let bytes_are = both (slice_index bytes at == 42) (slice_index bytes (at + 1) == 47) two.1 in
    (grind (arith, nat_tests, two.0), grind (arith, nat_tests, bytes_are.0), grind (arith, nat_tests, bytes_are.1))

end_is_not : (bytes : List ℕ) (at : ℕ) → has_end bytes at ≡ false → HasEnd bytes at → ⊥
end_is_not bytes at h (within, star, slash) =
    let inside : nat_lt (at + 1) (length bytes) ≡ true = grind (arith, nat_tests) in
    let first : slice_index bytes at == 42 ≡ true = grind (arith, nat_tests) in
    let second : slice_index bytes (at + 1) == 47 ≡ true = grind (arith, nat_tests) in
    let holds : has_end bytes at ≡ true = both_true inside (both_true first second) in cc

comment_end : (bytes : List ℕ) (left at : ℕ) → at + left ≡ length bytes → ((before : ℕ) → before < at → HasEnd bytes before → ⊥) → (o : Option ℕ) × EndsComment bytes o
comment_end bytes zero at all none = (None, λ before ends. none before (let within = ends.0 in omega (arith, within, all)) ends)
comment_end bytes (suc n) at all none = go (has_end bytes at) refl (comment_end bytes n (at + 1) (omega arith))
  where
    go : (x : Bool) → has_end bytes at ≡ x → (((before : ℕ) → before < at + 1 → HasEnd bytes before → ⊥) → (o : Option ℕ) × EndsComment bytes o) → (o : Option ℕ) × EndsComment bytes o
    go true is rest = (Some at, (end_is bytes at is, none))
    go false is rest = rest (below_more (λ before. HasEnd bytes before → ⊥) at none (end_is_not bytes at is))

-- ---- pieces

some_exponent : (t : List ℕ) → (n : ℕ) × HasExponent t n
some_exponent [] = (0, no_exponent [] (λ some. absurd (omega arith)))
some_exponent (b ∷ t) = go (is_exponent_letter b) refl (digits (drop (sign_len t) t)) refl
  where
    go : (x : Bool) → is_exponent_letter b ≡ x → (n : ℕ) → digits (drop (sign_len t) t) ≡ n → (n : ℕ) × HasExponent (b ∷ t) n
    go false is n size = (0, no_exponent (b ∷ t) (λ some. is))
    go true is zero size = (0, exponent_none (b ∷ t) (omega arith) size)
    go true is (suc n) size = (_, exponent (b ∷ t) (omega arith) is (omega (arith, size)))

abbrev SomePiece : List ℕ → Type 0
SomePiece t = (k : Piece) × (n : ℕ) × Begins k n t

some_number : (t : List ℕ) → 0 < length t → is_digit (slice_index t 0) ≡ true → SomePiece t
some_number t some first = go (has_point (drop (digits t) t)) refl
  where
    scaled : (n : ℕ) → has_point (drop (digits t) t) ≡ false → HasExponent (drop (digits t) t) n → SomePiece t
    scaled zero point x = (piece.Integer, _, whole_number t some first point x)
    scaled (suc n) point x = (piece.Real, _, scaled_number t (suc n) some first point (omega arith) x)

    go : (x : Bool) → has_point (drop (digits t) t) ≡ x → SomePiece t
    go true is = let x = some_exponent (drop (digits (drop 1 (drop (digits t) t))) (drop 1 (drop (digits t) t))) in (piece.Real, _, pointed_number t x.0 some first is x.1)
    go false is = let x = some_exponent (drop (digits t) t) in scaled x.0 is x.1

some_quoted : (t : List ℕ) → 0 < length t → slice_index t 0 ≡ 34 → SomePiece t
some_quoted [] some first = absurd (omega arith)
some_quoted (b ∷ t) some first = go (text_end t (length t) 0 false (omega arith) refl)
  where
    go : (o : Option ℕ) × EndsText t o → SomePiece (b ∷ t)
    go (Some at, ends) = (piece.Text, at + 2, quoted_text (b ∷ t) at some first ends)
    go (None, never) = (piece.Unended, _, to_the_end piece.Unended (b ∷ t) (inr (subst IsOpenText (ap (λ z. z ∷ t) (sym first)) never)))

some_slashed : (t : List ℕ) → 0 < length t → slice_index t 0 ≡ 47 → SomePiece t
some_slashed t some first = go (slice_index t 1 == 47) refl (slice_index t 1 == 42) refl
  where
    ends : slice_index t 1 ≡ 42 → (o : Option ℕ) × EndsComment (drop 2 t) o → SomePiece t
    ends second (Some at, found) = (piece.Comment, at + 4, block_comment t at some first second found)
    ends second (None, never) = (piece.Unended, _, open_comment t some first second never)

    go : (x : Bool) → slice_index t 1 == 47 ≡ x → (y : Bool) → slice_index t 1 == 42 ≡ y → SomePiece t
    go true is y or = (piece.Comment, _, line_comment t some first (grind (arith, nat_tests)))
    go false is true or = ends (grind (arith, nat_tests)) (comment_end (drop 2 t) (length (drop 2 t)) 0 (omega arith) (λ before h. absurd (omega arith)))
    go false is false or = (piece.Symbol sym_of.Over, _, lone_slash t some first (λ e. grind (arith, nat_tests)) (λ e. grind (arith, nat_tests)))

symbol_is : (bytes : List ℕ) → IsSymbolOf bytes (symbol_of bytes)
symbol_is bytes = go (symbol_of bytes) refl
  where
    go : (o : Option Sym) → symbol_of bytes ≡ o → IsSymbolOf bytes o
    go (Some s) is = symbol_right bytes s is
    go None is = λ s e. let none : Some s ≡ None = sym (symbol_found s) ∙ ap symbol_of e ∙ is in cc

some_symbol : (t : List ℕ) → 0 < length t → is_other (slice_index t 0) ≡ true → SomePiece t ⊎ BeginsNone t
some_symbol t some other = long (symbol_of (slice_index t 0 ∷ slice_index t 1 ∷ [])) (symbol_is _) (nat_lt 1 (length t)) refl
  where
    short : (1 < length t → IsSymbolOf (slice_index t 0 ∷ slice_index t 1 ∷ []) None) → (o : Option Sym) → IsSymbolOf (slice_index t 0 ∷ []) o → SomePiece t ⊎ BeginsNone t
    short none (Some s) is = inl (piece.Symbol s, 1, short_found t other s some none is)
    short none None is = inr (none_found t other none is)

    long : (o : Option Sym) → IsSymbolOf (slice_index t 0 ∷ slice_index t 1 ∷ []) o → (x : Bool) → nat_lt 1 (length t) ≡ x → SomePiece t ⊎ BeginsNone t
    long (Some s) is true more = inl (piece.Symbol s, 2, long_found t other s (grind (arith, nat_tests)) is)
    long (Some s) is false alone = short (λ more. absurd (grind (arith, nat_tests))) (symbol_of (slice_index t 0 ∷ [])) (symbol_is _)
    long None is x more = short (λ two. is) (symbol_of (slice_index t 0 ∷ [])) (symbol_is _)

front : (t : List ℕ) → 0 < length t → SomePiece t ⊎ BeginsNone t
front t some = go (is_letter first) refl (is_separator first) refl (is_digit first) refl (first == 34) refl (first == 47) refl
  where
    first : ℕ
    first = slice_index t 0

    go : (l : Bool) → is_letter (slice_index t 0) ≡ l → (s : Bool) → is_separator (slice_index t 0) ≡ s → (d : Bool) → is_digit (slice_index t 0) ≡ d → (q : Bool) → slice_index t 0 == 34 ≡ q → (h : Bool) → slice_index t 0 == 47 ≡ h
        → SomePiece t ⊎ BeginsNone t
    go true is s is_s d is_d q is_q h is_h = inl (piece.Word, _, word_front t some is)
    go false is true is_s d is_d q is_q h is_h = inl (piece.Separator, _, separators_front t some is_s)
    go false is false is_s true is_d q is_q h is_h = inl (some_number t some is_d)
    go false is false is_s false is_d true is_q h is_h = inl (some_quoted t some (grind (arith, nat_tests)))
    go false is false is_s false is_d false is_q true is_h = inl (some_slashed t some (grind (arith, nat_tests)))
    go false is false is_s false is_d false is_q false is_h = some_symbol t some (rw (is, is_s, is_d, is_q, is_h) refl)

-- ---- texts

abbrev HasOutcome : List ℕ → ℕ → Type 0
HasOutcome text at = ((tokens : List Token) × Divided text at tokens) ⊎ ((code : LexCode) × (place : ℕ) × Faulty text at code place)

at_the_end : (text : List ℕ) (at : ℕ) → at ≡ length text → HasOutcome text at
at_the_end text at all = inl (_, ended at all)

-- the outcome at a place follows from those further on
one_more : (text : List ℕ) (at : ℕ) → at < length text → ((n : ℕ) → 0 < n → at + n ≤ length text → HasOutcome text (at + n)) → HasOutcome text at
one_more text at inside rest = go (front (drop at text) (let size = length-drop at text in omega (arith, size)))
  where
    further : (k : Piece) (n : ℕ) → Begins k n (drop at text) → (o : Option TokenKind) → token_of k (take n (drop at text)) ≡ Ok o → HasOutcome text (at + n) → HasOutcome text at
    further k n b None is (inl (tokens, d)) = inl (tokens, gap at k n tokens b is d)
    further k n b (Some found) is (inl (tokens, d)) = inl (_, token at k n found tokens b is d)
    further k n b o is (inr (code, place, f)) = inr (code, place, later at k n o code place b is f)

    piece_at : (k : Piece) (n : ℕ) → Begins k n (drop at text) → (r : Result (Option TokenKind) LexCode) → token_of k (take n (drop at text)) ≡ r → HasOutcome text at
    piece_at k n b (Err code) is = inr (code, at, refused at k n code b is)
    piece_at k n b (Ok o) is = further k n b o is (rest n (some_len k n (drop at text) b) (let within = b.within in let size = length-drop at text in omega (arith, within, size)))

    go : SomePiece (drop at text) ⊎ BeginsNone (drop at text) → HasOutcome text at
    go (inl (k, n, b)) = piece_at k n b (token_of k (take n (drop at text))) refl
    go (inr none) = inr (L1, at, no_piece at inside none)

has_outcome : (text : List ℕ) (left at : ℕ) → at ≤ length text → length text ≤ at + left → HasOutcome text at
has_outcome text zero at inside enough = at_the_end text at (omega arith)
has_outcome text (suc m) at inside enough = go (nat_lt at (length text)) refl (λ n some within. has_outcome text m (at + n) within (omega arith))
  where
    go : (x : Bool) → nat_lt at (length text) ≡ x → ((n : ℕ) → 0 < n → at + n ≤ length text → HasOutcome text (at + n)) → HasOutcome text at
    go true is rest = one_more text at (grind (arith, nat_tests)) rest
    go false is rest = at_the_end text at (grind (arith, nat_tests))

mark_within : (text : List ℕ) → mark_len text ≤ length text
mark_within text = go (bytes_eq (239 ∷ 187 ∷ 191 ∷ []) (take 3 text)) refl
  where
    go : (x : Bool) → bytes_eq (239 ∷ 187 ∷ 191 ∷ []) (take 3 text) ≡ x → cond x 3 0 ≤ length text
    go true is = let same = (bytes_eq-Decides (239 ∷ 187 ∷ 191 ∷ []) (take 3 text)).0 is in omega (arith, ap length same, length-take 3 text)
    go false is = omega arith

pub tokens_or_fault : (text : List ℕ) → HasTokens text ⊎ HasFault text
tokens_or_fault text = has_outcome text (length text) (mark_len text) (mark_within text) (omega arith)
