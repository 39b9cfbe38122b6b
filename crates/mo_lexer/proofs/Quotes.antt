-- Texts: where the quote stands that ends one, and that the Text up to there is the longest piece.
use Rattle.std.proofs.Common.{◌≡◌, ◌≢◌, ◌≤◌, ◌<◌, ◌+◌, ◌++◌, ◌&&◌, ◌==◌, ◌⊎◌, inl, inr, ◌∙◌, ℕ, suc, Bool, true, false, not, cond, List, [], ◌∷◌, length, take, drop, slice_index, refl, ap, sym, subst, arith, append_assoc, append-nil, Some, length-append}
use Rattle.std.proofs.lemmas.List.{length-take-le, take-append-drop, take_more}
use Rattle.std.proofs.Math.Seq.{take-length, drop-cons}
use Rattle.std.proofs.lemmas.Bool.Decides.{nat_tests}
use Rattle.mo_lexer.specs.declared.piece.Piece.{Piece}
use Rattle.mo_lexer.specs.declared.piece.Piece.TheVariants as piece
use Rattle.mo_lexer.specs.Spelling.{Spells, is_quoted, IsText, IsOpenComment, IsOpenText}
use Rattle.mo_lexer.specs.Tokens.{Begins}
use Rattle.mo_lexer.specs.private.Front.{EndsText}
use Rattle.mo_lexer.proofs.Pieces.{both, both_true, begins}
use Rattle.mo_lexer.proofs.FirstBytes.{quote_only, spelled_as}

is_not : {x : Bool} → not x ≡ true → x ≡ false
is_not {x = true} h = cc
is_not {x = false} h = refl

quoted-append : (xs ys : List ℕ) → is_quoted xs ≡ true → is_quoted ys ≡ true → is_quoted (xs ++ ys) ≡ true
quoted-append [] ys h k = k
quoted-append (b ∷ []) [] h k = h
quoted-append (b ∷ []) (c ∷ ys) h k = let parts = both (not (b == 34)) (not (b == 92)) h in rw (is_not parts.1) (both_true parts.0 k)
quoted-append (b ∷ c ∷ xs) ys h k = go (b == 92) h (λ rest. quoted-append xs ys rest k) (λ rest. quoted-append (c ∷ xs) ys rest k)
  where
    go : (x : Bool) → cond x (is_quoted xs) (not (b == 34) && is_quoted (c ∷ xs)) ≡ true → (is_quoted xs ≡ true → is_quoted (xs ++ ys) ≡ true) → (is_quoted (c ∷ xs) ≡ true → is_quoted (c ∷ (xs ++ ys)) ≡ true)
        → cond x (is_quoted (xs ++ ys)) (not (b == 34) && is_quoted (c ∷ (xs ++ ys))) ≡ true
    go true rest two one = two rest
    go false rest two one = let parts = both (not (b == 34)) (is_quoted (c ∷ xs)) rest in both_true parts.0 (one parts.1)

-- what is read of a Text, where the last byte may be a backslash that takes the next
abbrev pub InText : Bool → List ℕ → ℕ → Type 0
InText false bytes at = is_quoted (take at bytes) ≡ true
InText true bytes at = (k : ℕ) × (at ≡ k + 1) × (is_quoted (take k bytes) ≡ true) × (slice_index bytes k ≡ 92)

pub text_taken : (bytes : List ℕ) (at : ℕ) → at < length bytes → InText true bytes at → InText false bytes (at + 1)
text_taken bytes at inside (k, next, quoted, slash) =
    let within : k < length bytes = omega arith in
    let whole : take (at + 1) bytes ≡ take k bytes ++ (92 ∷ slice_index bytes at ∷ []) =
    take_more bytes at 0 inside ∙ ap (λ n. take n bytes ++ slice_index bytes at ∷ []) next ∙ ap (λ z. z ++ slice_index bytes at ∷ []) (take_more bytes k 0 within) ∙ append_assoc (take k bytes) (slice_index bytes k ∷ []) (slice_index bytes at ∷ [])
    ∙ ap (λ b. take k bytes ++ (b ∷ slice_index bytes at ∷ [])) slash in
    ap is_quoted whole ∙ quoted-append (take k bytes) (92 ∷ slice_index bytes at ∷ []) quoted refl

plain : (b : ℕ) → b ≢ 34 → b == 92 ≡ false → is_quoted (b ∷ []) ≡ true
plain b no_quote no_slash = both_true {a = not (b == 34)} {b = not (b == 92)} (grind (arith, nat_tests)) (rw no_slash refl)

pub text_free : (bytes : List ℕ) (at : ℕ) → at < length bytes → InText false bytes at → slice_index bytes at ≢ 34 → InText (slice_index bytes at == 92) bytes (at + 1)
text_free bytes at inside quoted no_quote = go (slice_index bytes at == 92) refl
  where
    go : (x : Bool) → slice_index bytes at == 92 ≡ x → InText x bytes (at + 1)
    go true is = (at, refl, quoted, grind (arith, nat_tests))
    go false is = ap is_quoted (take_more bytes at 0 inside) ∙ quoted-append (take at bytes) (slice_index bytes at ∷ []) quoted (plain (slice_index bytes at) no_quote is)

pub text_open : (taken : Bool) (bytes : List ℕ) → InText taken bytes (length bytes) → IsOpenText (34 ∷ bytes)
text_open false bytes quoted = record { inside = bytes; last = []; whole = ap (λ z. 34 ∷ z) (sym (append-nil bytes)); inside_right = ap is_quoted (sym (take-length bytes)) ∙ quoted; last_right = inl refl }
text_open true bytes (k, next, quoted, slash) =
    let within : k < length bytes = omega arith in
    record {
      inside = take k bytes;
      last = 92 ∷ [];
      whole = ap (λ z. 34 ∷ z) (sym (take-length bytes) ∙ ap (λ n. take n bytes) next ∙ take_more bytes k 0 within ∙ ap (λ b. take k bytes ++ b ∷ []) slash);
      inside_right = quoted;
      last_right = inr refl;
    }

-- ---- the longest

no_quote : (b : ℕ) (q : List ℕ) → is_quoted (b ∷ q) ≡ true → b ≡ 34 → ⊥
no_quote b [] h same = let first = is_not (both (not (b == 34)) (not (b == 92)) h).0 in grind (arith, nat_tests)
no_quote b (c ∷ q) h same = go (b == 92) refl h
  where
    go : (x : Bool) → b == 92 ≡ x → cond x (is_quoted q) (not (b == 34) && is_quoted (c ∷ q)) ≡ true → ⊥
    go true is rest = grind (arith, nat_tests)
    go false is rest = let first = is_not (both (not (b == 34)) (is_quoted (c ∷ q)) rest).0 in grind (arith, nat_tests)

-- no quoted bytes go past the first free quote
pub quoted_first : (i j s u : List ℕ) → is_quoted i ≡ true → is_quoted j ≡ true → i ++ 34 ∷ s ≡ j ++ u → length j ≤ length i
quoted_first i [] s u h k e = omega arith
quoted_first [] (c ∷ j) s u h k e = let same : c ≡ 34 = cc in absurd (no_quote c j k same)
quoted_first (b ∷ i) (c ∷ []) s u h k e = omega arith
quoted_first (b ∷ []) (c ∷ d ∷ j) s u h k e =
    let same : c ≡ b = cc in let next : d ≡ 34 = cc in
    let no_slash = is_not (both (not (b == 34)) (not (b == 92)) h).1 in
    let none : c == 92 ≡ false = ap (λ z. z == 92) same ∙ no_slash in
    let rest = rw none at k in
    absurd (no_quote d j (both (not (c == 34)) (is_quoted (d ∷ j)) rest).1 next)
quoted_first (b ∷ a ∷ i) (c ∷ d ∷ j) s u h k e = go (b == 92) h (subst (λ z. cond (z == 92) (is_quoted j) (not (z == 34) && is_quoted (d ∷ j)) ≡ true) same k) (λ x y. quoted_first i j s u x y two) (λ x y. quoted_first (a ∷ i) (d ∷ j) s u x y one)
  where
    same : c ≡ b
    same = cc

    one : (a ∷ i) ++ 34 ∷ s ≡ (d ∷ j) ++ u
    one = cc

    two : i ++ 34 ∷ s ≡ j ++ u
    two = cc

    go : (x : Bool) → cond x (is_quoted i) (not (b == 34) && is_quoted (a ∷ i)) ≡ true → cond x (is_quoted j) (not (b == 34) && is_quoted (d ∷ j)) ≡ true
        → (is_quoted i ≡ true → is_quoted j ≡ true → length j ≤ length i) → (is_quoted (a ∷ i) ≡ true → is_quoted (d ∷ j) ≡ true → suc (length j) ≤ suc (length i)) → suc (suc (length j)) ≤ suc (suc (length i))
    go true x y less more = let least = less x y in omega (arith, least)
    go false x y less more = let least = more (both (not (b == 34)) _ x).1 (both (not (b == 34)) _ y).1 in omega (arith, least)

pub not_slash : (c : ℕ) (q : List ℕ) → c ≡ 34 → IsOpenComment (c ∷ q) → ⊥
not_slash c q e x = let slash : c ≡ 47 = ap (λ z. slice_index z 0) x.whole in omega (arith, slash, e)

quote_other : (other : Piece) (c : ℕ) (q : List ℕ) → c ≡ 34 → Spells other (c ∷ q) → IsText (c ∷ q) ⊎ IsOpenText (c ∷ q)
quote_other other c q e h = elim (quote_only other c q e h) [
  | inl same ↦ inl (spelled_as (c ∷ q) same h)
  | inr same ↦ elim (spelled_as (c ∷ q) same h) [ inl x ↦ absurd (not_slash c q e x) | inr x ↦ inr x ]
]

pub quoted_text : (t : List ℕ) (at : ℕ) → 0 < length t → slice_index t 0 ≡ 34 → EndsText (drop 1 t) (Some at) → Begins piece.Text (at + 2) t
quoted_text [] at some first ends = absurd (omega arith)
quoted_text (b ∷ t) at some first (within, quoted, quote) =
    let inside = take at t in let p = 34 ∷ (inside ++ 34 ∷ []) in let r = drop (suc at) t in
    let free : t ≡ inside ++ 34 ∷ r = sym (take-append-drop at t) ∙ ap (λ z. inside ++ z) (drop-cons t at 0 within ∙ ap (λ z. z ∷ r) quote) in
    let whole : b ∷ t ≡ p ++ r = ap (λ z. z ∷ t) first ∙ ap (λ z. 34 ∷ z) (free ∙ sym (append_assoc inside (34 ∷ []) r)) in
    let size : length p ≡ at + 2 = omega (arith, length-append inside (34 ∷ []), length-take-le at t (omega (arith, within))) in
    let is_text : (q s : List ℕ) → b ∷ t ≡ q ++ s → IsText q → length q ≤ length p = λ q s e x.
    let same : inside ++ 34 ∷ r ≡ x.inside ++ ((34 ∷ []) ++ s) = sym free ∙ ap (drop 1) (e ∙ ap (λ z. z ++ s) x.whole) ∙ append_assoc x.inside (34 ∷ []) s in
    let least = quoted_first inside x.inside r _ quoted x.inside_right same in
    omega (arith, least, ap length x.whole, length-append x.inside (34 ∷ []), length-append inside (34 ∷ [])) in
    let is_open : (q s : List ℕ) → b ∷ t ≡ q ++ s → IsOpenText q → length q ≤ length p = λ q s e x.
    let same : inside ++ 34 ∷ r ≡ x.inside ++ (x.last ++ s) = sym free ∙ ap (drop 1) (e ∙ ap (λ z. z ++ s) x.whole) ∙ append_assoc x.inside x.last s in
    let least = quoted_first inside x.inside r _ quoted x.inside_right same in
    let short : length x.last ≤ 1 = elim x.last_right [ inl none ↦ omega (arith, ap length none) | inr slash ↦ omega (arith, ap length slash) ] in
    omega (arith, least, short, ap length x.whole, length-append x.inside x.last, length-append inside (34 ∷ [])) in
    subst (λ n. Begins piece.Text n (b ∷ t)) size (begins piece.Text p r (b ∷ t) whole (record { inside = inside; whole = refl; inside_right = quoted })
    (λ other q s e h. longest is_text is_open other q s e h))
  where
    longest : {bound : ℕ} → ((q s : List ℕ) → b ∷ t ≡ q ++ s → IsText q → length q ≤ bound) → ((q s : List ℕ) → b ∷ t ≡ q ++ s → IsOpenText q → length q ≤ bound)
        → (other : Piece) (q s : List ℕ) → b ∷ t ≡ q ++ s → Spells other q → length q ≤ bound
    longest is_text is_open other [] s e h = omega arith
    longest is_text is_open other (c ∷ q) s e h =
        let same : c ≡ b = cc in elim (quote_other other c q (same ∙ first) h) [ inl x ↦ is_text (c ∷ q) s e x | inr x ↦ is_open (c ∷ q) s e x ]
