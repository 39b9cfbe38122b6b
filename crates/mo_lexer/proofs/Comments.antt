-- Comments: where the first `*/` stands, and that a comment up to there, or to the end of its line, is the longest piece.
use Rattle.std.proofs.Common.{◌≡◌, ◌≢◌, ◌≤◌, ◌<◌, ◌+◌, ◌++◌, ◌==◌, inl, inr, ◌∙◌, ℕ, suc, Bool, true, not, List, [], ◌∷◌, length, take, drop, slice_index, refl, ap, sym, subst, arith, codes, append_assoc, append-nil, Some, None, length-append}
use Rattle.std.specs.List.{take_while}
use Rattle.std.proofs.lemmas.List.{length-take-le, take-append-drop, get_or_append_left}
use Rattle.std.proofs.Math.Seq.{drop-cons, get_or-append_seam}
use Rattle.std.proofs.lemmas.Bool.Decides.{nat_tests}
use Rattle.mo_lexer.specs.declared.piece.Piece.{Piece}
use Rattle.mo_lexer.specs.declared.piece.Piece.TheVariants as piece
use Rattle.mo_lexer.specs.declared.token.Sym.{Sym}
use Rattle.mo_lexer.specs.declared.token.Sym.TheVariants as sym_of
use Rattle.mo_lexer.specs.Bytes.{is_in_line}
use Rattle.mo_lexer.specs.Spelling.{Spells, IsUnended, IsLineComment, IsBlockComment, IsOpenComment, IsOpenText, symbol_bytes}
use Rattle.mo_lexer.specs.Tokens.{Begins}
use Rattle.mo_lexer.specs.private.Front.{HasEnd, EndsComment}
use Rattle.mo_lexer.proofs.Pieces.{begins, most, all_pass, run_split}
use Rattle.mo_lexer.proofs.FirstBytes.{slash_only, spelled_as}

-- ---- the first `*/`

end_of_split : (u before after : List ℕ) → u ≡ before ++ (42 ∷ 47 ∷ after) → HasEnd u (length before)
end_of_split u before after e = (
  omega (arith, ap length e, length-append before (42 ∷ 47 ∷ after)),
  ap (λ z. slice_index z (length before)) e ∙ get_or-append_seam before 42 (47 ∷ after) 0,
  ap (λ z. slice_index z (length before + 1)) (e ∙ sym (append_assoc before (42 ∷ []) (47 ∷ after)))
      ∙ subst (λ n. slice_index ((before ++ 42 ∷ []) ++ 47 ∷ after) n ≡ 47) (length-append before (42 ∷ [])) (get_or-append_seam (before ++ 42 ∷ []) 47 after 0),
)

split_of_end : (u : List ℕ) (at : ℕ) → HasEnd u at → u ≡ take at u ++ (42 ∷ 47 ∷ drop (suc (suc at)) u)
split_of_end u at (within, star, slash) =
    let next : at + 1 ≡ suc at = omega arith in
    let here : at < length u = omega arith in
    let there : suc at < length u = omega arith in
    sym (take-append-drop at u)
    ∙ ap (λ z. take at u ++ z) (drop-cons u at 0 here ∙ ap (λ z. z ∷ drop (suc at) u) star ∙ ap (λ z. 42 ∷ z) (drop-cons u (suc at) 0 there ∙ ap (λ z. z ∷ drop (suc (suc at)) u) (ap (slice_index u) (sym next) ∙ slash)))

-- bytes without a `*/` at the front of others end before the first `*/` does
unended_short : (u v w : List ℕ) (at : ℕ) → u ≡ v ++ w → IsUnended v → HasEnd u at → length v ≤ at + 1
unended_short u v w at e unended (within, star, slash) =
    let past : at + 1 < length v → ⊥ = λ more.
    let here : at < length v = omega arith in
    let first = sym (get_or_append_left v w 0 at here) ∙ ap (λ z. slice_index z at) (sym e) ∙ star in
    let second = sym (get_or_append_left v w 0 (at + 1) more) ∙ ap (λ z. slice_index z (at + 1)) (sym e) ∙ slash in
    unended (take at v) (drop (suc (suc at)) v) (split_of_end v at (more, first, second)) in
    omega (arith, past)

-- ---- what else may begin with a slash

abbrev pub is_short : List ℕ → Bool
is_short [] = true
is_short (b ∷ []) = true
is_short (b ∷ c ∷ bytes) = not (b == 47)

slashes : (s : Sym) → is_short (symbol_bytes s) ≡ true
slashes sym_of.RoundOpen = refl
slashes _ = refl

-- the pieces that begin with a slash
pub data Slashed (bytes : List ℕ) : Type 0 where
  line : IsLineComment bytes → Slashed bytes
  block : IsBlockComment bytes → Slashed bytes
  unended : IsOpenComment bytes → Slashed bytes
  over : length bytes ≤ 1 → Slashed bytes

pub slash_symbol : (c : ℕ) (q : List ℕ) (s : Sym) → c ≡ 47 → c ∷ q ≡ symbol_bytes s → length (c ∷ q) ≤ 1
slash_symbol c [] s e h = omega arith
slash_symbol c (d ∷ q) s e h = let short : not (c == 47) ≡ true = ap is_short h ∙ slashes s in let same : c == 47 ≡ true = grind (arith, nat_tests) in cc (ap not same)

pub not_quote : (c : ℕ) (q : List ℕ) → c ≡ 47 → IsOpenText (c ∷ q) → ⊥
not_quote c q e x = let quote : c ≡ 34 = ap (λ z. slice_index z 0) x.whole in omega (arith, quote, e)

slash_other : (other : Piece) (c : ℕ) (q : List ℕ) → c ≡ 47 → Spells other (c ∷ q) → Slashed (c ∷ q)
slash_other other c q e h = elim (slash_only other c q e h) [
  | inl same ↦ elim (spelled_as (c ∷ q) same h) [ inl x ↦ line x | inr x ↦ block x ]
  | inr (inl same) ↦ elim (spelled_as (c ∷ q) same h) [ inl x ↦ unended x | inr x ↦ absurd (not_quote c q e x) ]
  | inr (inr (s, same)) ↦ over (slash_symbol c q s e (spelled_as (c ∷ q) same h))
]

at_slash : (b : ℕ) (t : List ℕ) (bound : ℕ) → b ≡ 47 → ((q s : List ℕ) → b ∷ t ≡ q ++ s → Slashed q → length q ≤ bound) → (other : Piece) (q s : List ℕ) → b ∷ t ≡ q ++ s → Spells other q → length q ≤ bound
at_slash b t bound first sizes other [] s e h = omega arith
at_slash b t bound first sizes other (c ∷ q) s e h = let same : c ≡ b = cc in sizes (c ∷ q) s e (slash_other other c q (same ∙ first) h)

two_first : (t : List ℕ) (a b : ℕ) → 0 < length t → slice_index t 0 ≡ a → slice_index t 1 ≡ b → 0 < b → t ≡ a ∷ b ∷ drop 2 t
two_first [] a b some first second more = absurd (omega arith)
two_first (x ∷ []) a b some first second more = absurd (omega (arith, second))
two_first (x ∷ y ∷ t) a b some first second more = cc

-- ---- comments

-- the second bytes of a line comment and of another comment differ
pub line_or_block : (u v : List ℕ) → 47 ∷ 47 ∷ u ≡ 47 ∷ 42 ∷ v → ⊥
line_or_block u v e = let same : 47 ≡ 42 = ap (λ z. slice_index z 1) e in omega (arith, same)

slash_some : 0 < 47
slash_some = omega arith

star_some : 0 < 42
star_some = omega arith

line_at : (u : List ℕ) → Begins piece.Comment (2 + length (take_while is_in_line u)) (47 ∷ 47 ∷ u)
line_at u =
    let run = take_while is_in_line u in
    subst (λ n. Begins piece.Comment n (47 ∷ 47 ∷ u)) two_more (begins piece.Comment (47 ∷ 47 ∷ run) (drop (length run) u) (47 ∷ 47 ∷ u) (ap (λ z. 47 ∷ 47 ∷ z) (run_split is_in_line u))
    (inl (record { inside = run; whole = refl; inside_right = all_pass is_in_line u })) (at_slash 47 (47 ∷ u) (suc (suc (length run))) refl sizes))
  where
    two_more : suc (suc (length (take_while is_in_line u))) ≡ 2 + length (take_while is_in_line u)
    two_more = omega arith

    sizes : (q s : List ℕ) → 47 ∷ 47 ∷ u ≡ q ++ s → Slashed q → length q ≤ suc (suc (length (take_while is_in_line u)))
    sizes q s e (line x) = let least = most is_in_line u x.inside s (ap (drop 2) (e ∙ ap (λ z. z ++ s) x.whole)) x.inside_right in omega (arith, least, ap length x.whole)
    sizes q s e (block x) = absurd (line_or_block u ((x.inside ++ codes "*/") ++ s) (e ∙ ap (λ z. z ++ s) x.whole))
    sizes q s e (unended x) = absurd (line_or_block u (x.inside ++ s) (e ∙ ap (λ z. z ++ s) x.whole))
    sizes q s e (over h) = omega arith

pub line_comment : (t : List ℕ) → 0 < length t → slice_index t 0 ≡ 47 → slice_index t 1 ≡ 47 → Begins piece.Comment (2 + length (take_while is_in_line (drop 2 t))) t
line_comment t some first second =
    subst (λ z. Begins piece.Comment (2 + length (take_while is_in_line (drop 2 t))) z) (sym (two_first t 47 47 some first second slash_some)) (line_at (drop 2 t))

block_at : (u : List ℕ) (at : ℕ) → EndsComment u (Some at) → Begins piece.Comment (at + 4) (47 ∷ 42 ∷ u)
block_at u at (ends, none_before) =
    let inside = take at u in let r = drop (suc (suc at)) u in let p = 47 ∷ 42 ∷ (inside ++ codes "*/") in
    let size : length p ≡ at + 4 = omega (arith, ends.0, length-append inside (codes "*/"), length-take-le at u (omega (arith, ends.0))) in
    let unended : IsUnended (inside ++ codes "*") = λ before after e.
    let found : u ≡ before ++ (42 ∷ 47 ∷ (after ++ 47 ∷ r)) =
    split_of_end u at ends ∙ sym (append_assoc inside (42 ∷ []) (47 ∷ r)) ∙ ap (λ z. z ++ 47 ∷ r) e ∙ append_assoc before (42 ∷ 47 ∷ after) (47 ∷ r) in
    let fewer : length before < at = omega (arith, ap length e, ends.0, length-append inside (codes "*"), length-append before (42 ∷ 47 ∷ after), length-take-le at u (omega (arith, ends.0))) in
    none_before (length before) fewer (end_of_split u before (after ++ 47 ∷ r) found) in
    subst (λ n. Begins piece.Comment n (47 ∷ 42 ∷ u)) size (begins piece.Comment p r (47 ∷ 42 ∷ u) (ap (λ z. 47 ∷ 42 ∷ z) (split_of_end u at ends ∙ sym (append_assoc inside (codes "*/") r)))
    (inr (record { inside = inside; whole = refl; next = unended })) (at_slash 47 (42 ∷ u) (length p) refl (λ q s e x. subst (λ n. length q ≤ n) (sym size) (sizes q s e x))))
  where
    sizes : (q s : List ℕ) → 47 ∷ 42 ∷ u ≡ q ++ s → Slashed q → length q ≤ at + 4
    sizes q s e (line x) = absurd (line_or_block (x.inside ++ s) u (sym (e ∙ ap (λ z. z ++ s) x.whole)))
    sizes q s e (block x) =
        let split : u ≡ (x.inside ++ codes "*") ++ (47 ∷ s) = ap (drop 2) (e ∙ ap (λ z. z ++ s) x.whole) ∙ append_assoc x.inside (codes "*/") s ∙ sym (append_assoc x.inside (codes "*") (47 ∷ s)) in
        let least = unended_short u (x.inside ++ codes "*") (47 ∷ s) at split x.next ends in
        omega (arith, least, length-append x.inside (codes "*"), length-append x.inside (codes "*/"), ap length x.whole)
    sizes q s e (unended x) =
        let least = unended_short u x.inside s at (ap (drop 2) (e ∙ ap (λ z. z ++ s) x.whole)) x.unended ends in omega (arith, least, ap length x.whole)
    sizes q s e (over h) = omega arith

pub block_comment : (t : List ℕ) (at : ℕ) → 0 < length t → slice_index t 0 ≡ 47 → slice_index t 1 ≡ 42 → EndsComment (drop 2 t) (Some at) → Begins piece.Comment (at + 4) t
block_comment t at some first second ends =
    subst (Begins piece.Comment (at + 4)) (sym (two_first t 47 42 some first second star_some)) (block_at (drop 2 t) at ends)

-- what ends with the text is longest
pub to_the_end : (kind : Piece) (t : List ℕ) → Spells kind t → Begins kind (length t) t
to_the_end kind t h = begins kind t [] t (sym (append-nil t)) h (λ other q s e spells. omega (arith, ap length e, length-append q s))

pub open_comment : (t : List ℕ) → 0 < length t → slice_index t 0 ≡ 47 → slice_index t 1 ≡ 42 → EndsComment (drop 2 t) None → Begins piece.Unended (length t) t
open_comment t some first second never =
    to_the_end piece.Unended t (inl (record {
      inside = drop 2 t;
      whole = two_first t 47 42 some first second star_some;
      unended = λ before after e. never (length before) (end_of_split (drop 2 t) before after e);
    }))

pub lone_slash : (t : List ℕ) → 0 < length t → slice_index t 0 ≡ 47 → slice_index t 1 ≢ 47 → slice_index t 1 ≢ 42 → Begins (piece.Symbol sym_of.Over) 1 t
lone_slash [] some first no_line no_block = absurd (omega arith)
lone_slash (b ∷ u) some first no_line no_block = begins (piece.Symbol sym_of.Over) (47 ∷ []) u (b ∷ u) (ap (λ z. z ∷ u) first) refl (at_slash b u 1 first sizes)
  where
    sizes : (q s : List ℕ) → b ∷ u ≡ q ++ s → Slashed q → length q ≤ 1
    sizes q s e (line x) = absurd (no_line (ap (λ z. slice_index z 1) (e ∙ ap (λ z. z ++ s) x.whole)))
    sizes q s e (block x) = absurd (no_block (ap (λ z. slice_index z 1) (e ∙ ap (λ z. z ++ s) x.whole)))
    sizes q s e (unended x) = absurd (no_block (ap (λ z. slice_index z 1) (e ∙ ap (λ z. z ++ s) x.whole)))
    sizes q s e (over h) = h
