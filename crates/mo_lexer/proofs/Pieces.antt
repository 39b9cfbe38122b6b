-- Pieces at the front of a text: what their first byte may be, and how the longest is shown to be the longest.
use Rattle.std.proofs.Common.{◌≡◌, ◌≤◌, ◌++◌, ◌&&◌, ◌==◌, ◌⊎◌, inl, inr, ◌∙◌, ℕ, Bool, true, false, not, cond, List, [], ◌∷◌, length, take, drop, refl, ap, sym, subst, arith, length-append, length-take}
use Rattle.std.specs.List.{list_all, take_while, prefix_len}
use Rattle.std.proofs.lemmas.List.{take-append-drop, length-take-le}
use Rattle.std.proofs.lemmas.List.Sums.{take_while-cons}
use Rattle.std.proofs.lemmas.List.Folds.{length-prefix_len}
use Rattle.std.proofs.Math.Seq.{take-append_seam}
use Rattle.mo_lexer.specs.declared.piece.Piece.{Piece}
use Rattle.mo_lexer.specs.declared.piece.Piece.TheVariants as piece
use Rattle.mo_lexer.specs.declared.token.Sym.{Sym}
use Rattle.mo_lexer.specs.declared.token.Sym.TheVariants as sym_of
use Rattle.mo_lexer.specs.Bytes.{is_separator, is_letter, is_digit}
use Rattle.mo_lexer.specs.Spelling.{Spells, IsRun, symbol_bytes}
use Rattle.mo_lexer.specs.Tokens.{Begins}

pub both : (a b : Bool) → (a && b) ≡ true → (a ≡ true) × (b ≡ true)
both true b h = (refl, h)
both false b h = cc

pub both_true : {a b : Bool} → a ≡ true → b ≡ true → (a && b) ≡ true
both_true h k = rw (h, k) refl

-- what holds of a piece is shown for splits of the text
pub begins : (kind : Piece) (p r t : List ℕ) → t ≡ p ++ r → Spells kind p → ((other : Piece) (q s : List ℕ) → t ≡ q ++ s → Spells other q → length q ≤ length p) → Begins kind (length p) t
begins kind p r t whole spelled longest = record {
  within = omega (arith, ap length whole ∙ length-append p r);
  spelled = subst (Spells kind) (sym (ap (take (length p)) whole ∙ take-append_seam p r)) spelled;
  longest = λ other further inside spells.
      let least = longest other (take further t) (drop further t) (sym (take-append-drop further t)) spells in
      let size = length-take-le further t inside in omega (arith, least, size);
}

-- ---- the first byte

-- a byte that begins symbols alone, or a slash
abbrev pub is_mark : ℕ → Bool
is_mark b = not (is_letter b) && (not (is_separator b) && (not (is_digit b) && not (b == 34)))

-- the bytes that may begin a piece of this kind
abbrev pub Starts : Piece → ℕ → Type 0
Starts piece.Separator b = is_separator b ≡ true
Starts piece.Comment b = b ≡ 47
Starts piece.Unended b = (b ≡ 47) ⊎ (b ≡ 34)
Starts piece.Word b = is_letter b ≡ true
Starts piece.Integer b = is_digit b ≡ true
Starts piece.Real b = is_digit b ≡ true
Starts piece.Text b = b ≡ 34
Starts (piece.Symbol s) b = is_mark b ≡ true

run_first : (p : ℕ → Bool) (b : ℕ) (q : List ℕ) → IsRun p (b ∷ q) → p b ≡ true
run_first p b q run = (both (p b) (list_all p q) run.1).0

-- the first byte of a run and what follows
pub digits_first : (b : ℕ) (q ds r : List ℕ) → b ∷ q ≡ ds ++ r → IsRun is_digit ds → is_digit b ≡ true
digits_first b q [] r e run = absurd (run.0 refl)
digits_first b q (d ∷ ds) r e run = let same : d ≡ b = cc in ap is_digit (sym same) ∙ run_first is_digit d ds run

abbrev first_mark : List ℕ → Bool
first_mark [] = false
first_mark (b ∷ q) = is_mark b

marks : (s : Sym) → first_mark (symbol_bytes s) ≡ true
marks sym_of.RoundOpen = refl
marks _ = refl

symbol_first : (s : Sym) (b : ℕ) (q : List ℕ) → b ∷ q ≡ symbol_bytes s → is_mark b ≡ true
symbol_first s b q e = ap first_mark e ∙ marks s

pub starts : (kind : Piece) (b : ℕ) (q : List ℕ) → Spells kind (b ∷ q) → Starts kind b
starts piece.Separator b q h = run_first is_separator b q h
starts piece.Comment b q (inl c) = cc (c.whole)
starts piece.Comment b q (inr c) = cc (c.whole)
starts piece.Unended b q (inl c) = inl (cc (c.whole))
starts piece.Unended b q (inr c) = inr (cc (c.whole))
starts piece.Word b q h = h.0
starts piece.Integer b q h = run_first is_digit b q h
starts piece.Real b q (inl r) = digits_first b q r.digits _ r.whole r.digits_right
starts piece.Real b q (inr r) = digits_first b q r.digits _ r.whole r.digits_right
starts piece.Text b q h = cc (h.whole)
starts (piece.Symbol s) b q h = symbol_first s b q h

no_digits : (ds r : List ℕ) → [] ≡ ds ++ r → IsRun is_digit ds → ⊥
no_digits [] r e run = run.0 refl
no_digits (d ∷ ds) r e run = cc

pub some_bytes : (kind : Piece) → Spells kind [] → ⊥
some_bytes piece.Separator h = h.0 refl
some_bytes piece.Comment (inl c) = cc (c.whole)
some_bytes piece.Comment (inr c) = cc (c.whole)
some_bytes piece.Unended (inl c) = cc (c.whole)
some_bytes piece.Unended (inr c) = cc (c.whole)
some_bytes piece.Word h = h
some_bytes piece.Integer h = h.0 refl
some_bytes piece.Real (inl r) = no_digits r.digits _ r.whole r.digits_right
some_bytes piece.Real (inr r) = no_digits r.digits _ r.whole r.digits_right
some_bytes piece.Text h = cc (h.whole)
some_bytes (piece.Symbol s) h = cc (ap first_mark h ∙ marks s)

-- ---- runs

pub most : (p : ℕ → Bool) (t q s : List ℕ) → t ≡ q ++ s → list_all p q ≡ true → length q ≤ length (take_while p t)
most p t [] s e all = omega arith
most p [] (c ∷ q) s e all = cc
most p (b ∷ t) (c ∷ q) s e all =
    let same : c ≡ b = cc in let rest : t ≡ q ++ s = cc in
    let each = both (p c) (list_all p q) all in
    let here : p b ≡ true = ap p (sym same) ∙ each.0 in
    rw (take_while-cons p b t, here) (let less = most p t q s rest each.1 in omega (arith, less))

pub all_pass : (p : ℕ → Bool) (t : List ℕ) → list_all p (take_while p t) ≡ true
all_pass p [] = refl
all_pass p (b ∷ t) = rw (take_while-cons p b t) (go (p b) refl (all_pass p t))
  where
    go : (x : Bool) → p b ≡ x → list_all p (take_while p t) ≡ true → list_all p (cond x (b ∷ take_while p t) []) ≡ true
    go true h rest = both_true h rest
    go false h rest = refl

pub first_run : (p : ℕ → Bool) (b : ℕ) (t : List ℕ) → p b ≡ true → take_while p (b ∷ t) ≡ b ∷ take_while p t
first_run p b t h = take_while-cons p b t ∙ ap (λ x. cond x (b ∷ take_while p t) []) h

pub run_split : (p : ℕ → Bool) (t : List ℕ) → t ≡ take_while p t ++ drop (length (take_while p t)) t
run_split p t = sym (ap (λ n. take_while p t ++ drop n t) (length-prefix_len p t) ∙ take-append-drop (prefix_len p t) t)

-- a front is no longer than the whole
pub front_within : (p : ℕ → Bool) (t : List ℕ) → length (take_while p t) ≤ length t
front_within p t = omega (arith, length-take (prefix_len p t) t)
