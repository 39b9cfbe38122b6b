-- Words and separators: the run of their bytes is the longest piece.
use Rattle.std.proofs.Common.{◌≡◌, ◌≢◌, ◌++◌, ◌∙◌, ℕ, Bool, true, List, [], ◌∷◌, length, ◌<◌, slice_index, refl, ap, sym, subst, arith}
use Rattle.std.specs.List.{list_all, take_while}
use Rattle.mo_lexer.specs.declared.piece.Piece.{Piece}
use Rattle.mo_lexer.specs.declared.piece.Piece.TheVariants as piece
use Rattle.mo_lexer.specs.Bytes.{is_separator, is_letter, is_word_byte}
use Rattle.mo_lexer.specs.Spelling.{Spells}
use Rattle.mo_lexer.specs.Tokens.{Begins}
use Rattle.mo_lexer.proofs.FirstBytes.{separator_only, word_only, spelled_as}
use Rattle.mo_lexer.proofs.Pieces.{both_true, begins, most, all_pass, first_run, run_split}

separator_alone : (other : Piece) (b : ℕ) (q : List ℕ) → is_separator b ≡ true → Spells other (b ∷ q) → list_all is_separator (b ∷ q) ≡ true
separator_alone other b q first h = (spelled_as (b ∷ q) (separator_only other b q first h) h).1

word_alone : (other : Piece) (b : ℕ) (q : List ℕ) → is_letter b ≡ true → Spells other (b ∷ q) → list_all is_word_byte (b ∷ q) ≡ true
word_alone other b q first h = both_true (rw first refl) (spelled_as (b ∷ q) (word_only other b q first h) h).1

-- a piece at the front of a text begins with the text's first byte
at_front : (p first : ℕ → Bool) (b : ℕ) (t : List ℕ) → first b ≡ true → ((other : Piece) (c : ℕ) (q : List ℕ) → first c ≡ true → Spells other (c ∷ q) → list_all p (c ∷ q) ≡ true)
    → (other : Piece) (q s : List ℕ) → b ∷ t ≡ q ++ s → Spells other q → list_all p q ≡ true
at_front p first b t is alone other [] s e h = refl
at_front p first b t is alone other (c ∷ q) s e h = let same : b ≡ c = cc in alone other c q (ap first (sym same) ∙ is) h

separators : (b : ℕ) (t : List ℕ) → is_separator b ≡ true → Begins piece.Separator (length (take_while is_separator (b ∷ t))) (b ∷ t)
separators b t first =
    let run = take_while is_separator (b ∷ t) in
    let some : run ≢ [] = λ none. let cons = first_run is_separator b t first in cc in
    begins piece.Separator run _ (b ∷ t) (run_split is_separator (b ∷ t)) (some, all_pass is_separator (b ∷ t))
    (λ other q s e h. most is_separator (b ∷ t) q s e (at_front is_separator is_separator b t first separator_alone other q s e h))

word : (b : ℕ) (t : List ℕ) → is_letter b ≡ true → Begins piece.Word (length (take_while is_word_byte (b ∷ t))) (b ∷ t)
word b t first =
    let cons = first_run is_word_byte b t (rw first refl) in
    begins piece.Word (take_while is_word_byte (b ∷ t)) _ (b ∷ t) (run_split is_word_byte (b ∷ t)) (subst (Spells piece.Word) (sym cons) (first, all_pass is_word_byte t))
    (λ other q s e h. most is_word_byte (b ∷ t) q s e (at_front is_word_byte is_letter b t first word_alone other q s e h))

pub separators_front : (t : List ℕ) → 0 < length t → is_separator (slice_index t 0) ≡ true → Begins piece.Separator (length (take_while is_separator t)) t
separators_front [] some first = absurd (omega arith)
separators_front (b ∷ t) some first = separators b t first

pub word_front : (t : List ℕ) → 0 < length t → is_letter (slice_index t 0) ≡ true → Begins piece.Word (length (take_while is_word_byte t)) t
word_front [] some first = absurd (omega arith)
word_front (b ∷ t) some first = word b t first
