-- Words that are written one after the other.
use Rattle.std.proofs.Common.{◌≡◌, refl, ap, sym, subst, ◌∙◌, ℕ, zero, suc, ◌+◌, ◌<◌, ◌≤◌, ℤ, pos, List, [], ◌∷◌, length, get_or, Option, Some, None, slice_get, slice_set, inl, inr, arith}
use Rattle.std.proofs.lemmas.Bool.{cases_eq}
use Rattle.std.proofs.lemmas.Option.{same_Some, none-some, slice_get_within, slice_get-get_or}
use Rattle.cell_keys.specs.declared.key.CellKey.{CellKey}
use Rattle.step_code.specs.Machine.{word_at}
use Rattle.tree_step.specs.declared.cell.Cell.{Cell}
use Rattle.tree_step.specs.Starts.{Sight}
use Rattle.part_words.specs.Words.{key_word, AreFilled}

written_same : (words : List ℤ) (c : ℕ) (w : ℤ) → c < length words → word_at (slice_set words c w) c ≡ w
written_same (x ∷ words) zero w within = refl
written_same (x ∷ words) (suc c) w within = written_same words c w (omega (arith, within))
written_same [] c w within = absurd (omega (arith, within))

written_other : (words : List ℤ) (c d : ℕ) (w : ℤ) → (d ≡ c → ⊥) → word_at (slice_set words c w) d ≡ word_at words d
written_other [] c d w other = refl
written_other (x ∷ words) zero zero w other = absurd (other refl)
written_other (x ∷ words) zero (suc d) w other = refl
written_other (x ∷ words) (suc c) zero w other = refl
written_other (x ∷ words) (suc c) (suc d) w other = written_other words c d w (λ is. other (ap suc is))

-- the words of the first keys are written
pub record AreFilledTo (sight : Sight) (cells : List Cell) (keys : List CellKey) (old : List ℤ) (i : ℕ) (words : List ℤ) : Type 0 where
  pub size : length words ≡ length old
  pub each : (c : ℕ) (k : CellKey) → c < i → slice_get keys c ≡ Some k → word_at words c ≡ key_word sight cells k

module _ (sight : Sight) (cells : List Cell) (keys : List CellKey) (old : List ℤ) where
  pub filled_next : (i : ℕ) (words new : List ℤ) (k : CellKey) (w : ℤ) → AreFilledTo sight cells keys old i words → length keys ≤ length old → slice_get keys i ≡ Some k → w ≡ key_word sight cells k → length new ≡ length words → new ≡ slice_set words i w
      → AreFilledTo sight cells keys old (i + 1) new
  filled_next i words new k w to long found is size new_is = record {
    size = size ∙ to.size;
    each = λ c other less at. ap (λ ws. word_at ws c) new_is ∙ by_place c other less at;
  }
    where
      within : i < length words
      within = let there = slice_get_within keys i k found in let same = to.size in omega (arith, there, long, same)

      by_place : (c : ℕ) (other : CellKey) → c < i + 1 → slice_get keys c ≡ Some other → word_at (slice_set words i w) c ≡ key_word sight cells other
      by_place c other less at = elim (cases_eq c i) [
        | inl here ↦ ap (word_at (slice_set words i w)) here ∙ written_same words i w within ∙ is ∙ ap (key_word sight cells) (same_Some k other (sym found ∙ ap (slice_get keys) (sym here) ∙ at))
        | inr there ↦ written_other words i c w there ∙ to.each c other (omega (arith, less, there)) at
      ]

  pub filled_all : (i : ℕ) (words : List ℤ) → AreFilledTo sight cells keys old i words → length keys ≤ i → AreFilled sight cells keys words
  filled_all i words to all c k found = to.each c k (let within = slice_get_within keys c k found in omega (arith, within, all)) found
