-- The least failure of slots, told from the last one on.
use Rattle.std.proofs.Common.{◌≡◌, refl, ap, ap₂, ◌∙◌, sym, ℕ, zero, suc, ◌+◌, ◌-◌, ◌<◌, ◌≤◌, List, [], ◌∷◌, length, map, drop, get_or, Option, None, arith}
use Rattle.first_failure.specs.declared.least.EquationFailing.{EquationFailing}
use Rattle.moment_join.specs.Told.{earlier, earliest}
use Rattle.fork_steps.specs.declared.slot.Slot.{Slot}
use Rattle.moment_steps.specs.declared.piece.Piece.{Piece}
use Rattle.moment_steps.specs.Gathered.{told_in}

pub told_none : (slots : List (Slot Piece)) → None ≡ earliest (drop (length slots) (map told_in slots))
told_none [] = refl
told_none (slot ∷ slots) = told_none slots

told_at : (slots : List (Slot Piece)) (k : ℕ) (d : Slot Piece) → k < length slots → earliest (drop k (map told_in slots)) ≡ earlier (told_in (get_or slots k d)) (earliest (drop (suc k) (map told_in slots)))
told_at [] k d lt = absurd (omega (arith, lt))
told_at (slot ∷ slots) zero d lt = refl
told_at (slot ∷ slots) (suc k) d lt = told_at slots k d (omega (arith, lt))

pub told_back : (slots : List (Slot Piece)) (k : ℕ) (told one both : Option EquationFailing) (d : Slot Piece) → 0 < k → k ≤ length slots → told ≡ earliest (drop k (map told_in slots)) → one ≡ told_in (get_or slots (k - 1) d) → both ≡ earlier one told
    → both ≡ earliest (drop (k - 1) (map told_in slots))
told_back slots zero told one both d some le told_is one_is both_is = absurd (omega (arith, some))
told_back slots (suc k) told one both d some le told_is one_is both_is =
    let less : suc k - 1 ≡ k = omega arith in
    both_is ∙ ap₂ earlier (one_is ∙ ap (λ j. told_in (get_or slots j d)) less) told_is ∙ sym (told_at slots k d (omega (arith, le))) ∙ ap (λ j. earliest (drop j (map told_in slots))) (sym less)
