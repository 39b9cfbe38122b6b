-- Flags of the numbers that stand in a list.
use Rattle.std.proofs.Common.{◌≡◌, ap, sym, subst, ◌∙◌, ◌↔◌, inl, inr, ℕ, suc, ◌+◌, ◌<◌, Bool, true, List, length, take, get_or, set, arith, add-one}
use Rattle.std.specs.List.{Contains}
use Rattle.std.proofs.lemmas.Bool.{cases_eq}
use Rattle.std.proofs.lemmas.List.{get_or-set_same, get_or-set_other}
use Rattle.eq_order.proofs.Reading.{take_cases, take_old, take_new}

-- the flags below a bound are set for just the first n of some numbers
abbrev pub AreMarks : List ℕ → ℕ → ℕ → List Bool → Type 0
AreMarks all count n used = (i : ℕ) → i < count → (get_or used i true ≡ true) ↔ Contains (take n all) i

pub marks_more : (all : List ℕ) (count n : ℕ) (used new : List Bool) → n < length all → length used ≡ count → new ≡ set used (get_or all n 0) true
    → AreMarks all count n used → AreMarks all count (n + 1) new
marks_more all count n used new within size is are =
    subst (AreMarks all count (n + 1)) (sym is) (subst (λ m. AreMarks all count m (set used (get_or all n 0) true)) (sym (add-one n)) (λ i below. elim (cases_eq i (get_or all n 0)) [
      | inl same ↦ (
        λ _. subst (Contains (take (suc n) all)) (sym same) (take_new all n within),
        λ _. ap (λ k. get_or (set used (get_or all n 0) true) k true) same ∙ get_or-set_same used (get_or all n 0) true true (omega (arith, same, below, size)),
      )
      | inr other ↦
          let keep : get_or (set used (get_or all n 0) true) i true ≡ get_or used i true = get_or-set_other used (get_or all n 0) i true true other in (
            λ set_now. take_old all n i ((are i below).0 (sym keep ∙ set_now)),
            λ found. keep ∙ (are i below).1 (elim (take_cases all n i within found) [
              | inl before ↦ before
              | inr last ↦ absurd (other (sym last))
            ]),
          )
    ]))
