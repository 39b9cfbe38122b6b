-- The least number that a base partition has, with one base partition more, and what it says of the model.
use Rattle.std.proofs.Common.{◌≡◌, refl, ap, sym, ◌∙◌, ℕ, ◌+◌, ◌<◌, ◌≤◌, inl, inr, ⊎_elim, ◌⊎◌, Bool, true, false, if◌then◌else◌, nat_lt, List, [], ◌∷◌, ◌++◌, length, slice_index_or, Some, None, Option, arith}
use Rattle.std.proofs.lemmas.List.{length-append, get_or_push, get_or_append_left}
use Rattle.std.proofs.lemmas.Bool.{cases_eq}
use Rattle.std.proofs.lemmas.Bool.Decides.{nat_tests}
use Rattle.clock_terms.specs.declared.data.Classes.{Classes}
use Rattle.clock_terms.specs.declared.data.Constructor.{Constructor}
use Rattle.base_partition.specs.declared.source.Sources.{Sources}
use Rattle.base_partition.specs.private.Sources.{no_sources, AreKept, mixed_in, lesser_of, IsLeastOf, IsFirstMixed}
use Rattle.base_partition.proofs.Summing.{second_mixed, mixed_second}

module _ (bases : List Sources) (b : Sources) where
  abbrev at : ℕ → Option ℕ
  at p = mixed_in (slice_index_or bases p no_sources)

  abbrev after : ℕ → Option ℕ
  after p = mixed_in (slice_index_or (bases ++ b ∷ []) p no_sources)

  longer : length (bases ++ b ∷ []) ≡ length bases + 1
  longer = length-append bases (b ∷ [])

  before_end : (p : ℕ) → p < length bases → after p ≡ at p
  before_end p lt = ap mixed_in (get_or_append_left bases (b ∷ []) no_sources p lt)

  at_end : (p : ℕ) → p ≡ length bases → after p ≡ mixed_in b
  at_end p is = ap mixed_in (get_or_push bases b no_sources p (sym is))

  old_or_last : (p : ℕ) → p < length (bases ++ b ∷ []) → (p < length bases) ⊎ (p ≡ length bases)
  old_or_last p lt = elim (cases_eq p (length bases)) [ inl e ↦ inr e | inr ne ↦ inl (let n = longer in omega (arith, lt, n, ne)) ]

  still : (p : ℕ) → p < length bases → p < length (bases ++ b ∷ [])
  still p lt = let n = longer in omega (arith, lt, n)

  last : length bases < length (bases ++ b ∷ [])
  last = let n = longer in omega (arith, n)

  pub least_push : (found mine : Option ℕ) → mixed_in b ≡ mine → IsLeastOf bases found → IsLeastOf (bases ++ b ∷ []) (lesser_of found mine)
  least_push None None is h = λ p lt. ⊎_elim (λ old. before_end p old ∙ h p old) (λ e. at_end p e ∙ is) (old_or_last p lt)
  least_push None (Some e) is h = (
    (length bases, last, at_end (length bases) refl ∙ is),
    λ p d lt less has. ⊎_elim
        (λ old. absurd (let no_number : None ≡ Some d = sym (h p old) ∙ sym (before_end p old) ∙ has in cc no_number))
        (λ end. let same : e ≡ d = (let both : Some e ≡ Some d = sym is ∙ sym (at_end p end) ∙ has in cc both) in omega (arith, less, same))
        (old_or_last p lt),
  )
  least_push (Some a) None is h = (
    (h.0.0, still h.0.0 h.0.1, before_end h.0.0 h.0.1 ∙ h.0.2),
    λ p d lt less has. ⊎_elim
        (λ old. h.1 p d old less (sym (before_end p old) ∙ has))
        (λ end. absurd (let no_number : None ≡ Some d = sym is ∙ sym (at_end p end) ∙ has in cc no_number))
        (old_or_last p lt),
  )
  least_push (Some a) (Some e) is h = by_test (nat_lt e a) refl
    where
      by_test : (t : Bool) → nat_lt e a ≡ t → IsLeastOf (bases ++ b ∷ []) (if t then Some e else Some a)
      by_test true lower =
          let below : e < a = grind (arith, nat_tests, lower) in (
            (length bases, last, at_end (length bases) refl ∙ is),
            λ p d lt less has. ⊎_elim
                (λ old. h.1 p d old (omega (arith, below, less)) (sym (before_end p old) ∙ has))
                (λ end. let same : e ≡ d = (let both : Some e ≡ Some d = sym is ∙ sym (at_end p end) ∙ has in cc both) in omega (arith, less, same))
                (old_or_last p lt),
          )
      by_test false higher =
          let above : a ≤ e = grind (arith, nat_tests, higher) in (
            (h.0.0, still h.0.0 h.0.1, before_end h.0.0 h.0.1 ∙ h.0.2),
            λ p d lt less has. ⊎_elim
                (λ old. h.1 p d old less (sym (before_end p old) ∙ has))
                (λ end. let same : e ≡ d = (let both : Some e ≡ Some d = sym is ∙ sym (at_end p end) ∙ has in cc both) in omega (arith, less, same, above))
                (old_or_last p lt),
          )

pub first_mixed : (classes : Classes) (constructors : List Constructor) (bases : List Sources) (count : ℕ) (found : Option ℕ) → length bases ≡ count → AreKept classes constructors bases → IsLeastOf bases found → IsFirstMixed classes constructors count found
first_mixed classes constructors bases count None size kept h = λ p e lt s.
    let within : p < length bases = omega (arith, lt, size) in
    let both : None ≡ Some e = sym (h p within) ∙ ap mixed_in (kept p within) ∙ mixed_second classes constructors p e s in
    cc both
first_mixed classes constructors bases count (Some e) size kept h = (
  (h.0.0, (let w = h.0.1 in omega (arith, w, size)), second_mixed classes constructors h.0.0 e (sym (ap mixed_in (kept h.0.0 h.0.1)) ∙ h.0.2)),
  λ p d lt less s.
      let within : p < length bases = omega (arith, lt, size) in
      h.1 p d within less (ap mixed_in (kept p within) ∙ mixed_second classes constructors p d s),
)
