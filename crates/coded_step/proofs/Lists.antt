-- Lists that are written place by place.
use Rattle.std.proofs.Common.{◌≡◌, ◌≢◌, refl, ap, ap₂, ◌∙◌, sym, subst, ℕ, zero, suc, ◌+◌, ◌<◌, ◌≤◌, List, [], ◌∷◌, length, get_or, length-set, Option, Some, None, slice_get, slice_set, inl, inr, arith}
use Rattle.std.specs.Prelude.{option_map}
use Rattle.std.proofs.lemmas.Bool.{cases_eq, cases_lt}
use Rattle.std.proofs.lemmas.Option.{none-some, same_Some, slice_get-get_or, slice_get_past}

set_same : {A : Type 0} (xs : List A) (i : ℕ) (a : A) → i < length xs → slice_get (slice_set xs i a) i ≡ Some a
set_same [] i a h = absurd (omega (arith, h))
set_same (x ∷ xs) zero a h = refl
set_same (x ∷ xs) (suc i) a h = set_same xs i a (omega (arith, h))

set_other : {A : Type 0} (xs : List A) (i j : ℕ) (a : A) → j ≢ i → slice_get (slice_set xs i a) j ≡ slice_get xs j
set_other [] i j a h = refl
set_other (x ∷ xs) zero zero a h = absurd (h refl)
set_other (x ∷ xs) zero (suc j) a h = refl
set_other (x ∷ xs) (suc i) zero a h = refl
set_other (x ∷ xs) (suc i) (suc j) a h = set_other xs i j a (λ e. h (ap suc e))

-- the places below a number are written, and the others are as they were
pub record WrittenTo {A : Type 0} (write : ℕ → A → A) (old : List A) (i : ℕ) (now : List A) : Type 0 where
  pub size : length now ≡ length old
  pub done : (j : ℕ) → j < i → slice_get now j ≡ option_map (write j) (slice_get old j)
  pub rest : (j : ℕ) → i ≤ j → slice_get now j ≡ slice_get old j

pub written_first : {A : Type 0} (write : ℕ → A → A) (old : List A) → WrittenTo write old 0 old
written_first write old = record { size = refl; done = λ j lt. absurd (omega (arith, lt)); rest = λ j le. refl }

pub written_next : {A : Type 0} (write : ℕ → A → A) (old now : List A) (i : ℕ) (x d : A) → WrittenTo write old i now → i < length now → x ≡ write i (get_or now i d) → WrittenTo write old (i + 1) (slice_set now i x)
written_next write old now i x d written lt is = record {
  size = length-set now i x ∙ written.size;
  done = λ j less. elim (cases_eq j i) [
    | inl here ↦ subst (λ k. slice_get (slice_set now i x) k ≡ option_map (write k) (slice_get old k)) (sym here)
        (set_same now i x lt ∙ ap Some is ∙ sym (ap (option_map (write i)) (sym (written.rest i (omega arith)) ∙ slice_get-get_or now i d lt)))
    | inr other ↦ set_other now i j x other ∙ written.done j (omega (arith, less, other))
  ];
  rest = λ j le. set_other now i j x (λ e. omega (arith, le, e)) ∙ written.rest j (omega (arith, le));
}

pub written_last : {A : Type 0} (write : ℕ → A → A) (old now : List A) (i : ℕ) → WrittenTo write old i now → length old ≤ i → (length now ≡ length old) × ((j : ℕ) → slice_get now j ≡ option_map (write j) (slice_get old j))
written_last write old now i written all = (
  written.size,
  λ j. elim (cases_lt j i) [
    | inl less ↦ written.done j less
    | inr past ↦ slice_get_past now j (let same = written.size in omega (arith, past, all, same)) ∙ sym (ap (option_map (write j)) (slice_get_past old j (omega (arith, past, all))))
  ],
)
