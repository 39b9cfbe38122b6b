-- Lists that are written place by place.
use Rattle.std.proofs.Common.{◌≡◌, ◌≢◌, refl, ap, ap₂, ◌∙◌, sym, subst, ℕ, zero, suc, ◌+◌, ◌<◌, ◌≤◌, List, [], ◌∷◌, length, map, get_or, length-set, Option, Some, None, slice_get, slice_set, inl, inr, arith}
use Rattle.std.specs.Prelude.{option_map}
use Rattle.std.proofs.lemmas.Bool.{cases_eq, cases_lt}
use Rattle.std.proofs.lemmas.Option.{none-some, same_Some, slice_get-map, slice_get-get_or, slice_get_past}
use Rattle.partition_step.specs.Writing.{IsWritten}

pub set_same : {A : Type 0} (xs : List A) (i : ℕ) (a : A) → i < length xs → slice_get (slice_set xs i a) i ≡ Some a
set_same [] i a h = absurd (omega (arith, h))
set_same (x ∷ xs) zero a h = refl
set_same (x ∷ xs) (suc i) a h = set_same xs i a (omega (arith, h))

pub set_other : {A : Type 0} (xs : List A) (i j : ℕ) (a : A) → j ≢ i → slice_get (slice_set xs i a) j ≡ slice_get xs j
set_other [] i j a h = refl
set_other (x ∷ xs) zero zero a h = absurd (h refl)
set_other (x ∷ xs) zero (suc j) a h = refl
set_other (x ∷ xs) (suc i) zero a h = refl
set_other (x ∷ xs) (suc i) (suc j) a h = set_other xs i j a (λ e. h (ap suc e))

-- the places below a number are written, and the others are as they were
pub record WrittenTo {A : Type 0} (write : ℕ → A → A) (old : List A) (i : ℕ) (now : List A) : Type 0 where
  pub size : length now ≡ length old
  pub done : (j : ℕ) → j < i → slice_get now j ≡ option_map (write j) (slice_get old j)
  pub rest : (j : ℕ) → i ≤ j → slice_get now j ≡ slice_get old j

pub written_first : {A : Type 0} (write : ℕ → A → A) (old : List A) → WrittenTo write old 0 old
written_first write old = record { size = refl; done = λ j lt. absurd (omega (arith, lt)); rest = λ j le. refl }

pub written_next : {A : Type 0} (write : ℕ → A → A) (old now : List A) (i : ℕ) (x d : A) → WrittenTo write old i now → i < length now → x ≡ write i (get_or now i d) → WrittenTo write old (i + 1) (slice_set now i x)
written_next write old now i x d written lt is = record {
  size = length-set now i x ∙ written.size;
  done = λ j less. elim (cases_eq j i) [
    | inl here ↦ subst (λ k. slice_get (slice_set now i x) k ≡ option_map (write k) (slice_get old k)) (sym here)
        (set_same now i x lt ∙ ap Some is ∙ sym (ap (option_map (write i)) (sym (written.rest i (omega arith)) ∙ slice_get-get_or now i d lt)))
    | inr other ↦ set_other now i j x other ∙ written.done j (omega (arith, less, other))
  ];
  rest = λ j le. set_other now i j x (λ e. omega (arith, le, e)) ∙ written.rest j (omega (arith, le));
}

pub written_last : {A : Type 0} (write : ℕ → A → A) (old now : List A) (i : ℕ) → WrittenTo write old i now → length old ≤ i → IsWritten write old now
written_last write old now i written all = record {
  size = written.size;
  each = λ j. elim (cases_lt j i) [
    | inl less ↦ written.done j less
    | inr past ↦ slice_get_past now j (let same = written.size in omega (arith, past, all, same)) ∙ sym (ap (option_map (write j)) (slice_get_past old j (omega (arith, past, all))))
  ];
}

-- nothing is written
module _ {A : Type 0} (write : ℕ → A → A) (old : List A) (same : (i : ℕ) (a : A) → write i a ≡ a) where
  stays : (i : ℕ) (o : Option A) → o ≡ option_map (write i) o
  stays i None = refl
  stays i (Some a) = ap Some (sym (same i a))

  pub written_none : IsWritten write old old
  written_none = record { size = refl; each = λ i. stays i (slice_get old i) }

pub lists_same : {A : Type 0} (xs ys : List A) → ((i : ℕ) → slice_get xs i ≡ slice_get ys i) → xs ≡ ys
lists_same [] [] same = refl
lists_same [] (y ∷ ys) same = absurd (none-some y (same 0))
lists_same (x ∷ xs) [] same = absurd (none-some x (sym (same 0)))
lists_same (x ∷ xs) (y ∷ ys) same = ap₂ (λ a b. a ∷ b) (same_Some x y (same 0)) (lists_same xs ys (λ i. same (suc i)))

pub some_at : {A : Type 0} (xs : List A) (i : ℕ) → i < length xs → (x : A) × (slice_get xs i ≡ Some x)
some_at [] i lt = absurd (omega (arith, lt))
some_at (x ∷ xs) zero lt = (x, refl)
some_at (x ∷ xs) (suc i) lt = some_at xs i (omega (arith, lt))

pub none_past : {A : Type 0} (xs : List A) (i : ℕ) → slice_get xs i ≡ None → length xs ≤ i
none_past [] i none = omega arith
none_past (x ∷ xs) zero none = absurd (none-some x (sym none))
none_past (x ∷ xs) (suc i) none = let le = none_past xs i none in omega (arith, le)

-- an element of a list by a function of another
pub map_at : {A B : Type 0} (f : A → B) (xs : List A) (i : ℕ) (y : B) → slice_get (map f xs) i ≡ Some y → (x : A) × (slice_get xs i ≡ Some x) × (f x ≡ y)
map_at f [] i y found = absurd (none-some y found)
map_at f (x ∷ xs) zero y found = (x, refl, same_Some (f x) y found)
map_at f (x ∷ xs) (suc i) y found = map_at f xs i y found

pub at_map : {A B : Type 0} (f : A → B) (xs : List A) (i : ℕ) (x : A) → slice_get xs i ≡ Some x → slice_get (map f xs) i ≡ Some (f x)
at_map f xs i x found = slice_get-map f xs i ∙ ap (option_map f) found

pub written_at : {A : Type 0} (write : ℕ → A → A) (old new : List A) (i : ℕ) (a : A) → IsWritten write old new → slice_get old i ≡ Some a → slice_get new i ≡ Some (write i a)
written_at write old new i a written found = written.each i ∙ ap (option_map (write i)) found

module _ {A : Type 0} (write : ℕ → A → A) (old new : List A) (i : ℕ) (b : A) (written : IsWritten write old new) (found : slice_get new i ≡ Some b) where
  by_old : (o : Option A) → slice_get old i ≡ o → (a : A) × (slice_get old i ≡ Some a) × (b ≡ write i a)
  by_old None none = absurd (none-some b (sym (written.each i ∙ ap (option_map (write i)) none) ∙ found))
  by_old (Some a) some = (a, some, same_Some b (write i a) (sym found ∙ written.each i ∙ ap (option_map (write i)) some))

  pub written_back : (a : A) × (slice_get old i ≡ Some a) × (b ≡ write i a)
  written_back = by_old (slice_get old i) refl

-- what writing leaves as it was
module _ {A B : Type 0} (f : A → B) (write : ℕ → A → A) (old new : List A) (written : IsWritten write old new) (same : (i : ℕ) (a : A) → slice_get old i ≡ Some a → f (write i a) ≡ f a) where
  kept_by : (i : ℕ) (o : Option A) → slice_get old i ≡ o → option_map f (option_map (write i) o) ≡ option_map f o
  kept_by i None none = refl
  kept_by i (Some a) some = ap Some (same i a some)

  pub map_kept : map f new ≡ map f old
  map_kept = lists_same (map f new) (map f old) (λ i. slice_get-map f new i ∙ ap (option_map f) (written.each i) ∙ kept_by i (slice_get old i) refl ∙ sym (slice_get-map f old i))
