-- Lists whose elements are answered one by one.
use Rattle.std.proofs.Common.{◌≡◌, refl, ap, ◌∙◌, sym, subst, ℕ, zero, suc, List, [], ◌∷◌, map, length, slice_get, Option, Some, None, option_map, Result, Ok, All, arith}
use Rattle.std.proofs.lemmas.Option.{slice_get-map, slice_get_within, get_or_from_slice_get}
use Rattle.std.proofs.lemmas.List.Elements.{All-head, All-tail}
use Rattle.flat_types.specs.declared.ends.TypeCode.{TypeCode}

-- as many as there were
pub answered_length : {A B : Type 0} (f : A → Result B TypeCode) (xs : List A) (ys : List B) → map f xs ≡ map (λ y. Ok y) ys → length xs ≡ length ys
answered_length f [] [] is = refl
answered_length f [] (y ∷ ys) is = absurd (cc is)
answered_length f (x ∷ xs) [] is = absurd (cc is)
answered_length f (x ∷ xs) (y ∷ ys) is = ap suc (answered_length f xs ys (cc is))

-- what holds of each holds of its answer
pub answered_all : {A B : Type 0} (f : A → Result B TypeCode) (P : A → Type 0) (Q : B → Type 0) → ((x : A) (y : B) → f x ≡ Ok y → P x → Q y)
    → (xs : List A) (ys : List B) → map f xs ≡ map (λ y. Ok y) ys → All P xs → All Q ys
answered_all f P Q step xs [] is all k d lt = absurd (omega (arith, lt))
answered_all f P Q step [] (y ∷ ys) is all k d lt = absurd (cc is)
answered_all f P Q step (x ∷ xs) (y ∷ ys) is all zero d lt = step x y (cc is) (All-head P x xs all)
answered_all f P Q step (x ∷ xs) (y ∷ ys) is all (suc k) d lt = answered_all f P Q step xs ys (cc is) (All-tail P x xs all) k d (omega (arith, lt))

-- the answer of one of them
pub answered_at : {A B : Type 0} (f : A → Result B TypeCode) (xs : List A) (ys : List B) (k : ℕ) (x : A) → map f xs ≡ map (λ y. Ok y) ys → slice_get xs k ≡ Some x
    → (y : B) × (slice_get ys k ≡ Some y) × (f x ≡ Ok y)
answered_at {A} {B} f xs ys k x e is = by (slice_get ys k) refl (sym (ap (option_map f) is) ∙ sym (slice_get-map f xs k) ∙ ap (λ zs. slice_get zs k) e ∙ slice_get-map (λ y. Ok y) ys k)
  where
    by : (o : Option B) → slice_get ys k ≡ o → Some (f x) ≡ option_map (λ y. Ok y) o → (y : B) × (slice_get ys k ≡ Some y) × (f x ≡ Ok y)
    by (Some y) at p = (y, at, cc p)
    by None at p = absurd (cc p)

-- what holds of all holds of one of them
pub all_at : {A : Type 0} (P : A → Type 0) (xs : List A) (i : ℕ) (x : A) → All P xs → slice_get xs i ≡ Some x → P x
all_at P xs i x all at = subst P (get_or_from_slice_get xs i x x at) (all i x (slice_get_within xs i x at))
