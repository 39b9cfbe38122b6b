-- The uses of a model are in an order in which none reads what a later one reaches, and stay so where they are taken part by part.
use Rattle.std.proofs.Common.{◌≡◌, refl, ap, ◌∙◌, sym, subst, ℕ, zero, suc, Bool, true, false, List, [], ◌∷◌, ◌++◌, map, Some, slice_get, Contains, if◌then◌else◌, ◌⊎◌, inl, inr, arith}
use Rattle.std.proofs.lemmas.List.Elements.{Contains-append_left, Contains-append_right}
use Rattle.std.proofs.lemmas.Option.{same_Some}
use Rattle.flat_model.specs.declared.equation.Equation.{Equation}
use Rattle.flat_model.specs.Setting.{Setting}
use Rattle.flat_model.specs.Uses.{Use, EquationReads, IsUnreached, AreUsesAfter, AreUses, reached_names}
use Rattle.moment_theory.specs.Division.{uses_where}
use Rattle.moment_theory.specs.Free.{IsReachedBy}
use Rattle.moment_theory.proofs.Members.{IsMember}

-- no use reads or reaches what a later one reaches
abbrev pub AreReadFree : Setting → List Use → Type 0
AreReadFree s [] = Unit {0}
AreReadFree s (entry ∷ later) =
    ((equation : Equation) (y : ℕ) → slice_get s.model.equations entry.equation ≡ Some equation → EquationReads s entry.equation equation y → IsReachedBy y later → ⊥)
    × (IsReachedBy entry.name later → ⊥) × AreReadFree s later

Contains-map : {A B : Type 0} (f : A → B) (xs : List A) (x : A) → Contains xs x → Contains (map f xs) (f x)
Contains-map f [] x (k, lt, e) = absurd (omega arith)
Contains-map f (y ∷ xs) x (zero, lt, e) = (0, omega arith, ap f e)
Contains-map f (y ∷ xs) x (suc k, lt, e) = let (j, less, is) = Contains-map f xs x (k, omega arith, e) in (suc j, omega arith, is)

reached_push : (uses : List Use) (entry : Use) → Contains (reached_names (uses ++ entry ∷ [])) entry.name
reached_push uses entry = Contains-map (λ u. u.name) (uses ++ entry ∷ []) entry (Contains-append_right uses (entry ∷ []) entry (0, omega arith, refl))

reached_more : (uses more : List Use) (y : ℕ) → Contains (reached_names uses) y → Contains (reached_names (uses ++ more)) y
reached_more uses more y h = subst (λ ns. Contains ns y) (sym (map-append uses more)) (Contains-append_left (reached_names uses) (reached_names more) y h)
  where
    map-append : (xs ys : List Use) → reached_names (xs ++ ys) ≡ reached_names xs ++ reached_names ys
    map-append [] ys = refl
    map-append (x ∷ xs) ys = ap (λ ns. x.name ∷ ns) (map-append xs ys)

-- what a use is still to reach is unreached
later_unreached : (s : Setting) (done rest : List Use) → AreUsesAfter s done rest → (y : ℕ) → IsReachedBy y rest → IsUnreached s done y
later_unreached s done [] are y reached = absurd reached
later_unreached s done (entry ∷ rest) are y (inl is) = subst (IsUnreached s done) (sym is) are.0.reaches.unreached
later_unreached s done (entry ∷ rest) are y (inr reached) =
    let later = later_unreached s (done ++ entry ∷ []) rest are.1 y reached in record {
      name = later.name;
      found = later.found;
      valued = later.valued;
      own = later.own;
      later = λ h. later.later (reached_more done (entry ∷ []) y h);
    }

pub uses_read_free : (s : Setting) (done rest : List Use) → AreUsesAfter s done rest → AreReadFree s rest
uses_read_free s done [] are = tt
uses_read_free s done (entry ∷ rest) are = (
  (λ equation y found reads reached.
      let later = later_unreached s (done ++ entry ∷ []) rest are.1 y reached in
      let same = same_Some equation are.0.reaches.equation (sym found ∙ are.0.reaches.found) in
      let own = are.0.reaches.only y (subst (λ q. EquationReads s entry.equation q y) same reads) (later_unreached s done (entry ∷ rest) are y (inr reached)) in
      later.later (subst (Contains (reached_names (done ++ entry ∷ []))) (sym own) (reached_push done entry))),
  (λ reached. (later_unreached s (done ++ entry ∷ []) rest are.1 entry.name reached).later (reached_push done entry)),
  uses_read_free s (done ++ entry ∷ []) rest are.1,
)

pub read_free : (s : Setting) (uses : List Use) → AreUses s uses → AreReadFree s uses
read_free s uses are = uses_read_free s [] uses are

reached_kept : (p : Use → Bool) (uses : List Use) (y : ℕ) → IsReachedBy y (uses_where p uses) → IsReachedBy y uses
reached_kept p [] y h = h
reached_kept p (entry ∷ uses) y h = by_test (p entry) (reached_kept p uses y) h
  where
    by_test : (b : Bool) → (IsReachedBy y (uses_where p uses) → IsReachedBy y uses) → IsReachedBy y (if b then (entry ∷ uses_where p uses) else uses_where p uses) → IsReachedBy y (entry ∷ uses)
    by_test true rest (inl is) = inl is
    by_test true rest (inr h) = inr (rest h)
    by_test false rest h = inr (rest h)

pub kept_free : (s : Setting) (p : Use → Bool) (uses : List Use) → AreReadFree s uses → AreReadFree s (uses_where p uses)
kept_free s p [] free = tt
kept_free s p (entry ∷ uses) free = by_test (p entry) (kept_free s p uses free.2)
  where
    by_test : (b : Bool) → AreReadFree s (uses_where p uses) → AreReadFree s (if b then (entry ∷ uses_where p uses) else uses_where p uses)
    by_test true rest = ((λ equation y found reads h. free.0 equation y found reads (reached_kept p uses y h)), (λ h. free.1 (reached_kept p uses entry.name h)), rest)
    by_test false rest = rest

reached_append : (xs ys : List Use) (y : ℕ) → IsReachedBy y (xs ++ ys) → IsReachedBy y xs ⊎ IsReachedBy y ys
reached_append [] ys y h = inr h
reached_append (x ∷ xs) ys y (inl is) = inl (inl is)
reached_append (x ∷ xs) ys y (inr h) = elim (reached_append xs ys y h) [
  | inl a ↦ inl (inr a)
  | inr b ↦ inr b
]

-- one list of uses behind another that reads nothing of it
pub append_free : (s : Setting) (xs ys : List Use) → AreReadFree s xs → AreReadFree s ys
    → ((entry : Use) (equation : Equation) (y : ℕ) → IsMember entry xs → slice_get s.model.equations entry.equation ≡ Some equation → EquationReads s entry.equation equation y → IsReachedBy y ys → ⊥)
    → ((entry : Use) → IsMember entry xs → IsReachedBy entry.name ys → ⊥) → AreReadFree s (xs ++ ys)
append_free s [] ys one two reads names = two
append_free s (x ∷ xs) ys one two reads names = (
  (λ equation y found r h. elim (reached_append xs ys y h) [
    | inl a ↦ one.0 equation y found r a
    | inr b ↦ reads x equation y (inl refl) found r b
  ]),
  (λ h. elim (reached_append xs ys x.name h) [
    | inl a ↦ one.1 a
    | inr b ↦ names x (inl refl) b
  ]),
  append_free s xs ys one.2 two (λ e q y m f r h. reads e q y (inr m) f r h) (λ e m h. names e (inr m) h),
)
