-- The uses of a setting reach each a name of its own.
use Rattle.std.proofs.Common.{◌≡◌, refl, ap, ◌∙◌, sym, subst, ℕ, zero, suc, ◌<◌, List, [], ◌∷◌, ◌++◌, length, Some, slice_get, Contains, arith}
use Rattle.std.proofs.lemmas.List.Elements.{Contains-append_left, Contains-append_right}
use Rattle.std.proofs.lemmas.Option.{none-some, same_Some, slice_get_within}
use Rattle.flat_model.specs.Setting.{Setting}
use Rattle.flat_model.specs.Uses.{Use, AreUsesAfter, AreUses, reached_names}
use Rattle.part_groups.specs.Units.{AreDistinct}

reached_append : (xs ys : List Use) → reached_names (xs ++ ys) ≡ reached_names xs ++ reached_names ys
reached_append [] ys = refl
reached_append (x ∷ xs) ys = ap (λ names. x.name ∷ names) (reached_append xs ys)

reached_more : (done : List Use) (entry : Use) (x : ℕ) → Contains (reached_names done) x → Contains (reached_names (done ++ entry ∷ [])) x
reached_more done entry x there = subst (λ names. Contains names x) (sym (reached_append done (entry ∷ []))) (Contains-append_left (reached_names done) (entry.name ∷ []) x there)

reached_last : (done : List Use) (entry : Use) → Contains (reached_names (done ++ entry ∷ [])) entry.name
reached_last done entry = subst (λ names. Contains names entry.name) (sym (reached_append done (entry ∷ []))) (Contains-append_right (reached_names done) (entry.name ∷ []) entry.name (0, omega arith, refl))

module _ (s : Setting) where
  -- what is reached before is not reached again
  not_again : (done rest : List Use) → AreUsesAfter s done rest → (x j : ℕ) (other : Use) → Contains (reached_names done) x → slice_get rest j ≡ Some other → other.name ≡ x → ⊥
  not_again done [] are x j other there found same = none-some other found
  not_again done (first ∷ rest) are x zero other there found same =
      are.0.reaches.unreached.later (subst (Contains (reached_names done)) (sym (ap (λ e. e.name) (same_Some first other found) ∙ same)) there)
  not_again done (first ∷ rest) are x (suc j) other there found same = not_again (done ++ first ∷ []) rest are.1 x j other (reached_more done first x there) found same

  named : (done rest : List Use) → AreUsesAfter s done rest → (i : ℕ) (entry : Use) → slice_get rest i ≡ Some entry → (name : ℕ) × (name ≡ entry.name) × (name < length s.model.names)
  named done [] are i entry found = absurd (none-some entry found)
  named done (first ∷ rest) are zero entry found = (first.name, ap (λ e. e.name) (same_Some first entry found), slice_get_within s.model.names first.name are.0.reaches.unreached.name are.0.reaches.unreached.found)
  named done (first ∷ rest) are (suc i) entry found = named (done ++ first ∷ []) rest are.1 i entry found

  once : (done rest : List Use) → AreUsesAfter s done rest → (i j : ℕ) (one other : Use) → slice_get rest i ≡ Some one → slice_get rest j ≡ Some other → one.name ≡ other.name → i ≡ j
  once done [] are i j one other first second same = absurd (none-some one first)
  once done (entry ∷ rest) are zero zero one other first second same = refl
  once done (entry ∷ rest) are zero (suc j) one other first second same =
      absurd (not_again (done ++ entry ∷ []) rest are.1 entry.name j other (reached_last done entry) second (sym same ∙ sym (ap (λ e. e.name) (same_Some entry one first))))
  once done (entry ∷ rest) are (suc i) zero one other first second same =
      absurd (not_again (done ++ entry ∷ []) rest are.1 entry.name i one (reached_last done entry) first (same ∙ sym (ap (λ e. e.name) (same_Some entry other second))))
  once done (entry ∷ rest) are (suc i) (suc j) one other first second same = ap suc (once (done ++ entry ∷ []) rest are.1 i j one other first second same)

  pub distinct : (uses : List Use) → AreUses s uses → AreDistinct s.model uses
  distinct uses are = record {
    named = λ i entry found. (let (name, same, within) = named [] uses are i entry found in omega (arith, same, within));
    once = once [] uses are;
  }
