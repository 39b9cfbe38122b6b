-- Each equation has one use.
use Rattle.std.proofs.Common.{◌≡◌, refl, ap, ◌∙◌, sym, subst, ℕ, List, [], ◌∷◌, ◌++◌, Contains, arith, inl, inr}
use Rattle.std.proofs.lemmas.List.Elements.{Contains-append_left, Contains-append_right}
use Rattle.flat_model.specs.Setting.{Setting}
use Rattle.flat_model.specs.Uses.{Use, AreUsesAfter, AreUses, used_equations}
use Rattle.moment_theory.proofs.Members.{IsMember, contains_member}

used_append : (xs ys : List Use) → used_equations (xs ++ ys) ≡ used_equations xs ++ used_equations ys
used_append [] ys = refl
used_append (x ∷ xs) ys = ap (λ is. x.equation ∷ is) (used_append xs ys)

used_last : (done : List Use) (entry : Use) → Contains (used_equations (done ++ entry ∷ [])) entry.equation
used_last done entry = subst (λ is. Contains is entry.equation) (sym (used_append done (entry ∷ []))) (Contains-append_right (used_equations done) (entry.equation ∷ []) entry.equation (0, omega arith, refl))

-- what is used before is not used again
not_again : (s : Setting) (done rest : List Use) → AreUsesAfter s done rest → (i : ℕ) → Contains (used_equations done) i → (entry : Use) → IsMember entry rest → entry.equation ≡ i → ⊥
not_again s done [] are i there entry member is = member
not_again s done (first ∷ rest) are i there entry (inl same) is =
    are.0.reaches.unused (subst (Contains (used_equations done)) (sym (ap (λ e. e.equation) same ∙ is)) there)
not_again s done (first ∷ rest) are i there entry (inr member) is =
    not_again s (done ++ first ∷ []) rest are.1 i (subst (λ is. Contains is i) (sym (used_append done (first ∷ []))) (Contains-append_left (used_equations done) (first.equation ∷ []) i there)) entry member is

one_use_after : (s : Setting) (done rest : List Use) → AreUsesAfter s done rest → (a b : Use) → IsMember a rest → IsMember b rest → a.equation ≡ b.equation → a ≡ b
one_use_after s done [] are a b one two same = absurd one
one_use_after s done (first ∷ rest) are a b (inl is) (inl at) same = sym is ∙ at
one_use_after s done (first ∷ rest) are a b (inl is) (inr at) same =
    absurd (not_again s (done ++ first ∷ []) rest are.1 first.equation (used_last done first) b at (sym same ∙ sym (ap (λ e. e.equation) is)))
one_use_after s done (first ∷ rest) are a b (inr is) (inl at) same =
    absurd (not_again s (done ++ first ∷ []) rest are.1 first.equation (used_last done first) a is (same ∙ sym (ap (λ e. e.equation) at)))
one_use_after s done (first ∷ rest) are a b (inr is) (inr at) same = one_use_after s (done ++ first ∷ []) rest are.1 a b is at same

-- an equation has one use
pub one_use : (s : Setting) (uses : List Use) → AreUses s uses → (a b : Use) → Contains uses a → Contains uses b → a.equation ≡ b.equation → a ≡ b
one_use s uses are a b one two same = one_use_after s [] uses are a b (contains_member a uses one) (contains_member b uses two) same
