-- The order of the rules, and the first one that is broken.
use Rattle.std.proofs.Common.{◌≡◌, refl, ap, sym, ◌∙◌, subst, ℕ, ◌+◌, ◌<◌, ◌≤◌, List, [], ◌∷◌, get_or, Option, arith}
use Rattle.mo_parser.specs.declared.tree.ClassDef.{ClassDef}
use Rattle.class_scopes.specs.declared.end.NameCode.{NameCode}
use Rattle.class_scopes.specs.declared.end.NameCode.TheVariants as code
use Rattle.class_scopes.specs.Faults.{IsFirstOf, IsKept}
use Rattle.flat_answer.specs.Broken.{rank, Breaks, KeepsBefore, KeepsAll, IsFirst}

abbrev codes : List NameCode
codes = code.N1 ∷ code.N2 ∷ code.N3 ∷ code.N4 ∷ code.N5 ∷ code.N8 ∷ code.N9 ∷ code.N11 ∷ code.N10 ∷ code.N6 ∷ code.N7 ∷ []

at_rank : (c : NameCode) → get_or codes (rank c) code.N1 ≡ c
at_rank code.N1 = refl
at_rank code.N2 = refl
at_rank code.N3 = refl
at_rank code.N4 = refl
at_rank code.N5 = refl
at_rank code.N6 = refl
at_rank code.N7 = refl
at_rank code.N8 = refl
at_rank code.N9 = refl
at_rank code.N10 = refl
at_rank code.N11 = refl

pub same_code : (a b : NameCode) → rank a ≡ rank b → a ≡ b
same_code a b same = sym (at_rank a) ∙ ap (λ n. get_or codes n code.N1) same ∙ at_rank b

rank_below : (c : NameCode) → rank c < 11
rank_below code.N1 = omega arith
rank_below code.N2 = omega arith
rank_below code.N3 = omega arith
rank_below code.N4 = omega arith
rank_below code.N5 = omega arith
rank_below code.N6 = omega arith
rank_below code.N7 = omega arith
rank_below code.N8 = omega arith
rank_below code.N9 = omega arith
rank_below code.N10 = omega arith
rank_below code.N11 = omega arith

module _ (text : List ℕ) (classes : List ClassDef) (chosen : Option ℕ) where
  -- nothing stands before the first rule
  pub keeps_none : KeepsBefore text classes chosen 0
  keeps_none c less = absurd (omega (arith, less))

  -- one more rule is kept
  pub keeps_more : (c : NameCode) (end next : ℕ) → rank c ≡ end → end + 1 ≡ next → KeepsBefore text classes chosen end → IsKept (Breaks text classes chosen c)
      → KeepsBefore text classes chosen next
  keeps_more c end next at more before kept other less place broken = by other_is_last
    where
      not_before : rank other < end → ⊥
      not_before under = before other under place broken

      other_is_last : rank other ≡ rank c
      other_is_last = omega (arith, at, more, less, not_before)

      by : rank other ≡ rank c → ⊥
      by same = kept place (subst (λ d. Breaks text classes chosen d place) (same_code other c same) broken)

  -- all eleven are
  pub keeps_all : KeepsBefore text classes chosen 11 → KeepsAll text classes chosen
  keeps_all before c = before c (rank_below c)

  -- the rule of a rank is broken first
  pub is_first : (c : NameCode) (place end : ℕ) → rank c ≡ end → KeepsBefore text classes chosen end → IsFirstOf (Breaks text classes chosen c) place → IsFirst text classes chosen c place
  is_first c place end at before first = record { first = first; before = subst (KeepsBefore text classes chosen) (sym at) before }

  module _ (a b : NameCode) (x y : ℕ) (one : IsFirst text classes chosen a x) (other : IsFirst text classes chosen b y) where
    pub one_code : a ≡ b
    one_code =
        let not_under : rank a < rank b → ⊥ = λ less. other.before a less x one.first.broken in
        let not_above : rank b < rank a → ⊥ = λ less. one.before b less y other.first.broken in
        same_code a b (omega (arith, not_under, not_above))

    pub one_place : x ≡ y
    one_place =
        let low = one.first.least y (subst (λ c. Breaks text classes chosen c y) (sym one_code) other.first.broken) in
        let high = other.first.least x (subst (λ c. Breaks text classes chosen c x) one_code one.first.broken) in
        omega (arith, low, high)
