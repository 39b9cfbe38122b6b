-- A model and its clocking have one answer.
use Rattle.std.proofs.Common.{◌≡◌, refl, ap, ap₂, sym, subst, ◌∙◌, ◌⊎◌, inl, inr, ℕ, Bool, List, [], ◌∷◌, ◌++◌, map, Some, Ok, Err}
use Rattle.std.specs.Prelude.{slice_get}
use Rattle.std.proofs.lemmas.Bool.{cases_order}
use Rattle.std.proofs.lemmas.Option.{same_Some}
use Rattle.flat_model.specs.declared.equation.Equation.{Equation}
use Rattle.flat_model.specs.declared.model.FlatName.{FlatName}
use Rattle.flat_model.specs.declared.place.Place.{Place}
use Rattle.flat_model.specs.declared.place.Place.TheVariants as place
use Rattle.flat_model.specs.Setting.{Setting}
use Rattle.flat_model.specs.Uses as model
use Rattle.flat_model.specs.Uses.{EquationReads, IsUnreached, CanReach, IsNextUse, AreUsesAfter, AreUses}
use Rattle.eq_orient.specs.Spine.{IsSpineOf}
use Rattle.eq_orient.proofs.OneAnswer.{one_side}
use Rattle.eq_order.specs.declared.uses.Use.{Use}
use Rattle.eq_order.specs.declared.ends.OrderCode.{OrderCode}
use Rattle.eq_order.specs.declared.ends.OrderCode.TheVariants.{Q1, Q2, Q3, Q4}
use Rattle.eq_order.specs.declared.ends.OrderEnd.TheVariants.{Fault, NoMemory}
use Rattle.eq_order.specs.Order.{IsLeast, IsUnused, ReadsUnreached, IsStuck, Breaks, use_of, HasSpine, HaveSpines, IsOrder, AnswerLaw}

-- the least number is one
one_least : (P : ℕ → Type 0) (i j : ℕ) → IsLeast P i → IsLeast P j → i ≡ j
one_least P i j a b = elim (cases_order i j) [
  | inl same ↦ same
  | inr apart ↦ elim apart [
    | inl below ↦ absurd (b.least i below a.holds)
    | inr above ↦ absurd (a.least j above b.holds)
  ]
]

module _ (s : Setting) where
  -- the next use is one
  next_equation : (uses : List model.Use) (a b : model.Use) → IsNextUse s uses a → IsNextUse s uses b → a.equation ≡ b.equation
  next_equation uses a b p q = elim (cases_order a.equation b.equation) [
    | inl same ↦ same
    | inr apart ↦ elim apart [
      | inl below ↦ absurd (q.first a.equation a.name below p.reaches)
      | inr above ↦ absurd (p.first b.equation b.name above q.reaches)
    ]
  ]

  next_name : (uses : List model.Use) (i x y : ℕ) → CanReach s uses i x → CanReach s uses i y → x ≡ y
  next_name uses i x y p q =
      let same : p.equation ≡ q.equation = same_Some p.equation q.equation (sym p.found ∙ q.found) in
      q.only x (subst (λ e. EquationReads s i e x) same p.reads) p.unreached

  one_next : (uses : List model.Use) (a b : model.Use) → IsNextUse s uses a → IsNextUse s uses b → a ≡ b
  one_next uses a b p q =
      let same = next_equation uses a b p q in
      let name = next_name uses b.equation a.name b.name (subst (λ i. CanReach s uses i a.name) same p.reaches) q.reaches in
      ap₂ (λ i x. record { equation = i; name = x }) same name

  -- the uses are one list
  one_rest : (uses rest others : List model.Use) → AreUsesAfter s uses rest → AreUsesAfter s uses others → rest ≡ others
  one_rest uses [] [] p q = refl
  one_rest uses [] (b ∷ others) p q = absurd (p b.equation b.name q.0.reaches)
  one_rest uses (a ∷ rest) [] p q = absurd (q a.equation a.name p.0.reaches)
  one_rest uses (a ∷ rest) (b ∷ others) p q =
      let same = one_next uses a b p.0 q.0 in
      ap₂ (λ u us. u ∷ us) same (one_rest (uses ++ b ∷ []) rest others (subst (λ u. AreUsesAfter s (uses ++ u ∷ []) rest) same p.1) q.1)

  -- one code and one place are broken
  module _ (uses : List model.Use) where
    one_name : (x y : ℕ) (a b : FlatName) → IsLeast (IsUnreached s uses) x → IsLeast (IsUnreached s uses) y → slice_get s.model.names x ≡ Some a → slice_get s.model.names y ≡ Some b → a ≡ b
    one_name x y a b p q found other =
        let same = one_least (IsUnreached s uses) x y p q in
        same_Some a b (sym found ∙ (ap (λ z. slice_get s.model.names z) same ∙ other))

    -- a broken rule stands at an equation or at a name
    abbrev AtEquation : OrderCode → OrderCode → Place → Type 0
    AtEquation own code at = (i : ℕ) × (code ≡ own) × (at ≡ place.Equation i) × Breaks s uses own (place.Equation i)

    abbrev AtName : OrderCode → Place → Type 0
    AtName code at = (text : List ℕ) × (code ≡ Q2) × (at ≡ place.Name text) × Breaks s uses Q2 (place.Name text)

    abbrev IsSeen : OrderCode → Place → Type 0
    IsSeen code at = AtEquation Q1 code at ⊎ (AtName code at ⊎ (AtEquation Q3 code at ⊎ AtEquation Q4 code at))

    seen : (code : OrderCode) (at : Place) → Breaks s uses code at → IsSeen code at
    seen Q1 (place.Equation i) b = inl (i, refl, refl, b)
    seen Q2 (place.Name text) b = inr (inl (text, refl, refl, b))
    seen Q3 (place.Equation i) b = inr (inr (inl (i, refl, refl, b)))
    seen Q4 (place.Equation i) b = inr (inr (inr (i, refl, refl, b)))
    seen _ _ b = absurd b

    at_one : (own c d : OrderCode) (p q : Place) (i j : ℕ) → c ≡ own → d ≡ own → p ≡ place.Equation i → q ≡ place.Equation j → i ≡ j → (c ≡ d) × (p ≡ q)
    at_one own c d p q i j a b e f same = (a ∙ sym b, e ∙ (ap (λ k. place.Equation k) same ∙ sym f))

    one_seen : (c d : OrderCode) (p q : Place) → IsSeen c p → IsSeen d q → (c ≡ d) × (p ≡ q)
    one_seen c d p q (inl a) (inl b) = at_one Q1 c d p q a.0 b.0 a.1 b.1 a.2 b.2 (one_least (IsUnused s uses) a.0 b.0 a.3.1 b.3.1)
    one_seen c d p q (inl a) (inr (inl b)) = absurd (a.3.0 b.3.2.0 b.3.2.2.holds)
    one_seen c d p q (inl a) (inr (inr (inl b))) = absurd (a.3.0 b.3.holds.name b.3.holds.unreached)
    one_seen c d p q (inl a) (inr (inr (inr b))) = absurd (a.3.0 b.3.2.holds.0 b.3.2.holds.2)
    one_seen c d p q (inr (inl a)) (inl b) = absurd (b.3.0 a.3.2.0 a.3.2.2.holds)
    one_seen c d p q (inr (inl a)) (inr (inl b)) =
        let name = one_name a.3.2.0 b.3.2.0 a.3.2.1 b.3.2.1 a.3.2.2 b.3.2.2 a.3.2.3 b.3.2.3 in
        let same : a.0 ≡ b.0 = a.3.2.4 ∙ (ap (λ n. n.text) name ∙ sym b.3.2.4) in
        (a.1 ∙ sym b.1, a.2 ∙ (ap (λ t. place.Name t) same ∙ sym b.2))
    one_seen c d p q (inr (inl a)) (inr (inr (inl b))) = absurd (a.3.0 b.0 b.3.holds)
    one_seen c d p q (inr (inl a)) (inr (inr (inr b))) = absurd (b.3.1 a.3.1)
    one_seen c d p q (inr (inr (inl a))) (inl b) = absurd (b.3.0 a.3.holds.name a.3.holds.unreached)
    one_seen c d p q (inr (inr (inl a))) (inr (inl b)) = absurd (b.3.0 a.0 a.3.holds)
    one_seen c d p q (inr (inr (inl a))) (inr (inr (inl b))) = at_one Q3 c d p q a.0 b.0 a.1 b.1 a.2 b.2 (one_least (IsStuck s uses) a.0 b.0 a.3 b.3)
    one_seen c d p q (inr (inr (inl a))) (inr (inr (inr b))) = absurd (b.3.0 a.0 a.3.holds)
    one_seen c d p q (inr (inr (inr a))) (inl b) = absurd (b.3.0 a.3.2.holds.0 a.3.2.holds.2)
    one_seen c d p q (inr (inr (inr a))) (inr (inl b)) = absurd (a.3.1 b.3.1)
    one_seen c d p q (inr (inr (inr a))) (inr (inr (inl b))) = absurd (a.3.0 b.0 b.3.holds)
    one_seen c d p q (inr (inr (inr a))) (inr (inr (inr b))) = at_one Q4 c d p q a.0 b.0 a.1 b.1 a.2 b.2 (one_least (ReadsUnreached s uses) a.0 b.0 a.3.2 b.3.2)

    -- an order breaks no rule
    none_broken : (code : OrderCode) (at : Place) → IsOrder s uses → IsSeen code at → ⊥
    none_broken code at order (inl a) = order.used a.0 a.3.1.holds
    none_broken code at order (inr (inl a)) = order.reached a.3.2.0 a.3.2.2.holds
    none_broken code at order (inr (inr (inl a))) = order.reached a.3.holds.name a.3.holds.unreached
    none_broken code at order (inr (inr (inr a))) = order.reached a.3.2.holds.0 a.3.2.holds.2

  one_break : (uses others : List model.Use) (c d : OrderCode) (p q : Place) → AreUses s uses → AreUses s others → Breaks s uses c p → Breaks s others d q → (c ≡ d) × (p ≡ q)
  one_break uses others c d p q are also a b =
      one_seen others c d p q (seen others c p (subst (λ us. Breaks s us c p) (one_rest [] uses others are also) a)) (seen others d q b)

  no_break : (uses others : List model.Use) (code : OrderCode) (at : Place) → IsOrder s uses → AreUses s others → Breaks s others code at → ⊥
  no_break uses others code at order also b =
      none_broken uses code at order (seen uses code at (subst (λ us. Breaks s us code at) (one_rest [] others uses also order.uses_are) b))

-- a use by its parts
abbrev made : ℕ → ℕ → Bool → Use
made i x l = record { equation = i; name = x; spine = record { left = l } }

-- uses with their sides are one list
one_side_of : (equations : List Equation) (a b : Use) → use_of a ≡ use_of b → HasSpine equations a → HasSpine equations b → a ≡ b
one_side_of equations a b same p q =
    let i : a.equation ≡ b.equation = ap (λ u. u.equation) same in
    let x : a.name ≡ b.name = ap (λ u. u.name) same in
    let e : p.0 ≡ q.0 = same_Some p.0 q.0 (sym p.1 ∙ (ap (λ k. slice_get equations k) i ∙ q.1)) in
    let moved : IsSpineOf b.name q.0 a.spine.left = subst (λ y. IsSpineOf y q.0 a.spine.left) x (subst (λ z. IsSpineOf a.name z a.spine.left) e p.2) in
    let side : a.spine.left ≡ b.spine.left = one_side b.name q.0 a.spine.left b.spine.left moved q.2 in
    ap (λ k. made k a.name a.spine.left) i ∙ (ap (λ y. made b.equation y a.spine.left) x ∙ ap (λ l. made b.equation b.name l) side)

one_uses : (equations : List Equation) (us vs : List Use) → map use_of us ≡ map use_of vs → HaveSpines equations us → HaveSpines equations vs → us ≡ vs
one_uses equations [] [] same p q = refl
one_uses equations [] (b ∷ vs) same p q = cc
one_uses equations (a ∷ us) [] same p q = cc
one_uses equations (a ∷ us) (b ∷ vs) same p q =
    let first : use_of a ≡ use_of b = cc same in
    let later : map use_of us ≡ map use_of vs = cc same in
    ap₂ (λ w ws. w ∷ ws) (one_side_of equations a b first p.0 q.0) (one_uses equations us vs later p.1 q.1)

pub answer_law : AnswerLaw
answer_law s (Ok us) (Ok vs) p q some other = ap (λ all. Ok all) (one_uses s.model.equations us vs (one_rest s [] (map use_of us) (map use_of vs) p.0.uses_are q.0.uses_are) p.1 q.1)
answer_law s (Ok us) (Err (Fault code at)) p q some other = absurd (no_break s (map use_of us) q.0 code at p.0 q.1 q.2)
answer_law s (Ok us) (Err NoMemory) p q some other = absurd (other refl)
answer_law s (Err (Fault code at)) (Ok vs) p q some other = absurd (no_break s (map use_of vs) p.0 code at q.0 p.1 p.2)
answer_law s (Err (Fault code at)) (Err (Fault d there)) p q some other =
    let same = one_break s p.0 q.0 code d at there p.1 q.1 p.2 q.2 in ap₂ (λ c w. Err (Fault c w)) same.0 same.1
answer_law s (Err (Fault code at)) (Err NoMemory) p q some other = absurd (other refl)
answer_law s (Err NoMemory) b p q some other = absurd (some refl)
