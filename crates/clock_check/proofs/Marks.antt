-- Classes with a `hold`, and event conditions in them.
use Rattle.std.proofs.Common.{◌≡◌, ◌∙◌, refl, sym, ap, subst, ℕ, zero, suc, ◌+◌, ◌<◌, ◌↔◌, ◌⊎◌, inl, inr, ⊎_elim, ◌==◌, Bool, true, false, if◌then◌else◌, List, [], ◌∷◌, length, take, get_or, slice_get, slice_index_or, Option, Some, None, Contains, arith}
use Rattle.std.proofs.lemmas.Bool.{eqb-true, eq-eqb}
use Rattle.std.proofs.lemmas.List.{take_more}
use Rattle.std.proofs.lemmas.List.Elements.{Contains-push, Contains-push_cases, Contains-append_left}
use Rattle.std.proofs.lemmas.Option.{slice_get-get_or}
use Rattle.clock_terms.specs.declared.data.Cause.TheVariants.{Condition}
use Rattle.clock_terms.specs.declared.data.NodeOf.{NodeOf}
use Rattle.clock_spread.specs.Found.{class_in}
use Rattle.clock_spread.specs.Least.{IsLeastOf, lesser_of}
use Rattle.clock_spread.proofs.Leasts.{least_same, lesser_least}
use Rattle.clock_check.specs.private.Holding.{HasHold, IsHoldingAt}

true_false : {b : Bool} → b ≡ true → b ≡ false → ⊥
true_false e f = absurd cc

none_some : {A : Type 0} {a : A} → None ≡ Some a → ⊥
none_some e = absurd cc

some_same : {A : Type 0} {a b : A} → Some a ≡ Some b → a ≡ b
some_same e = cc

-- one node with `hold` more
abbrev pub AreMarked : List Bool → List ℕ → List ℕ → List Bool → Type 0
AreMarked old class_of holds new = (c : ℕ) → (slice_index_or new c false ≡ true) ↔ ((slice_index_or old c false ≡ true) ⊎ HasHold class_of holds c)

if_true : (b x : Bool) → (if b then true else x) ≡ true → (b ≡ true) ⊎ (x ≡ true)
if_true true x e = inl refl
if_true false x e = inr e

true_if : (b x : Bool) → (b ≡ true) ⊎ (x ≡ true) → (if b then true else x) ≡ true
true_if true x h = refl
true_if false x (inl e) = absurd cc
true_if false x (inr e) = e

pub marked_more : (old now new : List Bool) (class_of holds : List ℕ) (i : ℕ) → i < length holds → ((c : ℕ) → slice_index_or new c false ≡ (if class_in class_of (get_or holds i 0) == c then true else slice_index_or now c false))
    → AreMarked old class_of (take i holds) now → AreMarked old class_of (take (i + 1) holds) new
marked_more old now new class_of holds i within sets h c = (
  λ t. ⊎_elim
      (λ here. inr (get_or holds i 0, rw (take_more holds i 0 within) (Contains-push (take i holds) (get_or holds i 0)), eqb-true (class_in class_of (get_or holds i 0)) c here))
      (λ before. ⊎_elim (λ o. inl o)
      (λ (a, in_list, is). inr (a, rw (take_more holds i 0 within) (Contains-append_left (take i holds) (get_or holds i 0 ∷ []) a in_list), is)) ((h c).0 before))
      (if_true (class_in class_of (get_or holds i 0) == c) (slice_index_or now c false) (sym (sets c) ∙ t)),
  λ w. sets c ∙ true_if (class_in class_of (get_or holds i 0) == c) (slice_index_or now c false) (⊎_elim
      (λ o. inr ((h c).1 (inl o)))
      (λ (a, in_list, is). ⊎_elim
      (λ before. inr ((h c).1 (inr (a, before, is))))
      (λ here. inl (eq-eqb (class_in class_of (get_or holds i 0)) c (ap (λ x. class_in class_of x) here ∙ is)))
      (Contains-push_cases (take i holds) (get_or holds i 0) a (subst (λ l. Contains l a) (take_more holds i 0 within) in_list)))
      w),
)

pub marked_none : (old : List Bool) (class_of holds : List ℕ) → AreMarked old class_of (take 0 holds) old
marked_none old class_of holds c = (λ t. inl t, ⊎_elim (λ t. t) (λ (a, (k, lt, at), is). absurd (omega (arith, lt))))

pub marked_from_none : (old new : List Bool) (class_of holds : List ℕ) → ((c : ℕ) → slice_index_or old c false ≡ false) → AreMarked old class_of holds new → (c : ℕ) → (slice_index_or new c false ≡ true) ↔ HasHold class_of holds c
marked_from_none old new class_of holds none h c = (λ t. ⊎_elim (λ o. absurd (true_false o (none c))) (λ w. w) ((h c).0 t), λ w. (h c).1 (inr w))

-- ---- one condition more
get_take : {A : Type 0} (xs : List A) (n j : ℕ) (x : A) → slice_get (take n xs) j ≡ Some x → (slice_get xs j ≡ Some x) × (j < n)
get_take [] zero j x e = absurd (none_some e)
get_take [] (suc n) j x e = absurd (none_some e)
get_take (y ∷ xs) zero j x e = absurd (none_some e)
get_take (y ∷ xs) (suc n) zero x e = (e, omega arith)
get_take (y ∷ xs) (suc n) (suc j) x e = let h = get_take xs n j x e in (h.0, omega (arith, h.1))

take_get : {A : Type 0} (xs : List A) (n j : ℕ) (x : A) → slice_get xs j ≡ Some x → j < n → slice_get (take n xs) j ≡ Some x
take_get [] n j x e lt = absurd (none_some e)
take_get (y ∷ xs) zero j x e lt = absurd (omega (arith, lt))
take_get (y ∷ xs) (suc n) zero x e lt = e
take_get (y ∷ xs) (suc n) (suc j) x e lt = take_get xs n j x e (omega (arith, lt))

pub holding_more : (class_of holds : List ℕ) (nodes : List NodeOf) (first i : ℕ) (d : NodeOf) (marks : List Bool) (least : Option ℕ) (b : Bool) → i < length nodes
    → ((c : ℕ) → (slice_index_or marks c false ≡ true) ↔ HasHold class_of holds c)
    → (b ≡ true) ↔ (((get_or nodes i d).cause ≡ Some Condition) × (slice_index_or marks (class_in class_of (first + i)) false ≡ true))
    → IsLeastOf (IsHoldingAt class_of holds (take i nodes) first) least → IsLeastOf (IsHoldingAt class_of holds (take (i + 1) nodes) first) (lesser_of least (get_or nodes i d).equation b)
holding_more class_of holds nodes first i d marks least b within are test h =
    least_same (λ e. IsHoldingAt class_of holds (take i nodes) first e ⊎ New e) (IsHoldingAt class_of holds (take (i + 1) nodes) first) (lesser_of least node.equation b) joined split
    (lesser_least (IsHoldingAt class_of holds (take i nodes) first) New least node.equation b (λ t. (refl, test.0 t)) (λ f new. true_false (test.1 new.1) f) (λ m new. sym new.0) h)
  where
    node : NodeOf
    node = get_or nodes i d

    New : ℕ → Type 0
    New e = ((get_or nodes i d).equation ≡ e) × (((get_or nodes i d).cause ≡ Some Condition) × (slice_index_or marks (class_in class_of (first + i)) false ≡ true))

    at : slice_get nodes i ≡ Some (get_or nodes i d)
    at = slice_get-get_or nodes i d within

    joined : (e : ℕ) → IsHoldingAt class_of holds (take i nodes) first e ⊎ New e → IsHoldingAt class_of holds (take (i + 1) nodes) first e
    joined e (inl (j, old)) =
        let (here, lt) = get_take nodes i j old.node old.is_node in
        (j, record { node = old.node; is_node = take_get nodes (i + 1) j old.node here (omega (arith, lt)); equation = old.equation; cause = old.cause; hold = old.hold })
    joined e (inr (is, (cause, mark))) =
        (i, record { node = get_or nodes i d; is_node = take_get nodes (i + 1) i (get_or nodes i d) at (omega arith); equation = is; cause = cause; hold = (are (class_in class_of (first + i))).0 mark })

    less_or : (j : ℕ) → j < i + 1 → (j < i) ⊎ (j ≡ i)
    less_or j lt = grind arith

    split : (e : ℕ) → IsHoldingAt class_of holds (take (i + 1) nodes) first e → IsHoldingAt class_of holds (take i nodes) first e ⊎ New e
    split e (j, old) =
        let (here, lt) = get_take nodes (i + 1) j old.node old.is_node in
        ⊎_elim
        (λ less. inl (j, record { node = old.node; is_node = take_get nodes i j old.node here less; equation = old.equation; cause = old.cause; hold = old.hold }))
        (λ is.
        let same : get_or nodes i d ≡ old.node = some_same (sym at ∙ ap (λ n. slice_get nodes n) (sym is) ∙ here) in
        inr (
          ap (λ n. n.equation) same ∙ old.equation,
          (
            ap (λ n. n.cause) same ∙ old.cause,
            subst (λ n. slice_index_or marks (class_in class_of (first + n)) false ≡ true) is ((are (class_in class_of (first + j))).1 old.hold),
          ),
        ))
        (less_or j lt)
