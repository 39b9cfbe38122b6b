-- Groups that are added one behind the other.
use Rattle.std.proofs.Common.{◌≡◌, refl, ap, ap₂, sym, ◌∙◌, subst, ℕ, suc, ◌+◌, ◌<◌, ◌≤◌, ◌^◌, List, [], ◌∷◌, ◌++◌, map, flat_map, length, take, get_or, Some, None, arith, append_assoc}
use Rattle.std.proofs.lemmas.List.{take_all, map-append, length-append}
use Rattle.std.proofs.lemmas.List.Folds.{length-flat_map-take}
use Rattle.class_scopes.proofs.Leasts.{one_more}
use Rattle.flat_model.specs.declared.raw.RawExpr.{RawExpr}
use Rattle.flat_model.specs.declared.raw.RawEq.{RawEq}
use Rattle.flat_expressions.specs.Equations.{Sides, Group, Alone, Clause, in_clause, equations_from, clocks_of, clause, Adds}

clocks_append : (xs ys : List Group) → clocks_of (xs ++ ys) ≡ clocks_of xs ++ clocks_of ys
clocks_append [] ys = refl
clocks_append (Alone s ∷ xs) ys = clocks_append xs ys
clocks_append (Clause clock inside ∷ xs) ys = ap (λ t. clock ∷ t) (clocks_append xs ys)

equations_append : (k : ℕ) (xs ys : List Group) → equations_from k (xs ++ ys) ≡ equations_from k xs ++ equations_from (k + length (clocks_of xs)) ys
equations_append k [] ys = let same : k ≡ k + 0 = omega arith in ap (λ n. equations_from n ys) same
equations_append k (Alone s ∷ xs) ys = ap (λ t. in_clause None s ∷ t) (equations_append k xs ys)
equations_append k (Clause clock inside ∷ xs) ys =
    let next : suc k + length (clocks_of xs) ≡ k + suc (length (clocks_of xs)) = omega arith in
    ap (λ t. map (in_clause (Some k)) inside ++ t) (equations_append (suc k) xs ys)
    ∙ sym (append_assoc (map (in_clause (Some k)) inside) (equations_from (suc k) xs) (equations_from (suc k + length (clocks_of xs)) ys))
    ∙ ap (λ n. (map (in_clause (Some k)) inside ++ equations_from (suc k) xs) ++ equations_from n ys) next

pub append_none : {A : Type 0} (xs : List A) → xs ≡ xs ++ []
append_none [] = refl
append_none (x ∷ xs) = ap (λ t. x ∷ t) (append_none xs)

pub adds_none : (equations : List RawEq) (clauses : List RawExpr) (groups : List Group) → groups ≡ [] → Adds equations clauses groups equations clauses
adds_none equations clauses groups none =
    subst (λ g. Adds equations clauses g equations clauses) (sym none) (append_none equations, append_none clauses)

-- an equation by itself
pub adds_alone : (equations all : List RawEq) (clauses : List RawExpr) (groups : List Group) (s : Sides) → groups ≡ Alone s ∷ []
    → all ≡ equations ++ in_clause None s ∷ [] → Adds equations clauses groups all clauses
adds_alone equations all clauses groups s is added = subst (λ g. Adds equations clauses g all clauses) (sym is) (added, append_none clauses)

-- a clause with equations, and one without
pub adds_clause : (equations all : List RawEq) (clauses every : List RawExpr) (clock : RawExpr) (inside : List Sides) (k : ℕ)
    → k ≡ length clauses → all ≡ equations ++ map (in_clause (Some k)) inside → length equations < length all → every ≡ clauses ++ clock ∷ []
    → Adds equations clauses (clause clock inside) all every
adds_clause equations all clauses every clock [] k at added some clocked =
    let same : length all ≡ length equations = ap length (added ∙ sym (append_none equations)) in
    absurd (omega (arith, some, same))
adds_clause equations all clauses every clock (s ∷ inside) k at added some clocked =
    (added ∙ ap (λ n. equations ++ map (in_clause (Some n)) (s ∷ inside)) at ∙ ap (λ t. equations ++ t) (append_none (map (in_clause (Some (length clauses))) (s ∷ inside))), clocked)

pub adds_dropped : (equations all : List RawEq) (clauses : List RawExpr) (clock : RawExpr) (inside : List Sides) (k : ℕ)
    → all ≡ equations ++ map (in_clause (Some k)) inside → length all ≤ length equations → Adds equations clauses (clause clock inside) all clauses
adds_dropped equations all clauses clock [] k added few = (added, append_none clauses)
adds_dropped equations all clauses clock (s ∷ inside) k added few =
    let more : length all ≡ length equations + length (map (in_clause (Some k)) (s ∷ inside)) = ap length added ∙ length-append equations (map (in_clause (Some k)) (s ∷ inside)) in
    absurd (omega (arith, few, more))

pub adds_both : (equations some all : List RawEq) (clauses several every : List RawExpr) (xs ys : List Group)
    → Adds equations clauses xs some several → Adds some several ys all every → Adds equations clauses (xs ++ ys) all every
adds_both equations some all clauses several every xs ys first second =
    let count : length several ≡ length clauses + length (clocks_of xs) = ap length first.1 ∙ length-append clauses (clocks_of xs) in (
      second.0 ∙ ap₂ (λ p n. p ++ equations_from n ys) first.0 count
          ∙ append_assoc equations (equations_from (length clauses) xs) (equations_from (length clauses + length (clocks_of xs)) ys)
          ∙ ap (λ t. equations ++ t) (sym (equations_append (length clauses) xs ys)),
      second.1 ∙ ap (λ t. t ++ clocks_of ys) first.1 ∙ append_assoc clauses (clocks_of xs) (clocks_of ys) ∙ ap (λ t. clauses ++ t) (sym (clocks_append xs ys)),
    )

module _ {A : Type 0} (f : A → List Group) where
  clocks_flat : (xs : List A) → clocks_of (flat_map f xs) ≡ flat_map (λ x. clocks_of (f x)) xs
  clocks_flat [] = refl
  clocks_flat (x ∷ xs) = clocks_append (f x) (flat_map f xs) ∙ ap (λ t. clocks_of (f x) ++ t) (clocks_flat xs)

  module _ (xs : List A) (i : ℕ) (x : A) (within : i < length xs) (is : x ≡ get_or xs i x) where
    -- one more part of a list
    pub adds_more : (equations some all : List RawEq) (clauses several every : List RawExpr)
        → Adds equations clauses (flat_map f (take i xs)) some several → Adds some several (f x) all every
        → Adds equations clauses (flat_map f (take (i + 1) xs)) all every
    adds_more equations some all clauses several every first second =
        subst (λ g. Adds equations clauses g all every) (sym (one_more f xs i x within is))
        (adds_both equations some all clauses several every (flat_map f (take i xs)) (f x) first second)

    -- the clauses so far are few enough where all are, with those of the next part
    pub still_few : (clauses several : List RawExpr) → several ≡ clauses ++ clocks_of (flat_map f (take i xs))
        → length clauses + length (clocks_of (flat_map f xs)) < 2 ^ 32 → length several + length (clocks_of (f x)) < 2 ^ 32
    still_few clauses several so_far few =
        let g : A → List RawExpr = λ y. clocks_of (f y) in
        let part : length (flat_map g (take i xs)) + length (g (get_or xs i x)) ≤ length (flat_map g xs) = length-flat_map-take g xs i x within in
        let here : length (g x) ≡ length (g (get_or xs i x)) = ap (λ y. length (g y)) is in
        let front : length (clocks_of (flat_map f (take i xs))) ≡ length (flat_map g (take i xs)) = ap length (clocks_flat (take i xs)) in
        let whole : length (clocks_of (flat_map f xs)) ≡ length (flat_map g xs) = ap length (clocks_flat xs) in
        let count : length several ≡ length clauses + length (clocks_of (flat_map f (take i xs))) = ap length so_far ∙ length-append clauses (clocks_of (flat_map f (take i xs))) in
        omega (arith, part, here, front, whole, count, few)

    -- the same from no clauses on
    pub first_few : (several : List RawExpr) → several ≡ [] ++ clocks_of (flat_map f (take i xs))
        → length (clocks_of (flat_map f xs)) < 2 ^ 32 → length several + length (clocks_of (f x)) < 2 ^ 32
    first_few several so_far few = still_few [] several so_far (omega (arith, few))

pub adds_all : {A : Type 0} (f : A → List Group) (xs : List A) (i : ℕ) (equations all : List RawEq) (clauses every : List RawExpr) → length xs ≤ i
    → Adds equations clauses (flat_map f (take i xs)) all every → Adds equations clauses (flat_map f xs) all every
adds_all f xs i equations all clauses every past added = subst (λ t. Adds equations clauses (flat_map f t) all every) (take_all i xs past) added

-- one more equation inside a clause
pub members_more : {A : Type 0} (f : A → List Sides) (h : Sides → RawEq) (xs : List A) (i : ℕ) (x : A) → i < length xs → x ≡ get_or xs i x
    → (equations some all : List RawEq) → some ≡ equations ++ map h (flat_map f (take i xs)) → all ≡ some ++ map h (f x)
    → all ≡ equations ++ map h (flat_map f (take (i + 1) xs))
members_more f h xs i x within is equations some all first second =
    second ∙ ap (λ t. t ++ map h (f x)) first ∙ append_assoc equations (map h (flat_map f (take i xs))) (map h (f x))
    ∙ ap (λ t. equations ++ t) (sym (ap (map h) (one_more f xs i x within is) ∙ map-append h (flat_map f (take i xs)) (f x)))
