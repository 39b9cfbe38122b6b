-- Lists of equations by names, which grow by one equation at a time.
use Rattle.std.proofs.Common.{◌≡◌, refl, sym, ap, subst, ◌∙◌, ℕ, zero, suc, ◌+◌, ◌<◌, ◌==◌, cond, List, [], ◌∷◌, ◌++◌, inl, inr, length, get_or, set, take, arith}
use Rattle.std.proofs.lemmas.Bool.{cases_eq, eq-eqb, ne_eqb}
use Rattle.std.proofs.lemmas.List.{get_or-set_same, get_or-set_other}
use Rattle.std.proofs.lemmas.List.Sums.{sum_by_push}
use Rattle.eq_orient.specs.Gathered.{count_of}
use Rattle.eq_order.specs.private.Reaching.{list_at}
use Rattle.eq_order.proofs.Counts.{count_yes, count_no}

-- the counts after the first n of the names that equation i reads
abbrev pub Noted : List (List ℕ) → List ℕ → ℕ → ℕ → List (List ℕ) → Type 0
Noted old names i n new = (j y : ℕ) → count_of j (list_at new y) ≡ count_of j (list_at old y) + cond (j == i) (count_of y (take n names)) 0

pub start_noted : (old : List (List ℕ)) (names : List ℕ) (i : ℕ) → Noted old names i 0 old
start_noted old names i j y = elim (cases_eq j i) [
  | inl same ↦ let c : cond (j == i) (count_of y []) 0 ≡ 0 = ap {B = ℕ} (λ b. cond b 0 0) (eq-eqb j i same) in omega (arith, c)
  | inr other ↦ let c : cond (j == i) (count_of y []) 0 ≡ 0 = ap {B = ℕ} (λ b. cond b (count_of y []) 0) (ne_eqb j i other) in omega (arith, c)
]

pushed : (list : List ℕ) (i j : ℕ) → count_of j (list ++ i ∷ []) ≡ count_of j list + cond (i == j) 1 0
pushed list i j = sum_by_push (λ z. cond (z == j) 1 0) list i

-- one more name
pub noted_more : (old now new : List (List ℕ)) (names : List ℕ) (i n : ℕ) → n < length names → get_or names n 0 < length now
    → new ≡ set now (get_or names n 0) (list_at now (get_or names n 0) ++ i ∷ []) → Noted old names i n now → Noted old names i (n + 1) new
noted_more old now new names i n within inside is noted j y =
    let x = get_or names n 0 in
    let before = noted j y in
    let read : count_of j (list_at new y) ≡ count_of j (get_or (set now x (list_at now x ++ i ∷ [])) y []) = ap (λ all. count_of j (list_at all y)) is in
    elim (cases_eq y x) [
      | inl same ↦
          let there : get_or (set now x (list_at now x ++ i ∷ [])) y [] ≡ list_at now y ++ i ∷ [] =
          ap (λ z. get_or (set now x (list_at now x ++ i ∷ [])) z []) same ∙ get_or-set_same now x (list_at now x ++ i ∷ []) [] inside ∙ ap (λ z. list_at now z ++ i ∷ []) (sym same) in
          let grown = pushed (list_at now y) i j in
          let counted : count_of y (take (n + 1) names) ≡ count_of y (take n names) + 1 = subst (λ z. count_of z (take (n + 1) names) ≡ count_of z (take n names) + 1) (sym same) (count_yes names n within) in
          elim (cases_eq j i) [
            | inl own ↦
                let a : cond (j == i) (count_of y (take n names)) 0 ≡ count_of y (take n names) = ap (λ b. cond b (count_of y (take n names)) 0) (eq-eqb j i own) in
                let b : cond (j == i) (count_of y (take (n + 1) names)) 0 ≡ count_of y (take (n + 1) names) = ap (λ b. cond b (count_of y (take (n + 1) names)) 0) (eq-eqb j i own) in
                let c : cond (i == j) 1 0 ≡ 1 = ap {B = ℕ} (λ b. cond b 1 0) (eq-eqb i j (sym own)) in
                omega (arith, read, ap (count_of j) there, grown, counted, before, a, b, c)
            | inr other ↦
                let a : cond (j == i) (count_of y (take n names)) 0 ≡ 0 = ap (λ b. cond b (count_of y (take n names)) 0) (ne_eqb j i other) in
                let b : cond (j == i) (count_of y (take (n + 1) names)) 0 ≡ 0 = ap (λ b. cond b (count_of y (take (n + 1) names)) 0) (ne_eqb j i other) in
                let c : cond (i == j) 1 0 ≡ 0 = ap {B = ℕ} (λ b. cond b 1 0) (ne_eqb i j (λ e. other (sym e))) in
                omega (arith, read, ap (count_of j) there, grown, counted, before, a, b, c)
          ]
      | inr other ↦
          let there : get_or (set now x (list_at now x ++ i ∷ [])) y [] ≡ list_at now y = get_or-set_other now x y (list_at now x ++ i ∷ []) [] other in
          let counted : count_of y (take (n + 1) names) ≡ count_of y (take n names) = count_no names n y within (λ e. other (sym e)) in
          let moved : cond (j == i) (count_of y (take (n + 1) names)) 0 ≡ cond (j == i) (count_of y (take n names)) 0 = ap (λ k. cond (j == i) k 0) counted in
          omega (arith, read, ap (count_of j) there, before, moved)
    ]

pub none_counted : (list : List ℕ) (j : ℕ) → list ≡ [] → count_of j list ≡ 0
none_counted list j is = ap (count_of j) is

-- an empty list at the end changes no list
pub unpushed : (lists : List (List ℕ)) (y : ℕ) → get_or (lists ++ [] ∷ []) y [] ≡ get_or lists y []
unpushed [] zero = refl
unpushed [] (suc y) = refl
unpushed (first ∷ rest) zero = refl
unpushed (first ∷ rest) (suc y) = unpushed rest y

-- an equation's own names are counted, and those of others are as they were
pub noted_own : (old new : List (List ℕ)) (names : List ℕ) (i y : ℕ) → ((j z : ℕ) → count_of j (list_at new z) ≡ count_of j (list_at old z) + cond (j == i) (count_of z names) 0)
    → count_of i (list_at old y) ≡ 0 → count_of i (list_at new y) ≡ count_of y names
noted_own old new names i y noted none =
    let c : cond (i == i) (count_of y names) 0 ≡ count_of y names = ap (λ b. cond b (count_of y names) 0) (eq-eqb i i refl) in
    omega (arith, noted i y, none, c)

pub noted_other : (old new : List (List ℕ)) (names : List ℕ) (i j y : ℕ) → ((k z : ℕ) → count_of k (list_at new z) ≡ count_of k (list_at old z) + cond (k == i) (count_of z names) 0)
    → (j ≡ i → ⊥) → count_of j (list_at new y) ≡ count_of j (list_at old y)
noted_other old new names i j y noted other =
    let c : cond (j == i) (count_of y names) 0 ≡ 0 = ap (λ b. cond b (count_of y names) 0) (ne_eqb j i other) in
    omega (arith, noted j y, c)
