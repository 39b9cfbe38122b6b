-- The clauses of equations.
use Rattle.std.proofs.Common.{◌≡◌, refl, ap, sym, ◌∙◌, subst, ℕ, zero, suc, ◌+◌, ◌<◌, ◌≤◌, List, [], ◌∷◌, ◌++◌, map, flat_map, length, get_or, slice_get, Option, Some, None, All, length-append, arith}
use Rattle.std.proofs.lemmas.List.{length-map}
use Rattle.std.proofs.lemmas.List.Elements.{All-append}
use Rattle.flat_model.specs.declared.raw.RawEq.{RawEq}
use Rattle.flat_model.specs.RawModels.{HasClauseBelow}
use Rattle.flat_expressions.specs.Equations.{Sides, Group, Alone, Clause, in_clause, equations_from, clocks_of}
use Rattle.connection_equations.specs.Sets.{equal, equations_of_set}
use Rattle.flat_limits.proofs.Clauses.{AreFull}

-- some equation stands in a clause
abbrev pub IsUsed : List RawEq → ℕ → Type 0
IsUsed equations k = (i : ℕ) × (equation : RawEq) × (slice_get equations i ≡ Some equation) × (equation.clause ≡ Some k)

used_behind : (equation : RawEq) (rest : List RawEq) (k : ℕ) → IsUsed rest k → IsUsed (equation ∷ rest) k
used_behind equation rest k (i, found, at, is) = (suc i, found, at, is)

used_after : (xs rest : List RawEq) (k : ℕ) → IsUsed rest k → IsUsed (xs ++ rest) k
used_after [] rest k used = used
used_after (x ∷ xs) rest k used = used_behind x (xs ++ rest) k (used_after xs rest k used)

pub used_before : (xs rest : List RawEq) (k : ℕ) → IsUsed xs k → IsUsed (xs ++ rest) k
used_before [] rest k (i, found, at, is) = absurd (cc at)
used_before (x ∷ xs) rest k (zero, found, at, is) = (zero, found, at, is)
used_before (x ∷ xs) rest k (suc i, found, at, is) = used_behind x (xs ++ rest) k (used_before xs rest k (i, found, at, is))

first_used : (clause : ℕ) (inside : List Sides) (rest : List RawEq) → 0 < length inside → IsUsed (map (in_clause (Some clause)) inside ++ rest) clause
first_used clause [] rest some = absurd (omega (arith, some))
first_used clause (sides ∷ inside) rest some = (zero, in_clause (Some clause) sides, refl, refl)

-- each clause of groups has an equation
pub clauses_used : (clause : ℕ) (all : List Group) → AreFull all → (k : ℕ) → k < length (clocks_of all) → IsUsed (equations_from clause all) (clause + k)
clauses_used clause [] full k below = absurd (omega (arith, below))
clauses_used clause (Alone sides ∷ rest) full k below = used_behind (in_clause None sides) (equations_from clause rest) (clause + k) (clauses_used clause rest full.1 k below)
clauses_used clause (Clause clock inside ∷ rest) full zero below =
    let same : clause ≡ clause + 0 = omega arith in
    subst (IsUsed (equations_from clause (Clause clock inside ∷ rest))) same (first_used clause inside (equations_from (suc clause) rest) full.0)
clauses_used clause (Clause clock inside ∷ rest) full (suc k) below =
    let same : suc clause + k ≡ clause + suc k = omega arith in
    used_after (map (in_clause (Some clause)) inside) (equations_from (suc clause) rest) (clause + suc k)
    (subst (IsUsed (equations_from (suc clause) rest)) same (clauses_used (suc clause) rest full.1 k (omega (arith, below))))

abbrev pub AllBelow : ℕ → List RawEq → Type 0
AllBelow count equations = All (HasClauseBelow count) equations

none_below : (count : ℕ) → AllBelow count []
none_below count k d below = absurd (omega (arith, below))

one_more : (count : ℕ) (equation : RawEq) (rest : List RawEq) → HasClauseBelow count equation → AllBelow count rest → AllBelow count (equation ∷ rest)
one_more count equation rest here more zero d below = here
one_more count equation rest here more (suc k) d below = more k d (omega (arith, below))

inside_below : (count clause : ℕ) (inside : List Sides) → clause < count → AllBelow count (map (in_clause (Some clause)) inside)
inside_below count clause [] less = none_below count
inside_below count clause (sides ∷ inside) less =
    one_more count (in_clause (Some clause) sides) (map (in_clause (Some clause)) inside) here (inside_below count clause inside less)
  where
    here : HasClauseBelow count (in_clause (Some clause) sides)
    here k is = let same : clause ≡ k = cc is in omega (arith, less, same)

-- the clause of each equation of groups is one of theirs
pub clauses_below : (count clause : ℕ) (all : List Group) → clause + length (clocks_of all) ≤ count → AllBelow count (equations_from clause all)
clauses_below count clause [] fits = none_below count
clauses_below count clause (Alone sides ∷ rest) fits =
    one_more count (in_clause None sides) (equations_from clause rest) (λ k is. absurd (cc is)) (clauses_below count clause rest fits)
clauses_below count clause (Clause clock inside ∷ rest) fits =
    All-append (HasClauseBelow count) (map (in_clause (Some clause)) inside) (equations_from (suc clause) rest)
    (inside_below count clause inside (omega (arith, fits))) (clauses_below count (suc clause) rest (omega (arith, fits)))

set_below : (count first : ℕ) (others : List ℕ) → AllBelow count (map (equal first) others)
set_below count first [] = none_below count
set_below count first (x ∷ others) = one_more count (equal first x) (map (equal first) others) (λ k is. absurd (cc is)) (set_below count first others)

-- an equation of a connection stands in no clause
pub connections_below : (count : ℕ) (sets : List (List ℕ)) → AllBelow count (flat_map equations_of_set sets)
connections_below count [] = none_below count
connections_below count ([] ∷ sets) = connections_below count sets
connections_below count ((first ∷ others) ∷ sets) =
    All-append (HasClauseBelow count) (map (equal first) others) (flat_map equations_of_set sets) (set_below count first others) (connections_below count sets)

pub all_below : (count : ℕ) (xs ys : List RawEq) → AllBelow count xs → AllBelow count ys → AllBelow count (xs ++ ys)
all_below count xs ys one other = All-append (HasClauseBelow count) xs ys one other
