-- Numbers of classes among the clocked ones.
use Rattle.std.proofs.Common.{◌≡◌, ◌∙◌, refl, sym, ap, subst, ℕ, zero, suc, ◌+◌, ◌<◌, ◌≤◌, ◌⊎◌, ⊎_elim, Bool, true, false, if◌then◌else◌, List, [], ◌∷◌, ◌++◌, length, take, get_or, slice_index_or, slice_get, Option, Some, None, IfSome, Contains, arith}
use Rattle.std.specs.List.{count_by}
use Rattle.std.proofs.lemmas.List.{get_or_past}
use Rattle.std.proofs.lemmas.Option.{slice_get_within, get_or_from_slice_get}
use Rattle.clock_terms.specs.declared.data.Grid.{Grid}
use Rattle.clock_check.specs.private.Numbering.{number_at, grid_at, AreNumbers}
use Rattle.clock_check.specs.declared.flaw.Flaw.{Flaw}
use Rattle.clock_check.specs.private.Flaws.{IsFlawAt}

-- the number of a class, where it is known whether it is clocked
pub number_true : (clocked : List Bool) (c : ℕ) → slice_index_or clocked c false ≡ true → number_at clocked c ≡ Some (count_by (λ b. b) (take c clocked))
number_true clocked c t = subst (λ b. (if b then Some (count_by (λ b. b) (take c clocked)) else None) ≡ Some (count_by (λ b. b) (take c clocked))) (sym t) refl

pub number_false : (clocked : List Bool) (c : ℕ) → slice_index_or clocked c false ≡ false → number_at clocked c ≡ None
number_false clocked c f = subst (λ b. (if b then Some (count_by (λ b. b) (take c clocked)) else None) ≡ None) (sym f) refl

-- the grid at a number
abbrev pub grid_by : List Grid → Option ℕ → Option Grid
grid_by grids None = None
grid_by grids (Some n) = slice_get grids n

pub grid_number : (clocked : List Bool) (grids : List Grid) (c : ℕ) → grid_at clocked grids c ≡ grid_by grids (number_at clocked c)
grid_number clocked grids c = by (slice_index_or clocked c false)
  where
    by : (b : Bool) → (if b then slice_get grids (count_by (λ b. b) (take c clocked)) else None) ≡ grid_by grids (if b then Some (count_by (λ b. b) (take c clocked)) else None)
    by true = refl
    by false = refl

pub grid_of_number : (clocked : List Bool) (numbers : List (Option ℕ)) (grids : List Grid) (c : ℕ) (o : Option ℕ) → AreNumbers clocked numbers → slice_index_or numbers c None ≡ o → grid_at clocked grids c ≡ grid_by grids o
grid_of_number clocked numbers grids c o are e = grid_number clocked grids c ∙ ap (λ n. grid_by grids n) (sym (are.each c) ∙ e)

-- past the last class there is none
pub past_none : (clocked : List Bool) (c : ℕ) → length clocked ≤ c → number_at clocked c ≡ None
past_none clocked c past = number_false clocked c (get_or_past clocked c false past)

get_or-append_left : (xs ys : List (Option ℕ)) (k : ℕ) (d : Option ℕ) → k < length xs → get_or (xs ++ ys) k d ≡ get_or xs k d
get_or-append_left [] ys k d lt = absurd (omega (arith, lt))
get_or-append_left (x ∷ xs) ys zero d lt = refl
get_or-append_left (x ∷ xs) ys (suc k) d lt = get_or-append_left xs ys k d (omega (arith, lt))

get_or-push : (xs : List (Option ℕ)) (x d : Option ℕ) → get_or (xs ++ x ∷ []) (length xs) d ≡ x
get_or-push [] x d = refl
get_or-push (y ∷ xs) x d = get_or-push xs x d

-- one class more
pub each_more : (clocked : List Bool) (numbers new : List (Option ℕ)) (i : ℕ) (o : Option ℕ) → new ≡ numbers ++ o ∷ [] → length numbers ≡ i → o ≡ number_at clocked i
    → ((c : ℕ) → c < i → slice_index_or numbers c None ≡ number_at clocked c) → (c : ℕ) → c < i + 1 → slice_index_or new c None ≡ number_at clocked c
each_more clocked numbers new i o is size at h c lt = ⊎_elim
    (λ less. ap (λ l. slice_index_or l c None) is ∙ get_or-append_left numbers (o ∷ []) c None (omega (arith, size, less)) ∙ h c less)
    (λ e. ap (λ l. slice_index_or l c None) is ∙ ap (λ k. slice_index_or (numbers ++ o ∷ []) k None) (e ∙ sym size) ∙ get_or-push numbers o None ∙ at ∙ ap (λ k. number_at clocked k) (sym e))
    (less_or c i lt)
  where
    less_or : (c i : ℕ) → c < i + 1 → (c < i) ⊎ (c ≡ i)
    less_or c i lt = grind arith

pub all_each : (clocked : List Bool) (numbers : List (Option ℕ)) (n : ℕ) → length clocked ≤ n → length numbers ≡ n → ((c : ℕ) → c < n → slice_index_or numbers c None ≡ number_at clocked c)
    → (c : ℕ) → slice_index_or numbers c None ≡ number_at clocked c
all_each clocked numbers n past size h c = ⊎_elim (λ lt. h c lt)
    (λ le. get_or_past numbers c None (omega (arith, size, le)) ∙ sym (past_none clocked c (omega (arith, past, le)))) (less_or c n)
  where
    less_or : (c n : ℕ) → (c < n) ⊎ (n ≤ c)
    less_or c n = grind arith

-- what holds of no class so far, and one class more
pub flaw_more : (P : ℕ → Type 0) (i : ℕ) → ((c : ℕ) → c < i → P c → ⊥) → (P i → ⊥) → (c : ℕ) → c < i + 1 → P c → ⊥
flaw_more P i h none c lt p = ⊎_elim (λ less. h c less p) (λ e. none (subst P e p)) (less_or c i lt)
  where
    less_or : (c i : ℕ) → c < i + 1 → (c < i) ⊎ (c ≡ i)
    less_or c i lt = grind arith

-- past the last class no grid is
pub flaw_none : (flaw : Flaw) (clocked : List Bool) (grids : List Grid) (n : ℕ) → length clocked ≤ n → ((c : ℕ) → c < n → IsFlawAt flaw clocked grids c → ⊥) → (c : ℕ) → IsFlawAt flaw clocked grids c → ⊥
flaw_none flaw clocked grids n past h c (g, at, has) = ⊎_elim (λ lt. h c lt (g, at, has)) (λ le. none_some (sym (none le) ∙ at)) (less_or c n)
  where
    less_or : (c n : ℕ) → (c < n) ⊎ (n ≤ c)
    less_or c n = grind arith

    none_some : {x : Grid} → None ≡ Some x → ⊥
    none_some e = absurd cc

    none : n ≤ c → grid_at clocked grids c ≡ None
    none le = grid_number clocked grids c ∙ ap (λ o. grid_by grids o) (past_none clocked c (omega (arith, past, le)))

pub some_contains : (grids : List Grid) (n : ℕ) (o : Option Grid) → o ≡ slice_get grids n → IfSome o (Contains grids)
some_contains grids n None e = tt
some_contains grids n (Some g) e = (n, slice_get_within grids n g (sym e), get_or_from_slice_get grids n g g (sym e))

pub same_grid : (g h : Grid) → Some g ≡ Some h → g ≡ h
same_grid g h e = cc
