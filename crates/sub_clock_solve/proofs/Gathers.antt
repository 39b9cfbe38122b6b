-- The kept clocks stand at the places of their classes.
use Rattle.std.proofs.Common.{◌≡◌, ◌∙◌, refl, sym, ap, ℕ, zero, suc, ◌+◌, ◌<◌, Bool, true, false, List, [], ◌∷◌, ◌++◌, length, take, get_or, slice_get, Some, arith, cond}
use Rattle.std.specs.List.{count_by}
use Rattle.std.proofs.lemmas.List.Sums.{sum_by-cons}
use Rattle.std.proofs.lemmas.List.{append-nil, append_assoc}
use Rattle.clock_terms.specs.declared.data.Grid.{Grid}
use Rattle.clock_spread.specs.declared.offers.Found.{Found}
use Rattle.clock_spread.specs.declared.offers.Found.TheVariants.{Not, Kept, Lost}
use Rattle.clock_spread.specs.Found.{found_of}
use Rattle.clock_spread.specs.Queue.{marked}
use Rattle.sub_clock_solve.specs.private.Gathering.{kept_of, kept_grids}
use Rattle.sub_clock_solve.specs.Grain.{own_denominators, denominators}

-- how many of these are clocked
abbrev pub count : List Bool → ℕ
count bs = count_by (λ b. b) bs

pub count_true : (bs : List Bool) → count (true ∷ bs) ≡ suc (count bs)
count_true bs = sum_by-cons (λ b. cond b 1 0) true bs ∙ omega arith

pub count_false : (bs : List Bool) → count (false ∷ bs) ≡ count bs
count_false bs = sum_by-cons (λ b. cond b 1 0) false bs ∙ omega arith

-- each clocked class has a kept clock
abbrev pub AllKept : List Found → List Bool → Type 0
AllKept found clocked = (c : ℕ) → marked clocked c ≡ true → (g : Grid) × (found_of found c ≡ Kept g)

later_kept : (f : Found) (fs : List Found) (b : Bool) (bs : List Bool) → AllKept (f ∷ fs) (b ∷ bs) → AllKept fs bs
later_kept f fs b bs h c t = h (suc c) t

one_kept : (f : Found) (g : Grid) (rest : List Grid) → f ≡ Kept g → kept_of true f ++ rest ≡ g ∷ rest
one_kept f g rest e = ap (λ x. kept_of true x ++ rest) e

none_kept : (f : Found) (rest : List Grid) → kept_of false f ++ rest ≡ rest
none_kept Not rest = refl
none_kept (Kept g) rest = refl
none_kept Lost rest = refl

pub kept_length : (found : List Found) (clocked : List Bool) → length found ≡ length clocked → AllKept found clocked → length (kept_grids found clocked) ≡ count clocked
kept_length [] [] e h = refl
kept_length [] (b ∷ bs) e h = absurd (omega (arith, e))
kept_length (f ∷ fs) [] e h = absurd (omega (arith, e))
kept_length (f ∷ fs) (true ∷ bs) e h =
    let (g, is) = h 0 refl in
    let rest = kept_length fs bs (omega (arith, e)) (later_kept f fs true bs h) in
    ap length (one_kept f g (kept_grids fs bs) is) ∙ ap suc rest ∙ sym (count_true bs)
kept_length (f ∷ fs) (false ∷ bs) e h =
    ap length (none_kept f (kept_grids fs bs)) ∙ kept_length fs bs (omega (arith, e)) (later_kept f fs false bs h) ∙ sym (count_false bs)

-- the clocks of the first classes
pub kept_take : (found : List Found) (clocked : List Bool) (n : ℕ) → length found ≡ length clocked → AllKept found clocked
    → kept_grids (take n found) (take n clocked) ≡ take (count (take n clocked)) (kept_grids found clocked)
kept_take found clocked zero e h = refl
kept_take [] [] (suc n) e h = refl
kept_take [] (b ∷ bs) (suc n) e h = absurd (omega (arith, e))
kept_take (f ∷ fs) [] (suc n) e h = absurd (omega (arith, e))
kept_take (f ∷ fs) (true ∷ bs) (suc n) e h =
    let (g, is) = h 0 refl in
    let rest = kept_take fs bs n (omega (arith, e)) (later_kept f fs true bs h) in
    one_kept f g (kept_grids (take n fs) (take n bs)) is ∙ ap (λ l. g ∷ l) rest
    ∙ sym (ap (λ k. take k (kept_grids (f ∷ fs) (true ∷ bs))) (count_true (take n bs)) ∙ ap (λ l. take (suc (count (take n bs))) l) (one_kept f g (kept_grids fs bs) is))
kept_take (f ∷ fs) (false ∷ bs) (suc n) e h =
    none_kept f (kept_grids (take n fs) (take n bs)) ∙ kept_take fs bs n (omega (arith, e)) (later_kept f fs false bs h)
    ∙ sym (ap (λ k. take k (kept_grids (f ∷ fs) (false ∷ bs))) (count_false (take n bs)) ∙ ap (λ l. take (count (take n bs)) l) (none_kept f (kept_grids fs bs)))

-- the clock of a class stands at its place
pub kept_get : (found : List Found) (clocked : List Bool) (c : ℕ) (g : Grid) → length found ≡ length clocked → AllKept found clocked → marked clocked c ≡ true → found_of found c ≡ Kept g
    → slice_get (kept_grids found clocked) (count (take c clocked)) ≡ Some g
kept_get [] clocked c g e h t is = absurd cc
kept_get (f ∷ fs) [] c g e h t is = absurd cc
kept_get (f ∷ fs) (true ∷ bs) zero g e h t is = ap (λ l. slice_get l 0) (one_kept f g (kept_grids fs bs) is)
kept_get (f ∷ fs) (false ∷ bs) zero g e h t is = absurd cc
kept_get (f ∷ fs) (true ∷ bs) (suc c) g e h t is =
    let (first, at) = h 0 refl in
    ap (λ k. slice_get (kept_grids (f ∷ fs) (true ∷ bs)) k) (count_true (take c bs)) ∙ ap (λ l. slice_get l (suc (count (take c bs)))) (one_kept f first (kept_grids fs bs) at)
    ∙ kept_get fs bs c g (omega (arith, e)) (later_kept f fs true bs h) t is
kept_get (f ∷ fs) (false ∷ bs) (suc c) g e h t is =
    ap (λ k. slice_get (kept_grids (f ∷ fs) (false ∷ bs)) k) (count_false (take c bs)) ∙ ap (λ l. slice_get l (count (take c bs))) (none_kept f (kept_grids fs bs))
    ∙ kept_get fs bs c g (omega (arith, e)) (later_kept f fs false bs h) t is

-- one class more
pub kept_more : (found : List Found) (clocked : List Bool) (i : ℕ) (d : Found) (b : Bool) → i < length found → i < length clocked
    → kept_grids (take (i + 1) found) (take (i + 1) clocked) ≡ kept_grids (take i found) (take i clocked) ++ kept_of (get_or clocked i b) (get_or found i d)
kept_more found clocked i d b p q = ap (λ n. kept_grids (take n found) (take n clocked)) (let e : i + 1 ≡ suc i = omega arith in e) ∙ by found clocked i p q
  where
    step : (f : Found) (c : Bool) (fs : List Found) (cs : List Bool) (i : ℕ)
        → kept_grids (take (suc i) fs) (take (suc i) cs) ≡ kept_grids (take i fs) (take i cs) ++ kept_of (get_or cs i b) (get_or fs i d)
        → kept_of c f ++ kept_grids (take (suc i) fs) (take (suc i) cs) ≡ (kept_of c f ++ kept_grids (take i fs) (take i cs)) ++ kept_of (get_or cs i b) (get_or fs i d)
    step f c fs cs i again = ap (λ l. kept_of c f ++ l) again ∙ sym (append_assoc (kept_of c f) (kept_grids (take i fs) (take i cs)) (kept_of (get_or cs i b) (get_or fs i d)))

    by : (fs : List Found) (cs : List Bool) (i : ℕ) → i < length fs → i < length cs
        → kept_grids (take (suc i) fs) (take (suc i) cs) ≡ kept_grids (take i fs) (take i cs) ++ kept_of (get_or cs i b) (get_or fs i d)
    by [] cs i p q = absurd (omega (arith, p))
    by (f ∷ fs) [] i p q = absurd (omega (arith, q))
    by (f ∷ fs) (c ∷ cs) zero p q = append-nil (kept_of c f)
    by (f ∷ fs) (c ∷ cs) (suc i) p q = step f c fs cs i (by fs cs i (omega (arith, p)) (omega (arith, q)))

-- ---- denominators of several clocks
pub den_append : (gs hs : List Grid) → denominators (gs ++ hs) ≡ denominators gs ++ denominators hs
den_append [] hs = refl
den_append (g ∷ gs) hs = ap (λ l. own_denominators g.site g ++ l) (den_append gs hs) ∙ sym (append_assoc (own_denominators g.site g) (denominators gs) (denominators hs))

-- what is known of the first classes, with one class more
pub class_more : (found : List Found) (clocked : List Bool) (i : ℕ) (f : Found) (b : Bool) → i < length found → i < length clocked → f ≡ found_of found i → b ≡ marked clocked i
    → denominators (kept_grids (take (i + 1) found) (take (i + 1) clocked)) ≡ denominators (kept_grids (take i found) (take i clocked)) ++ denominators (kept_of b f)
class_more found clocked i f b p q e g =
    ap denominators (kept_more found clocked i Not false p q)
    ∙ den_append (kept_grids (take i found) (take i clocked)) (kept_of (marked clocked i) (found_of found i))
    ∙ ap (λ l. denominators (kept_grids (take i found) (take i clocked)) ++ denominators l) (ap (λ x. kept_of x (found_of found i)) (sym g) ∙ ap (λ x. kept_of b x) (sym e))

pub kept_false : (gs : List Grid) (f : Found) → gs ++ kept_of false f ≡ gs
kept_false gs Not = append-nil gs
kept_false gs (Kept g) = append-nil gs
kept_false gs Lost = append-nil gs
