-- Terms and classes have one answer.
use Rattle.std.proofs.Common.{◌≡◌, ◌∙◌, refl, sym, ap, ap₂, subst, ℕ, zero, suc, ◌+◌, ◌*◌, ◌<◌, ◌^◌, inl, inr, Bool, true, false, List, [], ◌∷◌, Option, Some, None, Result, Ok, Err, length, take, drop, slice_index_or, slice_get, arith}
use Rattle.std.proofs.Math.Path.{fun_ext}
use Rattle.rational_time.specs.declared.ratio.Ratio.{Ratio}
use Rattle.flat_model.proofs.InstantsLeft.{same_ratio}
use Rattle.clock_terms.specs.declared.data.Terms.{Terms}
use Rattle.clock_terms.specs.declared.data.Classes.{Classes}
use Rattle.clock_terms.specs.declared.data.Grid.{Grid}
use Rattle.clock_terms.specs.Position.{Progression, IsProper, AreSame, progression_of_grid}
use Rattle.clock_terms.specs.Clocking.{Said, Held}
use Rattle.clock_terms.proofs.Progressions.{same_sym, same_trans}
use Rattle.clock_terms.specs.Least.{IsLeast}
use Rattle.clock_spread.specs.Rounds.{AreGotten, after_round}
use Rattle.clock_spread.proofs.Limits.{same_signs, same_sizes}
use Rattle.clock_spread.proofs.Spreading.{gets_once}
use Rattle.sub_clock_solve.specs.declared.kinds.SolveEnd.{SolveEnd}
use Rattle.sub_clock_solve.specs.declared.kinds.SolveEnd.TheVariants.{Unknown, TooFine, Conflict, NoMemory}
use Rattle.sub_clock_solve.specs.Grain.{denominators, IsGrainPast}
use Rattle.sub_clock_solve.specs.Solving.{said_of, GetsNone, place_of, StandsFor, AreGrids, AreSolved, IsTooFineAt, FailsAt, Solves, TakesTooFine, IsAnyTooFine}
use Rattle.sub_clock_solve.specs.Laws.{IsNoMemory}
use Rattle.sub_clock_solve.specs.Standing.{FitTogether}
use Rattle.sub_clock_solve.proofs.Gathers.{count, count_true, count_false, den_append}
use Rattle.sub_clock_solve.proofs.Grains.{fewer_below}
use Rattle.sub_clock_solve.proofs.Ending.{take_drop}
use Rattle.sub_clock_solve.proofs.Rounding.{start_proper}
use Rattle.sub_clock_solve.proofs.Giving.{sources_proper}
use Rattle.clock_terms.specs.Source.{sources_of}
use Rattle.clock_spread.specs.Turn.{AreProper}
use Rattle.clock_spread.proofs.Losing.{following_proper}
use Rattle.rational_time.specs.Multiple.{HasMultipleBelow}

none_some : {A : Type 0} {a : A} → None ≡ Some a → ⊥
none_some e = absurd cc

some_same : {A : Type 0} {a b : A} → Some a ≡ Some b → a ≡ b
some_same e = cc

-- a least number is one
pub least_once : (P : ℕ → Type 0) (m n : ℕ) → IsLeast P m → IsLeast P n → m ≡ n
least_once P m n a b = let not_less : m < n → ⊥ = λ lt. b.1 m lt a.0 in let not_more : n < m → ⊥ = λ lt. a.1 n lt b.0 in omega arith

-- the clocks that the classes get are one
pub gotten_once : (said : Said) (held other : Held) → AreGotten said held → AreGotten said other → held ≡ other
gotten_once said held other a b = fun_ext (λ c. by c (said.clocked c) refl)
  where
    by : (c : ℕ) (t : Bool) → said.clocked c ≡ t → held c ≡ other c
    by c true e =
        let (p, at_p, gets_p) = a.clocked c e in
        let (q, at_q, gets_q) = b.clocked c e in
        at_p ∙ ap Some (gets_once said c p q gets_p gets_q) ∙ sym at_q
    by c false e = a.unclocked c e ∙ sym (b.unclocked c e)

-- grids of one clock are one
whole_grid : (g h : Grid) → g.site ≡ h.site → g.period ≡ h.period → g.start ≡ h.start → g.negative ≡ h.negative → g ≡ h
whole_grid g h site period start negative =
    ap (λ s. whole_of s g.period g.start g.negative) site ∙ ap (λ p. whole_of h.site p g.start g.negative) period
    ∙ ap (λ t. whole_of h.site h.period t g.negative) start ∙ ap (λ n. whole_of h.site h.period h.start n) negative
  where
    whole_of : Option ℕ → Ratio → Ratio → Bool → Grid
    whole_of s p t n = record { site = s; period = p; start = t; negative = n }

pub grid_once : (g h : Grid) (p : Progression) → IsProper p → StandsFor g p → StandsFor h p → g ≡ h
grid_once g h p proper a b =
    let same : AreSame (progression_of_grid g) (progression_of_grid h) = same_trans (progression_of_grid g) p (progression_of_grid h) proper a.1 (same_sym (progression_of_grid h) p b.1) in
    let sign : g.negative ≡ h.negative = same_signs g.negative h.negative g.start h.start a.0.sign b.0.sign same.start in
    let parts = same_sizes g.negative h.negative g.start h.start sign same.start in
    let at = same.period in
    whole_grid g h same.site (same_ratio g.period h.period (omega (arith, at)))
    (same_ratio g.start h.start (ap₂ (λ x y. x * y) parts.num (sym parts.den))) sign

-- each number of a clocked class is that of one
pub place_has : (clocked : List Bool) (k : ℕ) → k < count clocked → (c : ℕ) × (slice_index_or clocked c false ≡ true) × (count (take c clocked) ≡ k)
place_has [] k lt = absurd (omega (arith, lt))
place_has (true ∷ bs) zero lt = (0, refl, refl)
place_has (true ∷ bs) (suc k) lt = let (c, t, is) = place_has bs k (let e = count_true bs in omega (arith, e, lt)) in (suc c, t, count_true (take c bs) ∙ ap suc is)
place_has (false ∷ bs) k lt = let (c, t, is) = place_has bs k (let e = count_false bs in omega (arith, e, lt)) in (suc c, t, count_false (take c bs) ∙ is)

pub grids_once : (classes : Classes) (held : Held) (gs hs : List Grid) → ((c : ℕ) (p : Progression) → held c ≡ Some p → IsProper p) → AreGrids classes held gs → AreGrids classes held hs → gs ≡ hs
grids_once classes held gs hs proper a b = by gs hs (a.same_length ∙ sym b.same_length) at
  where
    at : (k : ℕ) → k < length gs → (g : Grid) × (slice_get gs k ≡ Some g) × (slice_get hs k ≡ Some g)
    at k lt =
        let size = a.same_length in
        let (c, t, is) = place_has classes.clocked k (omega (arith, size, lt)) in
        let (p, g, at_p, at_g, for_g) = a.each c t in
        let (q, h, at_q, at_h, for_h) = b.each c t in
        let equal : q ≡ p = some_same (sym at_q ∙ at_p) in
        let one : g ≡ h = grid_once g h p (proper c p at_p) for_g (subst (λ x. StandsFor h x) equal for_h) in
        (g, ap (λ n. slice_get gs n) (sym is) ∙ at_g, ap (λ n. slice_get hs n) (sym is) ∙ at_h ∙ ap Some (sym one))

    by : (xs ys : List Grid) → length xs ≡ length ys → ((k : ℕ) → k < length xs → (g : Grid) × (slice_get xs k ≡ Some g) × (slice_get ys k ≡ Some g)) → xs ≡ ys
    by [] [] e h = refl
    by [] (y ∷ ys) e h = absurd (omega (arith, e))
    by (x ∷ xs) [] e h = absurd (omega (arith, e))
    by (x ∷ xs) (y ∷ ys) e h =
        let (g, first, second) = h 0 (omega arith) in
        ap₂ (λ z zs. z ∷ zs) (some_same (first ∙ sym second)) (by xs ys (omega (arith, e)) (λ k lt. h (suc k) (omega (arith, lt))))

-- a clocked class is the only one at its place
place_once : (clocked : List Bool) (c d : ℕ) → slice_index_or clocked c false ≡ true → slice_index_or clocked d false ≡ true → count (take c clocked) ≡ count (take d clocked) → c ≡ d
place_once [] c d t u e = absurd cc
place_once (b ∷ bs) zero zero t u e = refl
place_once (true ∷ bs) zero (suc d) t u e = let f = count_true (take d bs) in absurd (clash (e ∙ f))
  where
    clash : {n : ℕ} → 0 ≡ suc n → ⊥
    clash e = absurd (omega (arith, e))
place_once (true ∷ bs) (suc c) zero t u e = let f = count_true (take c bs) in absurd (clash (sym e ∙ f))
  where
    clash : {n : ℕ} → 0 ≡ suc n → ⊥
    clash e = absurd (omega (arith, e))
place_once (false ∷ bs) zero (suc d) t u e = absurd cc
place_once (false ∷ bs) (suc c) zero t u e = absurd cc
place_once (true ∷ bs) (suc c) (suc d) t u e = ap suc (place_once bs c d t u (let f = count_true (take c bs) in let g = count_true (take d bs) in omega (arith, e, f, g)))
place_once (false ∷ bs) (suc c) (suc d) t u e = ap suc (place_once bs c d t u (sym (count_false (take c bs)) ∙ e ∙ count_false (take d bs)))

-- the denominators of the first clocks are among those of all
part_below : (n : ℕ) (gs : List Grid) → HasMultipleBelow (2 ^ 40) (denominators gs) → HasMultipleBelow (2 ^ 40) (denominators (take n gs))
part_below n gs h =
    fewer_below (2 ^ 40) (denominators (take n gs)) (denominators (drop n gs)) (subst (λ l. HasMultipleBelow (2 ^ 40) l) (ap denominators (sym (take_drop n gs)) ∙ den_append (take n gs) (drop n gs)) h)

module _ (terms : Terms) (classes : Classes) (fit : FitTogether terms classes) where
  abbrev said : Said
  said = said_of terms classes

  round_proper : (n : ℕ) → AreProper (after_round said n)
  round_proper zero = start_proper classes.class_of classes.clocked (sources_of terms.constructors) (sources_proper 0 terms.constructors fit.clocks)
  round_proper (suc n) = following_proper said (after_round said n) (round_proper n)

  pub gotten_proper : (held : Held) → AreGotten said held → AreProper held
  gotten_proper held g c p e = by (said.clocked c) refl
    where
      by : (t : Bool) → said.clocked c ≡ t → IsProper p
      by true t = let (q, at, gets) = g.clocked c t in subst IsProper (some_same (sym at ∙ e)) (round_proper gets.0 c q gets.1)
      by false f = absurd (none_some (sym (g.unclocked c f) ∙ e))

  -- two lists of grids of the clocks of the rounds are one
  same_grids : (held other : Held) (gs hs : List Grid) → AreSolved terms classes held gs → AreSolved terms classes other hs → gs ≡ hs
  same_grids held other gs hs a b =
      grids_once classes held gs hs (gotten_proper held a.gotten) a.are_grids (subst (λ x. AreGrids classes x hs) (gotten_once said other held b.gotten a.gotten) b.are_grids)

  known : (held : Held) (c : ℕ) → AreGotten said held → IsLeast (GetsNone said) c → ⊥
  known held c g least = let (p, at, gets) = g.clocked c least.0.0 in least.0.1 p gets

  too_fine_known : (c d : ℕ) → IsTooFineAt terms classes d → IsLeast (GetsNone said) c → ⊥
  too_fine_known c d (inl (held, g, first)) least = known held c g least
  too_fine_known c d (inr (held, grids, solved, past)) least = known held c solved.gotten least

  -- a list of clocks on a grid that is fine enough leaves none too fine
  none_past : (held : Held) (gs : List Grid) (c : ℕ) → AreSolved terms classes held gs → HasMultipleBelow (2 ^ 40) (denominators gs) → IsTooFineAt terms classes c → ⊥
  none_past held gs c solved below (inl (other, g, (round, any, least))) = solved.none_too_fine round c least.0
  none_past held gs c solved below (inr (other, hs, solved', (is_clocked, least))) =
      least.0 (part_below (place_of classes c + 1) hs (subst (λ l. HasMultipleBelow (2 ^ 40) (denominators l)) (same_grids held other gs hs solved solved') below))

  two_too_fine : (c d : ℕ) → IsTooFineAt terms classes c → IsTooFineAt terms classes d → c ≡ d
  two_too_fine c d (inl (held, g, (m, any_m, least_c))) (inl (other, h, (n, any_n, least_d))) =
      let same : n ≡ m = least_once (IsAnyTooFine said) n m any_n any_m in
      least_once (TakesTooFine said m) c d least_c (subst (λ k. IsLeast (TakesTooFine said k) d) same least_d)
  two_too_fine c d (inl (held, g, (m, any_m, least_c))) (inr (other, hs, solved, past)) = absurd (solved.none_too_fine m c least_c.0)
  two_too_fine c d (inr (held, gs, solved, past)) (inl (other, h, (n, any_n, least_d))) = absurd (solved.none_too_fine n d least_d.0)
  two_too_fine c d (inr (held, gs, solved, (t, least))) (inr (other, hs, solved', (u, least'))) =
      let same : hs ≡ gs = same_grids other held hs gs solved' solved in
      place_once classes.clocked c d t u (least_once (IsGrainPast gs) (place_of classes c) (place_of classes d) least (subst (λ l. IsLeast (IsGrainPast l) (place_of classes d)) same least'))

  pub one_answer : (one other : Result (List Grid) SolveEnd) → Solves terms classes one → Solves terms classes other → (IsNoMemory one → ⊥) → (IsNoMemory other → ⊥) → one ≡ other
  one_answer (Ok gs) (Ok hs) (held, solved, below, none) (other, solved', below', none') n m = ap Ok (same_grids held other gs hs solved solved')
  one_answer (Ok gs) (Err (Unknown d)) (held, solved, below, none) b n m = absurd (known held d solved.gotten b)
  one_answer (Ok gs) (Err (TooFine d)) (held, solved, below, none) b n m = absurd (none_past held gs d solved below b)
  one_answer (Ok gs) (Err (Conflict e)) (held, solved, below, none) ((other, hs, solved', below', least), no_clocking) n m =
      absurd (none e (subst (λ x. FailsAt said x e) (gotten_once said other held solved'.gotten solved.gotten) least.0))
  one_answer (Err (Unknown c)) (Ok hs) a (other, solved', below', none') n m = absurd (known other c solved'.gotten a)
  one_answer (Err (Unknown c)) (Err (Unknown d)) a b n m = ap (λ k. Err (Unknown k)) (least_once (GetsNone said) c d a b)
  one_answer (Err (Unknown c)) (Err (TooFine d)) a b n m = absurd (too_fine_known c d b a)
  one_answer (Err (Unknown c)) (Err (Conflict e)) a ((other, hs, solved', below', least), no_clocking) n m = absurd (known other c solved'.gotten a)
  one_answer (Err (TooFine c)) (Ok hs) a (other, solved', below', none') n m = absurd (none_past other hs c solved' below' a)
  one_answer (Err (TooFine c)) (Err (Unknown d)) a b n m = absurd (too_fine_known d c a b)
  one_answer (Err (TooFine c)) (Err (TooFine d)) a b n m = ap (λ k. Err (TooFine k)) (two_too_fine c d a b)
  one_answer (Err (TooFine c)) (Err (Conflict e)) a ((other, hs, solved', below', least), no_clocking) n m = absurd (none_past other hs c solved' below' a)
  one_answer (Err (Conflict e)) (Ok hs) ((held, gs, solved, below, least), no_clocking) (other, solved', below', none') n m =
      absurd (none' e (subst (λ x. FailsAt said x e) (gotten_once said held other solved.gotten solved'.gotten) least.0))
  one_answer (Err (Conflict e)) (Err (Unknown d)) ((held, gs, solved, below, least), no_clocking) b n m = absurd (known held d solved.gotten b)
  one_answer (Err (Conflict e)) (Err (TooFine d)) ((held, gs, solved, below, least), no_clocking) b n m = absurd (none_past held gs d solved below b)
  one_answer (Err (Conflict e)) (Err (Conflict f)) ((held, gs, solved, below, least), no_clocking) ((other, hs, solved', below', least'), no_clocking') n m =
      ap (λ k. Err (Conflict k)) (least_once (FailsAt said held) e f least (subst (λ x. IsLeast (FailsAt said x) f) (gotten_once said other held solved'.gotten solved.gotten) least'))
  one_answer (Err NoMemory) other a b n m = absurd (n tt)
  one_answer (Ok gs) (Err NoMemory) a b n m = absurd (m tt)
  one_answer (Err (Unknown c)) (Err NoMemory) a b n m = absurd (m tt)
  one_answer (Err (TooFine c)) (Err NoMemory) a b n m = absurd (m tt)
  one_answer (Err (Conflict e)) (Err NoMemory) a b n m = absurd (m tt)
