-- Constructors and the clocks that they give.
use Rattle.std.proofs.Common.{◌≡◌, ◌∙◌, refl, sym, ap, subst, ℕ, zero, suc, ◌+◌, ◌*◌, ◌^◌, ◌<◌, ◌≤◌, false, List, [], ◌∷◌, ◌++◌, Some, None, All, length, get_or, drop, arith, le_of_mul-le-mul_right, mul-le-mul_left}
use Rattle.std.specs.Int.{IsGcd}
use Rattle.std.proofs.Math.Nat.{le_of_dvd}
use Rattle.std.proofs.lemmas.List.{append-nil, append_assoc, drop_more, drop_all}
use Rattle.std.proofs.lemmas.List.Elements.{All-head, All-tail}
use Rattle.rational_time.specs.declared.ratio.Ratio.{Ratio}
use Rattle.rational_time.specs.Fraction.{IsFraction, ArePartsBelow}
use Rattle.rational_time.proofs.Fractions.{IsGcd-ratio}
use Rattle.rational_time.proofs.Divisors.{dvd_from, dvd_of_coprime}
use Rattle.clock_terms.specs.declared.data.Constructor.{Constructor}
use Rattle.clock_terms.specs.declared.data.Grid.{Grid}
use Rattle.clock_terms.specs.Position.{IsProper, IsFine}
use Rattle.clock_terms.specs.Source.{Kind, Inferred, Every, AtSite, Other, kind_of, Source, every, at_site, source_before, sources_from, sources_of}
use Rattle.sub_clock_solve.specs.declared.given.Given.{Given}
use Rattle.sub_clock_solve.specs.private.Given.{IsGridOf, IsSource, AreSources, GivesNone, GivesGrid, Steps, IsStep}
use Rattle.sub_clock_solve.specs.Standing.{IsGivenKind, IsGivenClock}

-- ---- the parts of a fraction are not above those that it is made of
den_most : (r : Ratio) (n d : ℕ) → 0 < d → IsFraction r n d → r.den ≤ d
den_most r n d p e =
    let g = IsGcd-ratio r in
    let turned : IsGcd r.den r.num 1 = (g.1, g.0, λ x a b. g.2 x b a) in
    le_of_dvd p (dvd_of_coprime r.den r.num d r.positive turned (dvd_from r.den n (r.num * d) (omega (arith, e))))

num_most : (r : Ratio) (n d : ℕ) → 0 < d → IsFraction r n d → r.num ≤ n
num_most r n d p e =
    let le = mul-le-mul_left n (den_most r n d p e) in
    le_of_mul-le-mul_right {k = d} (omega (arith, e, le)) p

fine_of : (r : Ratio) (n d : ℕ) → 0 < d → n < 2 ^ 31 → d < 2 ^ 31 → IsFraction r n d → ArePartsBelow (2 ^ 40) r
fine_of r n d p small few e =
    let num = num_most r n d p e in let den = den_most r n d p e in
    (omega (arith, num, small), omega (arith, den, few))

-- the grid of a clock in seconds
pub every_grid : (period start : Ratio) (n r : ℕ) → (0 < n) × (n < 2 ^ 31) × (0 < r) × (r < 2 ^ 31) → IsFraction period n r → IsFraction start 0 1
    → IsGridOf (record { site = None; period = period; start = start; negative = false }) (every n r)
every_grid period start n r (some, few, pos, small) e f = record {
  same = record { site = refl; period = omega (arith, e); start = omega (arith, f) };
  fine = record { period = fine_of period n r pos few small e; start = fine_of start 0 1 (omega arith) (omega arith) (omega arith) f; sign = λ t. absurd cc };
}

pub site_grid : (period start : Ratio) (site : ℕ) → IsFraction period 1 1 → IsFraction start 0 1
    → IsGridOf (record { site = Some site; period = period; start = start; negative = false }) (at_site site)
site_grid period start site e f = record {
  same = record { site = refl; period = omega (arith, e); start = omega (arith, f) };
  fine = record { period = fine_of period 1 1 (omega arith) (omega arith) (omega arith) e; start = fine_of start 0 1 (omega arith) (omega arith) (omega arith) f; sign = λ t. absurd cc };
}

-- ---- one constructor
abbrev pub given_of : Constructor → Grid → Given
given_of k g = record { node = k.node; equation = k.equation; grid = g }

none_step_of : (kind : Kind) (k : Constructor) (site : ℕ) (old : List Given) → GivesNone kind → Steps kind k site old site old
none_step_of Inferred k site old h = (refl, refl)
none_step_of Other k site old h = (refl, refl)
none_step_of (Every n r) k site old h = absurd h
none_step_of AtSite k site old h = absurd h

pub none_step : (k : Constructor) (site : ℕ) (old : List Given) → GivesNone (kind_of k.clock) → IsStep k site old site old
none_step k site old h = none_step_of (kind_of k.clock) k site old h

every_step_of : (kind : Kind) (k : Constructor) (site : ℕ) (g : Grid) (old : List Given) → GivesGrid kind site g → g.site ≡ None → Steps kind k site old site (old ++ given_of k g ∷ [])
every_step_of Inferred k site g old h e = absurd h
every_step_of Other k site g old h e = absurd h
every_step_of (Every n r) k site g old h e = (refl, (g, h.0, refl))
every_step_of AtSite k site g old h e = absurd (none_some (sym e ∙ h.1))
  where
    none_some : {s : ℕ} → None ≡ Some s → ⊥
    none_some e = absurd cc

pub every_step : (k : Constructor) (site : ℕ) (g : Grid) (old : List Given) → GivesGrid (kind_of k.clock) site g → g.site ≡ None → IsStep k site old site (old ++ given_of k g ∷ [])
every_step k site g old h e = every_step_of (kind_of k.clock) k site g old h e

site_step_of : (kind : Kind) (k : Constructor) (site : ℕ) (g : Grid) (old : List Given) → GivesGrid kind site g → (g.site ≡ None → ⊥) → Steps kind k site old (site + 1) (old ++ given_of k g ∷ [])
site_step_of Inferred k site g old h e = absurd h
site_step_of Other k site g old h e = absurd h
site_step_of (Every n r) k site g old h e = absurd (e h.1)
site_step_of AtSite k site g old h e = (refl, (g, h.0, refl))

pub site_step : (k : Constructor) (site : ℕ) (g : Grid) (old : List Given) → GivesGrid (kind_of k.clock) site g → (g.site ≡ None → ⊥) → IsStep k site old (site + 1) (old ++ given_of k g ∷ [])
site_step k site g old h e = site_step_of (kind_of k.clock) k site g old h e

-- ---- all constructors
abbrev Continues : List Source → List Given → List Source → Type 0
Continues all old rest = (gs : List Given) → AreSources gs rest → AreSources (old ++ gs) all

add_step : (k : Constructor) (all : List Source) (old new : List Given) (s : Source) (g : Grid) (rest : List Source) → s.node ≡ k.node → s.equation ≡ k.equation → IsGridOf g s.clock
    → new ≡ old ++ given_of k g ∷ [] → Continues all old (s ∷ rest) → Continues all new rest
add_step k all old new s g rest node equation grid added h gs these =
    subst (λ l. AreSources (l ++ gs) all) (sym added)
    (subst (λ l. AreSources l all) (sym (append_assoc old (given_of k g ∷ []) gs)) (h (given_of k g ∷ gs) (record { node = sym node; equation = sym equation; grid = grid }, these)))

step_by : (kind : Kind) (k : Constructor) (ks : List Constructor) (site next : ℕ) (old new : List Given) (all : List Source) → Steps kind k site old next new
    → Continues all old (source_before kind k site (λ n. sources_from n ks)) → Continues all new (sources_from next ks)
step_by Inferred k ks site next old new all (is, same) h = subst (λ n. Continues all new (sources_from n ks)) (sym is) (subst (λ l. Continues all l (sources_from site ks)) (sym same) h)
step_by Other k ks site next old new all (is, same) h = subst (λ n. Continues all new (sources_from n ks)) (sym is) (subst (λ l. Continues all l (sources_from site ks)) (sym same) h)
step_by (Every n r) k ks site next old new all (is, (g, grid, added)) h =
    subst (λ m. Continues all new (sources_from m ks)) (sym is) (add_step k all old new (record { node = k.node; equation = k.equation; clock = every n r }) g (sources_from site ks) refl refl grid added h)
step_by AtSite k ks site next old new all (is, (g, grid, added)) h =
    subst (λ m. Continues all new (sources_from m ks)) (sym is) (add_step k all old new (record { node = k.node; equation = k.equation; clock = at_site site }) g (sources_from (site + 1) ks) refl refl grid added h)

pub constructor_step : (ks : List Constructor) (i : ℕ) (k : Constructor) (site next : ℕ) (old new : List Given) (all : List Source) → i < length ks → k ≡ get_or ks i k → IsStep k site old next new
    → ((gs : List Given) → AreSources gs (sources_from site (drop i ks)) → AreSources (old ++ gs) all)
    → (gs : List Given) → AreSources gs (sources_from next (drop (i + 1) ks)) → AreSources (new ++ gs) all
constructor_step ks i k site next old new all within is step h =
    let whole : drop i ks ≡ k ∷ drop (i + 1) ks = drop_more ks i k within ∙ ap (λ x. x ∷ drop (i + 1) ks) (sym is) in
    step_by (kind_of k.clock) k (drop (i + 1) ks) site next old new all step (subst (λ l. Continues all old (sources_from site l)) whole h)

pub constructors_end : (ks : List Constructor) (i site : ℕ) (old : List Given) (all : List Source) → length ks ≤ i
    → ((gs : List Given) → AreSources gs (sources_from site (drop i ks)) → AreSources (old ++ gs) all) → AreSources old all
constructors_end ks i site old all past h =
    subst (λ l. AreSources l all) (append-nil old) (h [] (subst (λ l. AreSources [] (sources_from site l)) (sym (drop_all i ks past)) tt))

-- ---- what holds of all that is given
pub source_at : (gs : List Given) (ss : List Source) (i : ℕ) (d : Given) (e : Source) → AreSources gs ss → i < length gs → IsSource (get_or gs i d) (get_or ss i e)
source_at [] ss i d e h lt = absurd (omega (arith, lt))
source_at (g ∷ gs) [] i d e h lt = absurd h
source_at (g ∷ gs) (s ∷ ss) zero d e h lt = h.0
source_at (g ∷ gs) (s ∷ ss) (suc i) d e h lt = source_at gs ss i d e h.1 (omega (arith, lt))

pub sources_length : (gs : List Given) (ss : List Source) → AreSources gs ss → length gs ≡ length ss
sources_length [] [] h = refl
sources_length [] (s ∷ ss) h = absurd h
sources_length (g ∷ gs) [] h = absurd h
sources_length (g ∷ gs) (s ∷ ss) h = ap suc (sources_length gs ss h.1)

pub all_fine : (gs : List Given) (ss : List Source) → AreSources gs ss → All (λ given. IsFine (2 ^ 40) given.grid) gs
all_fine [] ss h = λ k d lt. absurd (omega (arith, lt))
all_fine (g ∷ gs) [] h = absurd h
all_fine (g ∷ gs) (s ∷ ss) h = by (all_fine gs ss h.1)
  where
    by : All (λ given. IsFine (2 ^ 40) given.grid) gs → All (λ given. IsFine (2 ^ 40) given.grid) (g ∷ gs)
    by rest zero d lt = h.0.grid.fine
    by rest (suc k) d lt = rest k d (omega (arith, lt))

-- sources have the nodes of constructors, and denominators above 0
module _ (P : ℕ → Type 0) where
  nodes_by : (kind : Kind) (k : Constructor) (site : ℕ) (rest : ℕ → List Source) → P k.node → ((n : ℕ) → All (λ s. P s.node) (rest n)) → All (λ s. P s.node) (source_before kind k site rest)
  nodes_by Inferred k site rest p h = h site
  nodes_by Other k site rest p h = h site
  nodes_by (Every n r) k site rest p h = by
    where
      by : All (λ s. P s.node) (record { node = k.node; equation = k.equation; clock = every n r } ∷ rest site)
      by zero d lt = p
      by (suc i) d lt = h site i d (omega (arith, lt))
  nodes_by AtSite k site rest p h = by
    where
      by : All (λ s. P s.node) (record { node = k.node; equation = k.equation; clock = at_site site } ∷ rest (site + 1))
      by zero d lt = p
      by (suc i) d lt = h (site + 1) i d (omega (arith, lt))

  sources_nodes : (site : ℕ) (ks : List Constructor) → All (λ k. P k.node) ks → All (λ s. P s.node) (sources_from site ks)
  sources_nodes site [] h = λ k d lt. absurd (omega (arith, lt))
  sources_nodes site (k ∷ ks) h = nodes_by (kind_of k.clock) k site (λ n. sources_from n ks) (All-head (λ k. P k.node) k ks h) (λ n. sources_nodes n ks (All-tail (λ k. P k.node) k ks h))

  pub given_nodes : (ks : List Constructor) (gs : List Given) → All (λ k. P k.node) ks → AreSources gs (sources_of ks) → All (λ given. P given.node) gs
  given_nodes ks gs h are = from gs (sources_of ks) are (sources_nodes 0 ks h)
    where
      from : (gs : List Given) (ss : List Source) → AreSources gs ss → All (λ s. P s.node) ss → All (λ given. P given.node) gs
      from [] ss are h = λ k d lt. absurd (omega (arith, lt))
      from (g ∷ gs) [] are h = absurd are
      from (g ∷ gs) (s ∷ ss) are h = by (from gs ss are.1 (All-tail (λ s. P s.node) s ss h))
        where
          by : All (λ given. P given.node) gs → All (λ given. P given.node) (g ∷ gs)
          by rest zero d lt = subst P (sym are.0.node) (All-head (λ s. P s.node) s ss h)
          by rest (suc k) d lt = rest k d (omega (arith, lt))

proper_by : (kind : Kind) (k : Constructor) (site : ℕ) (rest : ℕ → List Source) → IsGivenKind kind → ((n : ℕ) → All (λ s. IsProper s.clock) (rest n)) → All (λ s. IsProper s.clock) (source_before kind k site rest)
proper_by Inferred k site rest p h = h site
proper_by Other k site rest p h = h site
proper_by (Every n r) k site rest p h = by
  where
    by : All (λ s. IsProper s.clock) (record { node = k.node; equation = k.equation; clock = every n r } ∷ rest site)
    by zero d lt = record { period = p.2; start = omega arith }
    by (suc i) d lt = h site i d (omega (arith, lt))
proper_by AtSite k site rest p h = by
  where
    by : All (λ s. IsProper s.clock) (record { node = k.node; equation = k.equation; clock = at_site site } ∷ rest (site + 1))
    by zero d lt = record { period = omega arith; start = omega arith }
    by (suc i) d lt = h (site + 1) i d (omega (arith, lt))

pub sources_proper : (site : ℕ) (ks : List Constructor) → All (λ k. IsGivenClock k.clock) ks → All (λ s. IsProper s.clock) (sources_from site ks)
sources_proper site [] h = λ k d lt. absurd (omega (arith, lt))
sources_proper site (k ∷ ks) h = proper_by (kind_of k.clock) k site (λ n. sources_from n ks) (All-head (λ k. IsGivenClock k.clock) k ks h) (λ n. sources_proper n ks (All-tail (λ k. IsGivenClock k.clock) k ks h))
