-- Where no rule is broken, the parts that are made are a clocking.
use Rattle.std.proofs.Common.{◌≡◌, ◌≢◌, ◌∙◌, refl, sym, ap, subst, ℕ, zero, suc, ◌+◌, ◌*◌, ◌^◌, ◌<◌, ◌⊎◌, inl, inr, ⊎_elim, Bool, true, false, if◌then◌else◌, List, [], ◌∷◌, ◌++◌, length, map, get_or, slice_index_or, slice_get, Option, Some, None, option_map, All, Contains, arith, mul-pos}
use Rattle.std.proofs.lemmas.Option.{slice_get-map, slice_get_within, get_or_from_slice_get}
use Rattle.std.proofs.lemmas.List.{length-map}
use Rattle.std.proofs.lemmas.List.Elements.{All-contains, Contains-get_or}
use Rattle.rational_time.specs.Multiple.{HasMultipleBelow}
use Rattle.flat_model.specs.declared.clock.Clock.{Clock}
use Rattle.flat_model.specs.declared.clock.Clocking.{Clocking}
use Rattle.flat_model.specs.declared.expression.Expr.{Expr}
use Rattle.flat_model.specs.declared.clock.Conversion.{Conversion}
use Rattle.flat_model.specs.declared.clock.Conversion.TheVariants.{Sub, Super, Shift, Back, NoClock}
use Rattle.flat_model.specs.declared.model.FlatModel.{FlatModel}
use Rattle.flat_model.specs.declared.model.FlatName.{FlatName}
use Rattle.flat_model.specs.Runnable.{CanRun, AreClocks, denominators as clock_denominators}
use Rattle.clock_terms.specs.declared.data.Terms.{Terms}
use Rattle.clock_terms.specs.declared.data.Classes.{Classes}
use Rattle.clock_terms.specs.declared.data.Grid.{Grid}
use Rattle.clock_terms.specs.declared.data.Relation.{Relation}
use Rattle.clock_terms.specs.Position.{IsAt, at_ratio, at_signed, whole, Progression, IsProper, AreSame, progression_of, progression_of_grid, IsFine}
use Rattle.clock_terms.specs.Asked.{converted, IsGiven}
use Rattle.clock_terms.specs.Source.{Source}
use Rattle.clock_terms.specs.Clocking.{Said, Held, SourceHolds, RelationHolds, IsClocking, IsRunnable}
use Rattle.clock_terms.specs.Classing.{AreClassesOf, class_in, is_clocked}
use Rattle.clock_terms.specs.Nodes.{Node, nodes_of}
use Rattle.clock_terms.specs.Said.{AreTermsOf, IsNode, numbered, IsNamed}
use Rattle.clock_terms.proofs.Progressions.{same_sym, same_trans, same_ticks, ticks_same}
use Rattle.clock_spread.proofs.Limits.{grid_proper}
use Rattle.sub_clock_solve.specs.Grain.{denominators, own_denominators}
use Rattle.sub_clock_solve.specs.Solving.{said_of, place_of, StandsFor, AreSolved, IsSolution}
use Rattle.sub_clock_solve.specs.Standing.{FitTogether}
use Rattle.sub_clock_solve.proofs.Once.{gotten_proper, place_has}
use Rattle.sub_clock_solve.proofs.Giving.{sources_proper}
use Rattle.sub_clock_solve.proofs.Rising.{IsRising, gotten_rising, gotten_keeps}
use Rattle.sub_clock_solve.proofs.Clashing.{asks_same}
use Rattle.clock_check.specs.Broken.{StartsEarly, HasNoWholeShift, HasNoWholeFactor}
use Rattle.clock_check.specs.Checking.{grid_of, held_by, AreFactorsWhole}
use Rattle.clock_check.specs.ClockingOf.{number_in, class_of_name, held_in, IsClockingOf}
use Rattle.clock_check.specs.Inferring.{IsInferred}
use Rattle.clock_check.specs.private.Numbering.{AreNumbers}
use Rattle.clock_check.specs.private.Making.{number_of_name, node_numbers, clock_by, clock_of_grid}
use Rattle.clock_check.specs.private.Made.{IsMade}
use Rattle.clock_check.proofs.Making.{own_numbers, numbers_entries, own_length, own_get, sites_below}
use Rattle.clock_check.proofs.Stable.{stable_nat, stable_source, stable_given, stable_inferred, inferred_same}

none_some : {A : Type 0} {a : A} → None ≡ Some a → ⊥
none_some e = absurd cc

some_same : {A : Type 0} {a b : A} → Some a ≡ Some b → a ≡ b
some_same e = cc

site_kept : (by : Conversion) (u : Progression) → (converted by u).site ≡ u.site
site_kept (Sub f) u = refl
site_kept (Super f) u = refl
site_kept (Shift k r) u = refl
site_kept (Back k r) u = refl
site_kept NoClock u = refl

-- ---- one clock
-- a grid without a flaw
pub record IsSound (g : Grid) : Type 0 where
  pub in_time : (g.site ≡ None) → g.negative ≡ false
  pub on_risings : (g.site ≢ None) → (g.negative ≡ false) × (g.start.den ≡ 1) × (g.period.den ≡ 1)

not_true : (b : Bool) → (b ≡ true → ⊥) → b ≡ false
not_true true h = absurd (h refl)
not_true false h = refl

pub sound_of : (g : Grid) → (StartsEarly g → ⊥) → (HasNoWholeShift g → ⊥) → (HasNoWholeFactor g → ⊥) → IsSound g
sound_of g early shift factor = record {
  in_time = λ e. not_true g.negative (λ t. early (e, t));
  on_risings = λ n. (not_true g.negative (λ t. shift (n, inl t)), stable_nat g.start.den 1 (λ d. shift (n, inr d)), stable_nat g.period.den 1 (λ d. factor (n, d)));
}

-- its clock is the same progression
pub clock_same : (g : Grid) → IsSound g → AreSame (progression_of (clock_of_grid g)) (progression_of_grid g)
clock_same g s = by g.site refl
  where
    plain : g.negative ≡ false → IsAt (at_ratio g.start) (at_signed g.negative g.start)
    plain e = subst (λ n. IsAt (at_ratio g.start) (at_signed n g.start)) (sym e) refl

    by : (site : Option ℕ) → g.site ≡ site → AreSame (progression_of (clock_by site g)) (progression_of_grid g)
    by None e = record { site = sym e; period = refl; start = plain (s.in_time e) }
    by (Some site) e =
        let (sign, start, period) = s.on_risings (λ n. none_some (sym n ∙ e)) in
        record {
          site = sym e;
          period = (let r : g.period.num * g.period.den + 0 * 1 ≡ g.period.num * 1 + 0 * g.period.den = omega (arith, ap (λ d. g.period.num * d) period) in r);
          start = subst (λ n. IsAt (whole g.start.num) (at_signed n g.start)) (sym sign) (let r : g.start.num * g.start.den + 0 * 1 ≡ g.start.num * 1 + 0 * g.start.den = omega (arith, ap (λ d. g.start.num * d) start) in r);
        }

-- and can be run
pub clock_runs : (g : Grid) → 0 < g.period.num → IsRunnable (progression_of (clock_of_grid g))
clock_runs g some = by g.site
  where
    by : (site : Option ℕ) → IsRunnable (progression_of (clock_by site g))
    by None = record { proper = record { period = g.period.positive; start = g.start.positive }; positive = λ k. omega arith; on_axis = tt }
    by (Some site) = record {
      proper = record { period = omega arith; start = omega arith };
      positive = λ k. omega arith;
      on_axis = ((g.period.num, some, refl), (g.start.num, refl));
    }

pub clock_can : (sites : List Expr) (g : Grid) → IsFine (2 ^ 40) g → 0 < g.period.num → ((s : ℕ) → g.site ≡ Some s → s < length sites) → CanRun sites (clock_of_grid g)
clock_can sites g fine some below = by g.site refl
  where
    by : (site : Option ℕ) → g.site ≡ site → CanRun sites (clock_by site g)
    by None e = (some, fine.period, fine.start)
    by (Some s) e = (below s e, some, fine.period.0, fine.start.0)

clock_dens : (g : Grid) (cs : List Clock) → clock_denominators (clock_of_grid g ∷ cs) ≡ own_denominators g.site g ++ clock_denominators cs
clock_dens g cs = by g.site
  where
    by : (site : Option ℕ) → clock_denominators (clock_by site g ∷ cs) ≡ own_denominators site g ++ clock_denominators cs
    by None = refl
    by (Some s) = refl

pub all_dens : (gs : List Grid) → clock_denominators (map clock_of_grid gs) ≡ denominators gs
all_dens [] = refl
all_dens (g ∷ gs) = clock_dens g (map clock_of_grid gs) ∙ ap (λ l. own_denominators g.site g ++ l) (all_dens gs)

-- the grids of a solution are fine
pub grids_fine : (terms : Terms) (classes : Classes) (grids : List Grid) → IsSolution terms classes grids → All (IsFine (2 ^ 40)) grids
grids_fine terms classes grids s k d lt =
    let size = s.1.are_grids.same_length in
    let (c, t, is) = place_has classes.clocked k (omega (arith, size, lt)) in
    let (p, g, at, place, stands) = s.1.are_grids.each c t in
    subst (λ x. IsFine (2 ^ 40) x) (sym (get_or_from_slice_get grids k g d (ap (λ n. slice_get grids n) (sym is) ∙ place))) stands.0

module _ (model : FlatModel) (terms : Terms) (classes : Classes) (grids : List Grid) (numbers : List (Option ℕ)) (clocking : Clocking)
    (are_terms : AreTermsOf model terms) (are_classes : AreClassesOf model classes) (fit : FitTogether terms classes) (solution : IsSolution terms classes grids)
    (known : All (λ r. IsGiven r.by ⊎ IsInferred r.by) terms.relations)
    (are_numbers : AreNumbers classes.clocked numbers) (made : IsMade model terms classes grids numbers clocking) (sound : AreFactorsWhole terms classes grids) where
  abbrev said : Said
  said = said_of terms classes

  abbrev held : Held
  held = solution.0

  abbrev solved : AreSolved terms classes held grids
  solved = solution.1

  grid_is : (c : ℕ) → is_clocked classes c ≡ true → grid_of classes grids c ≡ slice_get grids (place_of classes c)
  grid_is c t = ap (λ b. if b then slice_get grids (place_of classes c) else None) t

  -- the grid of a clocked class, with the clock that it stands for
  pub record IsOne (c : ℕ) (p : Progression) (g : Grid) : Type 0 where
    pub held_is : held c ≡ Some p
    pub place : slice_get grids (place_of classes c) ≡ Some g
    pub stands : StandsFor g p
    pub flawless : IsSound g
    pub rising : 0 < g.period.num

  rises : (g : Grid) (p : Progression) → IsRising p → AreSame (progression_of_grid g) p → 0 < g.period.num
  rises g p rising same = above g.period.num same.period
    where
      above : (n : ℕ) → n * p.period.den + p.period.less * g.period.den ≡ p.period.more * g.period.den + 0 * p.period.den → 0 < n
      above zero e = let r = rising.less in let m = mul-pos rising.more g.period.positive in absurd (omega (arith, e, ap (λ x. x * g.period.den) r, m))
      above (suc n) e = omega arith

  pub one : (c : ℕ) → is_clocked classes c ≡ true → (p : Progression) × (g : Grid) × IsOne c p g
  one c t =
      let (p, g, at, place, stands) = solved.are_grids.each c t in
      let here : grid_of classes grids c ≡ Some g = grid_is c t ∙ place in (
        p,
        g,
        record {
          held_is = at;
          place = place;
          stands = stands;
          flawless = sound_of g (λ h. sound.0.0.1 c (g, here, h)) (λ h. sound.0.1 c (g, here, h)) (λ h. sound.1 c (g, here, h));
          rising = rises g p (gotten_rising terms classes fit held solved.gotten c p at) stands.1;
        },
      )

  -- the clock of a class in the clocking
  clock_place : (c : ℕ) (g : Grid) → slice_get grids (place_of classes c) ≡ Some g → slice_get clocking.clocks (place_of classes c) ≡ Some (clock_of_grid g)
  clock_place c g e = ap (λ l. slice_get l (place_of classes c)) made.clocks ∙ slice_get-map clock_of_grid grids (place_of classes c) ∙ ap (λ o. option_map clock_of_grid o) e

  abbrev own : Held
  own = held_in classes clocking.clocks

  own_true : (c : ℕ) (g : Grid) → is_clocked classes c ≡ true → slice_get grids (place_of classes c) ≡ Some g → own c ≡ Some (progression_of (clock_of_grid g))
  own_true c g t e =
      ap (λ b. if b then option_map progression_of (slice_get clocking.clocks (place_of classes c)) else None) t ∙ ap (λ o. option_map progression_of o) (clock_place c g e)

  own_false : (c : ℕ) → is_clocked classes c ≡ false → own c ≡ None
  own_false c f = ap (λ b. if b then option_map progression_of (slice_get clocking.clocks (place_of classes c)) else None) f

  clocked_or : (c : ℕ) → (is_clocked classes c ≡ true) ⊎ (is_clocked classes c ≡ false)
  clocked_or c = by (is_clocked classes c)
    where
      by : (b : Bool) → (b ≡ true) ⊎ (b ≡ false)
      by true = inl refl
      by false = inr refl

  -- a clock of the rounds, and the same in the clocking
  fits : (c : ℕ) (p : Progression) → held c ≡ Some p → (q : Progression) × (own c ≡ Some q) × IsProper q × AreSame q p
  fits c p e = ⊎_elim
      (λ t.
      let (r, g, is) = one c t in
      let equal : r ≡ p = some_same (sym is.held_is ∙ e) in
      let q = progression_of (clock_of_grid g) in
      let runs = clock_runs g is.rising in (
        q,
        own_true c g t is.place,
        runs.proper,
        subst (λ x. AreSame q x) equal (same_trans q (progression_of_grid g) r (grid_proper g) (clock_same g is.flawless) is.stands.1),
      ))
      (λ f. absurd (none_some (sym (solved.gotten.unclocked c f) ∙ e)))
      (clocked_or c)

  proper : (c : ℕ) (p : Progression) → held c ≡ Some p → IsProper p
  proper = gotten_proper terms classes fit held solved.gotten

  sources_are : All (λ s. IsProper s.clock) said.sources
  sources_are = sources_proper 0 terms.constructors fit.clocks

  source_held : (s : Source) → Contains said.sources s → SourceHolds said held s
  source_held s within = stable_source said held s proper (All-contains (λ s. IsProper s.clock) said.sources s sources_are within)
      (λ n. solution.3 s.equation (inl (s, within, refl, n)))

  source_own : (s : Source) → Contains said.sources s → SourceHolds said own s
  source_own s within =
      let (p, at, together) = source_held s within in
      let (q, own_is, proper_q, same) = fits (said.class_of s.node) p at in
      let good = All-contains (λ s. IsProper s.clock) said.sources s sources_are within in
      let proper_p = proper (said.class_of s.node) p at in
      let both = same_trans q p s.clock proper_p same (ticks_same p s.clock proper_p good together) in
      (q, own_is, record { site = both.site; ticks = same_ticks q s.clock both })

  given_own : (r : Relation) → Contains terms.relations r → IsGiven r.by → RelationHolds said own r
  given_own r within given =
      let (y, u, at_y, at_u, asks) = stable_given said held r proper given (λ n. solution.3 r.equation (inr (r, within, refl, (given, n)))) in
      let (p, own_y, proper_p, same_p) = fits (said.class_of r.result) y at_y in
      let (v, own_u, proper_v, same_v) = fits (said.class_of r.argument) u at_u in
      (p, v, own_y, own_u, asks_same r.by y u p v given (proper (said.class_of r.result) y at_y) (proper (said.class_of r.argument) u at_u) proper_p proper_v (same_sym p y same_p) (same_sym v u same_v) asks)

  -- the grid of a class and its clock in the clocking
  grid_fits : (c : ℕ) (x : Progression) → held_by classes grids c ≡ Some x → (q : Progression) × (own c ≡ Some q) × IsProper q × IsProper x × AreSame q x
  grid_fits c x e = ⊎_elim
      (λ t.
      let (r, g, is) = one c t in
      let same : progression_of_grid g ≡ x = some_same (sym (ap (λ o. option_map progression_of_grid o) (grid_is c t ∙ is.place)) ∙ e) in
      let q = progression_of (clock_of_grid g) in
      (q, own_true c g t is.place, (clock_runs g is.rising).proper, subst IsProper same (grid_proper g), subst (λ z. AreSame q z) same (clock_same g is.flawless)))
      (λ f. absurd (none_some (sym (ap (λ b. option_map progression_of_grid (if b then slice_get grids (place_of classes c) else None)) f) ∙ e)))
      (clocked_or c)

  grid_rises : (c : ℕ) (g : Grid) → grid_of classes grids c ≡ Some g → 0 < g.period.num
  grid_rises c g e = ⊎_elim
      (λ t. let (r, k, is) = one c t in subst (λ x. 0 < x.period.num) (some_same (sym is.place ∙ sym (grid_is c t) ∙ e)) is.rising)
      (λ f. absurd (none_some (sym (ap (λ b. if b then slice_get grids (place_of classes c) else None) f) ∙ e)))
      (clocked_or c)

  inferred_own : (r : Relation) → Contains terms.relations r → IsInferred r.by → RelationHolds said own r
  inferred_own r within inferred =
      let (y, u, at_y, at_u, asks) = stable_inferred said (grid_of classes grids) r grid_rises inferred (λ n. sound.0.0.0 r.equation (r, within, refl, (inferred, n))) in
      let (p, own_y, proper_p, proper_y, same_p) = grid_fits (said.class_of r.result) y at_y in
      let (v, own_u, proper_v, proper_u, same_v) = grid_fits (said.class_of r.argument) u at_u in
      (p, v, own_y, own_u, inferred_same r.by y u p v inferred proper_y proper_u proper_p proper_v (same_sym p y same_p) (same_sym v u same_v) asks)

  pub is_clocking : IsClocking said own
  is_clocking = record {
    clocked = λ c t. let (p, g, is) = one c t in (progression_of (clock_of_grid g), own_true c g t is.place, clock_runs g is.rising);
    unclocked = λ c f. own_false c f;
    sources = λ k d lt. source_own (get_or said.sources k d) (Contains-get_or said.sources k d lt);
    relations = λ k d lt. let r = get_or terms.relations k d in let within = Contains-get_or terms.relations k d lt in
        ⊎_elim (λ given. given_own r within given) (λ inferred. inferred_own r within inferred) (known k d lt);
  }

  -- ---- limits
  site_below : (c : ℕ) (g : Grid) (p : Progression) → IsOne c p g → (s : ℕ) → g.site ≡ Some s → s < length clocking.sites
  site_below c g p is s e =
      gotten_keeps (λ u. (s : ℕ) → u.site ≡ Some s → s < length clocking.sites) (λ by u given h s at. h s (sym (site_kept by u) ∙ at)) terms classes held solved.gotten
      (sites_below terms.constructors 0 (length clocking.sites) clocking.sites made.sites (omega arith)) c p is.held_is s (sym is.stands.1.site ∙ e)

  -- each clock of the clocking is that of a class
  class_at : (k : ℕ) → k < length grids → (c : ℕ) × (is_clocked classes c ≡ true) × (place_of classes c ≡ k)
  class_at k lt = let size = solved.are_grids.same_length in place_has classes.clocked k (omega (arith, size, lt))

  clocks_length : length clocking.clocks ≡ length grids
  clocks_length = ap length made.clocks ∙ length-map grids clock_of_grid

  clock_at : (k : ℕ) (d : Clock) → k < length clocking.clocks → CanRun clocking.sites (get_or clocking.clocks k d)
  clock_at k d lt =
      let (c, t, is_k) = class_at k (subst (λ n. k < n) clocks_length lt) in
      let (p, g, is) = one c t in
      let at : get_or clocking.clocks k d ≡ clock_of_grid g = get_or_from_slice_get clocking.clocks k (clock_of_grid g) d (ap (λ n. slice_get clocking.clocks n) (sym is_k) ∙ clock_place c g is.place) in
      subst (λ x. CanRun clocking.sites x) (sym at) (clock_can clocking.sites g is.stands.0 is.rising (site_below c g p is))

  pub limits : AreClocks clocking
  limits = record {
    each = λ k d lt. clock_at k d lt;
    grid = subst (λ l. HasMultipleBelow (2 ^ 40) l) (sym (ap clock_denominators made.clocks ∙ all_dens grids)) solution.2;
  }

  -- ---- names, equations, base partitions
  number_is : (c : ℕ) → slice_index_or numbers c None ≡ number_in classes c
  number_is c = are_numbers.each c

  name_at : (x : ℕ) (name : FlatName) → IsNamed model x name → slice_get clocking.of_name x ≡ Some (class_of_name classes x name)
  name_at x name e =
      made.names.each x name (slice_get_within model.names x name e) e ∙ ap (λ o. Some (number_of_name name o)) (number_is (class_in classes x))

  abbrev number_of_node : ℕ → Option ℕ
  number_of_node a = slice_index_or numbers (slice_index_or classes.class_of a 0) None

  equations_are : clocking.of_equation ≡ own_numbers number_of_node (length model.names) (nodes_of model)
  equations_are = made.equations ∙ ap (λ l. node_numbers classes.class_of numbers (length model.names) l) are_terms.nodes ∙ numbers_entries classes.class_of numbers (length model.names) (nodes_of model)

  equation_at : (j : ℕ) (node : Node) → IsNode model j node → node.cause ≡ None → slice_get clocking.of_equation node.equation ≡ Some (number_in classes (class_in classes (numbered model j)))
  equation_at j node e none =
      let (k, is, at) = own_get number_of_node (length model.names) model.clauses [] model.equations j node e none in
      let same : node.equation ≡ k = is ∙ (let f : 0 + k ≡ k = omega arith in f) in
      ap (λ n. slice_get clocking.of_equation n) same ∙ ap (λ l. slice_get l k) equations_are ∙ at ∙ ap Some (number_is (class_in classes (numbered model j)))

  pub is_clocking_of : IsClockingOf model terms classes clocking
  is_clocking_of = record {
    name_count = made.names.count;
    names = name_at;
    equation_count = ap length equations_are ∙ own_length number_of_node (length model.names) model.clauses [] model.equations;
    equations = equation_at;
    partition_count = made.partition_count;
    partitions = λ c t. made.partitions c t;
    clock_count = clocks_length ∙ solved.are_grids.same_length;
    sites = made.sites;
    clocks = is_clocking;
    limits = limits;
  }
