-- The clocks that were solved have one answer.
use Rattle.std.proofs.Common.{◌≡◌, ◌∙◌, refl, sym, ap, ap₂, subst, ℕ, suc, ◌<◌, true, false, if◌then◌else◌, List, [], ◌∷◌, Option, Some, None, option_map, Result, Ok, Err, length, get_or, slice_get, arith}
use Rattle.std.proofs.lemmas.Option.{slice_get-get_or}
use Rattle.sync_values.specs.declared.value.Value.TheVariants as value
use Rattle.flat_model.specs.declared.clock.Clock.{Clock}
use Rattle.flat_model.specs.declared.clock.Clock.TheVariants.{Periodic, Event}
use Rattle.flat_model.specs.declared.clock.Clocking.{Clocking}
use Rattle.flat_model.specs.declared.clock.ClockExpr.{ClockExpr}
use Rattle.flat_model.specs.declared.clock.ClockExpr.TheVariants as clock
use Rattle.flat_model.specs.declared.clock.ClockExpr.TheOpen.{ClockExpr-F}
use Rattle.flat_model.specs.declared.clock.ClockExpr.TheViews.{out-ClockExpr, out-roll-ClockExpr}
use Rattle.flat_model.specs.declared.expression.Expr.{Expr}
use Rattle.flat_model.specs.declared.model.NameKind.TheVariants as kind
use Rattle.flat_model.specs.declared.model.FlatModel.{FlatModel}
use Rattle.flat_model.specs.declared.model.FlatName.{FlatName}
use Rattle.flat_model.proofs.InstantsLeft.{same_ratio}
use Rattle.clock_terms.specs.declared.data.Terms.{Terms}
use Rattle.clock_terms.specs.declared.data.Classes.{Classes}
use Rattle.clock_terms.specs.declared.data.Constructor.{Constructor}
use Rattle.clock_terms.specs.declared.data.Grid.{Grid}
use Rattle.clock_terms.specs.Position.{Progression, AreSame, progression_of}
use Rattle.clock_terms.specs.Classing.{class_in, is_clocked, partition_in}
use Rattle.clock_terms.specs.Said.{numbered}
use Rattle.clock_terms.specs.Source.{Kind, Inferred, Every, AtSite, Other, kind_of}
use Rattle.clock_terms.proofs.Progressions.{same_sym, same_trans}
use Rattle.clock_spread.proofs.Only.{clocking_gives}
use Rattle.sub_clock_solve.specs.Solving.{said_of, place_of, IsSolution}
use Rattle.sub_clock_solve.specs.Standing.{FitTogether}
use Rattle.sub_clock_solve.proofs.Giving.{sources_proper}
use Rattle.sub_clock_solve.proofs.Once.{least_once, place_has, gotten_proper}
use Rattle.clock_check.specs.declared.kinds.CheckEnd.{CheckEnd}
use Rattle.clock_check.specs.declared.kinds.CheckEnd.TheVariants.{Factor, EarlyStart, NotOnEvent, EventFactor, HoldInCondition, NoMemory}
use Rattle.clock_check.specs.Broken.{StartsEarly, HasNoWholeShift, HasNoWholeFactor}
use Rattle.clock_check.specs.Checking.{HasNoFactor, IsGridWith, HoldsInCondition, Checks}
use Rattle.clock_check.specs.ClockingOf.{number_in, class_of_name, held_in, sites_before, AreSites, IsClockingOf}
use Rattle.clock_ready.specs.Laws.{IsNoMemory}
use Rattle.clock_ready.proofs.Equations.{node_of_equation}

none_some : {A : Type 0} {a : A} → None ≡ Some a → ⊥
none_some e = absurd cc

some_same : {A : Type 0} {a b : A} → Some a ≡ Some b → a ≡ b
some_same e = cc

-- lists of one length with the same entries are one
same_list : {X : Type 0} (xs ys : List X) → length xs ≡ length ys → ((k : ℕ) → k < length xs → (x : X) × (slice_get xs k ≡ Some x) × (slice_get ys k ≡ Some x)) → xs ≡ ys
same_list [] [] e h = refl
same_list [] (y ∷ ys) e h = absurd (omega (arith, e))
same_list (x ∷ xs) [] e h = absurd (omega (arith, e))
same_list (x ∷ xs) (y ∷ ys) e h =
    let (g, first, second) = h 0 (omega arith) in
    ap₂ (λ z zs. z ∷ zs) (some_same (first ∙ sym second)) (same_list xs ys (omega (arith, e)) (λ k lt. h (suc k) (omega (arith, lt))))

-- clocks of one progression are one
same_clock : (a b : Clock) → AreSame (progression_of a) (progression_of b) → a ≡ b
same_clock (Periodic p s) (Periodic q t) h =
    let period = h.period in
    let start = h.start in
    ap₂ (λ x y. Periodic x y) (same_ratio p q (omega (arith, period))) (same_ratio s t (omega (arith, start)))
same_clock (Periodic p s) (Event j g t) h = absurd (none_some h.site)
same_clock (Event i f s) (Periodic q t) h = absurd (none_some (sym h.site))
same_clock (Event i f s) (Event j g t) h =
    let period = h.period in
    let start = h.start in
    let factor : f ≡ g = omega (arith, period) in
    let shift : s ≡ t = omega (arith, start) in
    ap₂ (λ x y. Event i x y) factor shift ∙ ap (λ x. Event x g t) (some_same h.site)

held_clock : (classes : Classes) (clocks : List Clock) (c : ℕ) (q : Progression) → is_clocked classes c ≡ true → held_in classes clocks c ≡ Some q
    → (k : Clock) × (slice_get clocks (place_of classes c) ≡ Some k) × (progression_of k ≡ q)
held_clock classes clocks c q t e =
    by (slice_get clocks (place_of classes c)) refl (subst (λ b. (if b then option_map progression_of (slice_get clocks (place_of classes c)) else None) ≡ Some q) t e)
  where
    by : (o : Option Clock) → slice_get clocks (place_of classes c) ≡ o → option_map progression_of o ≡ Some q → (k : Clock) × (slice_get clocks (place_of classes c) ≡ Some k) × (progression_of k ≡ q)
    by None at e = absurd (none_some e)
    by (Some k) at e = (k, at, some_same e)

same_condition : (a b : Expr) → clock.Event a ≡ clock.Event b → a ≡ b
same_condition a b e = level a b (sym (out-roll-ClockExpr (ClockExpr-F.Event a)) ∙ ap out-ClockExpr (clock.rolls-Event a ∙ e ∙ sym (clock.rolls-Event b)) ∙ out-roll-ClockExpr (ClockExpr-F.Event b))
  where
    level : (a b : Expr) → ◌≡◌ {A = ClockExpr-F ClockExpr Expr} (ClockExpr-F.Event a) (ClockExpr-F.Event b) → a ≡ b
    level a b e = cc

sites_by : (kind : Kind) (given : ClockExpr) (Rest : List Expr → Type 0) (xs ys : List Expr) → ((us vs : List Expr) → Rest us → Rest vs → us ≡ vs)
    → sites_before kind given Rest xs → sites_before kind given Rest ys → xs ≡ ys
sites_by AtSite given Rest xs ys once (a, us, is_a, at_a, rest_a) (b, vs, is_b, at_b, rest_b) =
    at_a ∙ ap₂ (λ z zs. z ∷ zs) (same_condition a b (sym is_a ∙ is_b)) (once us vs rest_a rest_b) ∙ sym at_b
sites_by Inferred given Rest xs ys once h k = once xs ys h k
sites_by (Every n r) given Rest xs ys once h k = once xs ys h k
sites_by Other given Rest xs ys once h k = once xs ys h k

sites_once : (ks : List Constructor) (xs ys : List Expr) → AreSites ks xs → AreSites ks ys → xs ≡ ys
sites_once [] xs ys h k = h ∙ sym k
sites_once (c ∷ ks) xs ys h k = sites_by (kind_of c.clock) c.clock (AreSites ks) xs ys (λ us vs. sites_once ks us vs) h k

whole : (a b : Clocking) → a.of_name ≡ b.of_name → a.of_equation ≡ b.of_equation → a.clocks ≡ b.clocks → a.partitions ≡ b.partitions → a.sites ≡ b.sites → a ≡ b
whole a b names equations clocks partitions sites =
    ap (λ x. whole_of x a.of_equation a.clocks a.partitions a.sites) names ∙ ap (λ x. whole_of b.of_name x a.clocks a.partitions a.sites) equations
    ∙ ap (λ x. whole_of b.of_name b.of_equation x a.partitions a.sites) clocks ∙ ap (λ x. whole_of b.of_name b.of_equation b.clocks x a.sites) partitions
    ∙ ap (λ x. whole_of b.of_name b.of_equation b.clocks b.partitions x) sites
  where
    whole_of : List (Option ℕ) → List (Option ℕ) → List Clock → List ℕ → List Expr → Clocking
    whole_of n e c p s = record { of_name = n; of_equation = e; clocks = c; partitions = p; sites = s }

module _ (model : FlatModel) (terms : Terms) (classes : Classes) (grids : List Grid) (fit : FitTogether terms classes) (solution : IsSolution terms classes grids) where
  module _ (a b : Clocking) (h : IsClockingOf model terms classes a) (k : IsClockingOf model terms classes b) where
    names_once : a.of_name ≡ b.of_name
    names_once = same_list a.of_name b.of_name (h.name_count ∙ sym k.name_count) (λ x lt.
        let e : FlatName = record { text = []; kind = kind.Integer; input = false; start = value.Bool false } in
        let size = h.name_count in
        let name = get_or model.names x e in
        let at = slice_get-get_or model.names x e (omega (arith, size, lt)) in
        (class_of_name classes x name, h.names x name at, k.names x name at))

    equations_once : a.of_equation ≡ b.of_equation
    equations_once = same_list a.of_equation b.of_equation (h.equation_count ∙ sym k.equation_count) (λ x lt.
        let size = h.equation_count in
        let (j, node, at, same, none) = node_of_equation model x (omega (arith, size, lt)) in (
          number_in classes (class_in classes (numbered model j)),
          ap (λ n. slice_get a.of_equation n) (sym same) ∙ h.equations j node at none,
          ap (λ n. slice_get b.of_equation n) (sym same) ∙ k.equations j node at none,
        ))

    partitions_once : a.partitions ≡ b.partitions
    partitions_once = same_list a.partitions b.partitions (h.partition_count ∙ sym k.partition_count) (λ x lt.
        let size = h.partition_count in
        let (c, t, is) = place_has classes.clocked x (omega (arith, size, lt)) in (
          partition_in classes c,
          ap (λ n. slice_get a.partitions n) (sym is) ∙ h.partitions c t,
          ap (λ n. slice_get b.partitions n) (sym is) ∙ k.partitions c t,
        ))

    clocks_once : a.clocks ≡ b.clocks
    clocks_once = same_list a.clocks b.clocks (h.clock_count ∙ sym k.clock_count) (λ x lt.
        let size = h.clock_count in
        let (c, t, is) = place_has classes.clocked x (omega (arith, size, lt)) in
        let said = said_of terms classes in
        let proper = sources_proper 0 terms.constructors fit.clocks in
        let (held, solved, below, none) = solution in
        let (p, at, gets) = solved.gotten.clocked c t in
        let (q, held_q, same_q) = clocking_gives said (held_in classes a.clocks) proper h.clocks c p gets in
        let (r, held_r, same_r) = clocking_gives said (held_in classes b.clocks) proper k.clocks c p gets in
        let (m, at_m, is_m) = held_clock classes a.clocks c q t held_q in
        let (n, at_n, is_n) = held_clock classes b.clocks c r t held_r in
        let one : AreSame q r = same_trans q p r (gotten_proper terms classes fit held solved.gotten c p at) same_q (same_sym r p same_r) in
        let equal : m ≡ n = same_clock m n (subst (λ z. AreSame z (progression_of n)) (sym is_m) (subst (λ z. AreSame q z) (sym is_n) one)) in
        (m, ap (λ z. slice_get a.clocks z) (sym is) ∙ at_m, ap (λ z. slice_get b.clocks z) (sym is) ∙ at_n ∙ ap Some (sym equal)))

    clockings_once : a ≡ b
    clockings_once = whole a b names_once equations_once clocks_once partitions_once (sites_once terms.constructors a.sites b.sites h.sites k.sites)

  abbrev Answers : Result Clocking CheckEnd → Type 0
  Answers one = Checks model terms classes grids one

  pub check_once : (one other : Result Clocking CheckEnd) → Answers one → Answers other → (IsNoMemory one → ⊥) → (IsNoMemory other → ⊥) → one ≡ other
  check_once (Ok x) (Ok y) a b n m = ap Ok (clockings_once x y a.1 b.1)
  check_once (Ok x) (Err (Factor y)) a b n m = absurd (a.0.0.0.0.0 y b.0)
  check_once (Ok x) (Err (EarlyStart y)) a b n m = absurd (a.0.0.0.0.1 y b.1.0)
  check_once (Ok x) (Err (NotOnEvent y)) a b n m = absurd (a.0.0.0.1 y b.1.0)
  check_once (Ok x) (Err (EventFactor y)) a b n m = absurd (a.0.0.1 y b.1.0)
  check_once (Ok x) (Err (HoldInCondition y)) a b n m = absurd (a.0.1 y b.1.0)
  check_once (Err (Factor x)) (Ok y) a b n m = absurd (b.0.0.0.0.0 x a.0)
  check_once (Err (Factor x)) (Err (Factor y)) a b n m = ap (λ z. Err (Factor z)) (least_once (HasNoFactor terms classes grids) x y a b)
  check_once (Err (Factor x)) (Err (EarlyStart y)) a b n m = absurd (b.0 x a.0)
  check_once (Err (Factor x)) (Err (NotOnEvent y)) a b n m = absurd (b.0.0 x a.0)
  check_once (Err (Factor x)) (Err (EventFactor y)) a b n m = absurd (b.0.0.0 x a.0)
  check_once (Err (Factor x)) (Err (HoldInCondition y)) a b n m = absurd (b.0.0.0.0 x a.0)
  check_once (Err (EarlyStart x)) (Ok y) a b n m = absurd (b.0.0.0.0.1 x a.1.0)
  check_once (Err (EarlyStart x)) (Err (Factor y)) a b n m = absurd (a.0 y b.0)
  check_once (Err (EarlyStart x)) (Err (EarlyStart y)) a b n m = ap (λ z. Err (EarlyStart z)) (least_once (IsGridWith StartsEarly classes grids) x y a.1 b.1)
  check_once (Err (EarlyStart x)) (Err (NotOnEvent y)) a b n m = absurd (b.0.1 x a.1.0)
  check_once (Err (EarlyStart x)) (Err (EventFactor y)) a b n m = absurd (b.0.0.1 x a.1.0)
  check_once (Err (EarlyStart x)) (Err (HoldInCondition y)) a b n m = absurd (b.0.0.0.1 x a.1.0)
  check_once (Err (NotOnEvent x)) (Ok y) a b n m = absurd (b.0.0.0.1 x a.1.0)
  check_once (Err (NotOnEvent x)) (Err (Factor y)) a b n m = absurd (a.0.0 y b.0)
  check_once (Err (NotOnEvent x)) (Err (EarlyStart y)) a b n m = absurd (a.0.1 y b.1.0)
  check_once (Err (NotOnEvent x)) (Err (NotOnEvent y)) a b n m = ap (λ z. Err (NotOnEvent z)) (least_once (IsGridWith HasNoWholeShift classes grids) x y a.1 b.1)
  check_once (Err (NotOnEvent x)) (Err (EventFactor y)) a b n m = absurd (b.0.1 x a.1.0)
  check_once (Err (NotOnEvent x)) (Err (HoldInCondition y)) a b n m = absurd (b.0.0.1 x a.1.0)
  check_once (Err (EventFactor x)) (Ok y) a b n m = absurd (b.0.0.1 x a.1.0)
  check_once (Err (EventFactor x)) (Err (Factor y)) a b n m = absurd (a.0.0.0 y b.0)
  check_once (Err (EventFactor x)) (Err (EarlyStart y)) a b n m = absurd (a.0.0.1 y b.1.0)
  check_once (Err (EventFactor x)) (Err (NotOnEvent y)) a b n m = absurd (a.0.1 y b.1.0)
  check_once (Err (EventFactor x)) (Err (EventFactor y)) a b n m = ap (λ z. Err (EventFactor z)) (least_once (IsGridWith HasNoWholeFactor classes grids) x y a.1 b.1)
  check_once (Err (EventFactor x)) (Err (HoldInCondition y)) a b n m = absurd (b.0.1 x a.1.0)
  check_once (Err (HoldInCondition x)) (Ok y) a b n m = absurd (b.0.1 x a.1.0)
  check_once (Err (HoldInCondition x)) (Err (Factor y)) a b n m = absurd (a.0.0.0.0 y b.0)
  check_once (Err (HoldInCondition x)) (Err (EarlyStart y)) a b n m = absurd (a.0.0.0.1 y b.1.0)
  check_once (Err (HoldInCondition x)) (Err (NotOnEvent y)) a b n m = absurd (a.0.0.1 y b.1.0)
  check_once (Err (HoldInCondition x)) (Err (EventFactor y)) a b n m = absurd (a.0.1 y b.1.0)
  check_once (Err (HoldInCondition x)) (Err (HoldInCondition y)) a b n m = ap (λ z. Err (HoldInCondition z)) (least_once (HoldsInCondition model classes) x y a.1 b.1)
  check_once (Err NoMemory) other a b n m = absurd (n tt)
  check_once (Ok x) (Err NoMemory) a b n m = absurd (m tt)
  check_once (Err (Factor x)) (Err NoMemory) a b n m = absurd (m tt)
  check_once (Err (EarlyStart x)) (Err NoMemory) a b n m = absurd (m tt)
  check_once (Err (NotOnEvent x)) (Err NoMemory) a b n m = absurd (m tt)
  check_once (Err (EventFactor x)) (Err NoMemory) a b n m = absurd (m tt)
  check_once (Err (HoldInCondition x)) (Err NoMemory) a b n m = absurd (m tt)
