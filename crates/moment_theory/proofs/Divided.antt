-- The order of a moment, divided into pure uses, base partitions and the rest, is a free order.
use Rattle.std.proofs.Common.{◌≡◌, ◌≢◌, refl, ap, ◌∙◌, sym, subst, ℕ, zero, suc, ◌+◌, ◌<◌, ◌≤◌, ◌==◌, not, Bool, true, false, List, [], ◌∷◌, ◌++◌, length, Option, Some, None, is_none, slice_get, if◌then◌else◌, ◌⊎◌, inl, inr, arith}
use Rattle.std.proofs.lemmas.Bool.{false≢true, and_parts, and_from, eqb-true, eq-eqb}
use Rattle.std.proofs.lemmas.Option.{none-some, same_Some}
use Rattle.flat_model.specs.declared.clock.Clock.TheVariants.{Event}
use Rattle.flat_model.specs.declared.equation.Equation.{Equation}
use Rattle.flat_model.specs.declared.equation.Equation.TheVariants.{Valued}
use Rattle.flat_model.specs.declared.expression.Expr.{Expr}
use Rattle.flat_model.specs.Runnable.{IsClassBelow, IsSideClocked, IsRunnable}
use Rattle.flat_model.specs.Setting.{Setting, flattened, class_of_name, class_of_equation, partition_of}
use Rattle.flat_model.specs.Uses.{Use, ReadsIn, EquationReads, AreUses, SiteReads}
use Rattle.moment_theory.specs.Division.{uses_where, IsReachedWhere, ArePure, is_number, is_of_partition, is_waiting, parts_from, joined, moment_order, ArePartitionsBelow}
use Rattle.moment_theory.specs.Free.{AsksClass, IsReachedBy, AreFree, AreSameUses}
use Rattle.moment_theory.specs.Pieces.{AreApart}
use Rattle.moment_theory.proofs.Facts.{Facts, UseFacts, facts_of_use, class_of_use}
use Rattle.moment_theory.proofs.FromRunnable.{facts_of, all_at, element}
use Rattle.moment_theory.proofs.FromUses.{AreReadFree, read_free, kept_free, append_free}
use Rattle.moment_theory.proofs.Members.{IsMember, contains_member, member_contains, reached_member, member_reached}
use Rattle.moment_theory.proofs.Placed.{bare_uncut}

-- ---- lists

member_where : (test : Use → Bool) (uses : List Use) (entry : Use) → IsMember entry (uses_where test uses) → IsMember entry uses × (test entry ≡ true)
member_where test [] entry member = absurd member
member_where test (first ∷ uses) entry member = by_test (test first) refl (λ rest. member_where test uses entry rest) member
  where
    by_test : (b : Bool) → test first ≡ b → (IsMember entry (uses_where test uses) → IsMember entry uses × (test entry ≡ true)) → IsMember entry (if b then (first ∷ uses_where test uses) else uses_where test uses)
        → IsMember entry (first ∷ uses) × (test entry ≡ true)
    by_test true e go (inl is) = (inl is, subst (λ z. test z ≡ true) is e)
    by_test true e go (inr rest) = let h = go rest in (inr h.0, h.1)
    by_test false e go rest = let h = go rest in (inr h.0, h.1)

where_member : (test : Use → Bool) (uses : List Use) (entry : Use) → IsMember entry uses → test entry ≡ true → IsMember entry (uses_where test uses)
where_member test [] entry member passes = absurd member
where_member test (first ∷ uses) entry (inl is) passes = let e : test first ≡ true = subst (λ z. test z ≡ true) (sym is) passes in rw e (inl is)
where_member test (first ∷ uses) entry (inr member) passes = by_test (test first) (where_member test uses entry member passes)
  where
    by_test : (b : Bool) → IsMember entry (uses_where test uses) → IsMember entry (if b then (first ∷ uses_where test uses) else uses_where test uses)
    by_test true rest = inr rest
    by_test false rest = rest

member_append : (xs ys : List Use) (entry : Use) → IsMember entry (xs ++ ys) → IsMember entry xs ⊎ IsMember entry ys
member_append [] ys entry member = inr member
member_append (x ∷ xs) ys entry (inl is) = inl (inl is)
member_append (x ∷ xs) ys entry (inr member) = elim (member_append xs ys entry member) [
  | inl h ↦ inl (inr h)
  | inr h ↦ inr h
]

append_left : (xs ys : List Use) (entry : Use) → IsMember entry xs → IsMember entry (xs ++ ys)
append_left [] ys entry member = absurd member
append_left (x ∷ xs) ys entry (inl is) = inl is
append_left (x ∷ xs) ys entry (inr member) = inr (append_left xs ys entry member)

append_right : (xs ys : List Use) (entry : Use) → IsMember entry ys → IsMember entry (xs ++ ys)
append_right [] ys entry member = member
append_right (x ∷ xs) ys entry member = inr (append_right xs ys entry member)

-- a name is reached once
one_reach : (s : Setting) (uses : List Use) → AreReadFree s uses → (a b : Use) → IsMember a uses → IsMember b uses → a.name ≡ b.name → a ≡ b
one_reach s [] free a b one two same = absurd one
one_reach s (first ∷ uses) free a b (inl is) (inl at) same = sym is ∙ at
one_reach s (first ∷ uses) free a b (inl is) (inr at) same =
    absurd (free.1 (subst (λ y. IsReachedBy y uses) (sym (ap (λ e. e.name) is ∙ same)) (reached_member uses b at)))
one_reach s (first ∷ uses) free a b (inr is) (inl at) same =
    absurd (free.1 (subst (λ y. IsReachedBy y uses) (same ∙ sym (ap (λ e. e.name) at)) (reached_member uses a is)))
one_reach s (first ∷ uses) free a b (inr is) (inr at) same = one_reach s uses free.2 a b is at same

-- what has a class has a base partition
partition_there : (s : Setting) → IsRunnable s → (i c : ℕ) → class_of_equation s i ≡ Some c → (k : ℕ) × (partition_of s (Some c) ≡ Some k)
partition_there s runs i c e = element s.clocking.partitions c (let long = runs.classes.partitions in let below = class_below in omega (arith, long, below)) 0
  where
    by_entry : (o : Option (Option ℕ)) → slice_get s.clocking.of_equation i ≡ o → flattened o ≡ Some c → slice_get s.clocking.of_equation i ≡ Some (Some c)
    by_entry None found h = absurd (none-some c h)
    by_entry (Some inner) found h = found ∙ ap Some h

    class_below : c < length s.clocking.clocks
    class_below = all_at (IsClassBelow (length s.clocking.clocks)) s.clocking.of_equation i (Some c) runs.classes.of_equation (by_entry (slice_get s.clocking.of_equation i) refl e)

module _ (s : Setting) (runs : IsRunnable s) (uses : List Use) (are : AreUses s uses) (pure : Use → Bool) (is_pure : ArePure s uses pure) where
  abbrev facts : Facts s
  facts = facts_of s runs

  free : AreReadFree s uses
  free = read_free s uses are

  -- the base partition of a use
  abbrev place : Use → Option ℕ
  place entry = partition_of s (class_of_equation s entry.equation)

  of_use : (entry : Use) → IsMember entry uses → UseFacts s entry
  of_use entry member = facts_of_use s uses are entry (member_contains entry uses member)

  class_is : (entry : Use) → IsMember entry uses → class_of_name s entry.name ≡ class_of_equation s entry.equation
  class_is entry member = class_of_use s facts entry (of_use entry member)

  -- a name that a pure use reaches is reached by no other
  not_pure : (y : ℕ) → IsReachedWhere pure uses y → (other : Use) → IsMember other uses → y ≡ other.name → pure other ≡ false → ⊥
  not_pure y (entry, used, passes, is) other member same impure =
      let one = one_reach s uses free entry other (contains_member entry uses used) member (is ∙ same) in
      false≢true (sym impure ∙ sym (ap pure one) ∙ passes)

  -- all of these are uses, and none is pure
  abbrev AreImpure : List Use → Type 0
  AreImpure xs = (entry : Use) → IsMember entry xs → IsMember entry uses × (pure entry ≡ false)

  reached_impure : (xs : List Use) → AreImpure xs → (y : ℕ) → IsReachedWhere pure uses y → IsReachedBy y xs → ⊥
  reached_impure xs impure y there reached =
      let (other, member, same) = member_reached xs y reached in
      let h = impure other member in not_pure y there other h.0 same h.1

  reached_use : (xs : List Use) → AreImpure xs → (y : ℕ) → IsReachedBy y xs → IsReachedBy y uses
  reached_use xs impure y reached = let (other, member, same) = member_reached xs y reached in subst (λ z. IsReachedBy z uses) (sym same) (reached_member uses other (impure other member).0)

  -- ---- sites

  abbrev SitesFree : List Use → Type 0
  SitesFree [] = Unit {0}
  SitesFree (entry ∷ later) = ((class : Option ℕ) (y : ℕ) → AsksClass s entry.equation class → SiteReads s class y → IsReachedBy y (entry ∷ later) → ⊥) × SitesFree later

  no_site : (y : ℕ) → SiteReads s None y → ⊥
  no_site y (site, factor, shift, condition, clock, found, some) = none-some (Event site factor shift) clock

  pure_sites : (xs ys : List Use) → ((entry : Use) → IsMember entry xs → IsMember entry uses × (pure entry ≡ true)) → SitesFree ys → SitesFree (xs ++ ys)
  pure_sites [] ys pures later = later
  pure_sites (entry ∷ xs) ys pures later = ((λ class y asks reads reached. no_class class y asks reads), pure_sites xs ys (λ e member. pures e (inr member)) later)
    where
      no_class : (class : Option ℕ) (y : ℕ) → AsksClass s entry.equation class → SiteReads s class y → ⊥
      no_class class y (inl own) reads =
          let h = pures entry (inl refl) in
          no_site y (subst (λ c. SiteReads s c y) (own ∙ is_pure.unclocked entry (member_contains entry uses h.0) h.1) reads)
      no_class class y (inr (equation, z, found, asks, of)) reads =
          let h = pures entry (inl refl) in is_pure.plain entry equation z (member_contains entry uses h.0) h.1 found asks

  impure_sites : (xs : List Use) → AreImpure xs → SitesFree xs
  impure_sites [] impure = tt
  impure_sites (entry ∷ xs) impure = (
    (λ class y asks reads reached. reached_impure (entry ∷ xs) impure y (is_pure.sites class y reads (reached_use (entry ∷ xs) impure y reached)) reached),
    impure_sites xs (λ e member. impure e (inr member)),
  )

  free_from : (xs : List Use) → ((entry : Use) → IsMember entry xs → IsMember entry uses) → AreReadFree s xs → SitesFree xs → AreFree s xs
  free_from [] within reads sites = tt
  free_from (entry ∷ later) within reads sites = (
    record {
      reads = λ y asks reached. reads.0 asks.0 y asks.1 asks.2 reached;
      sites = sites.0;
      once = reads.1;
    },
    free_from later (λ e member. within e (inr member)) reads.2 sites.1,
  )

  -- ---- base partitions

  read_place : (entry other : Use) (e : Expr) (y : ℕ) → IsMember entry uses → IsMember other uses → y ≡ other.name → IsSideClocked s entry.equation e → ReadsIn s entry.equation e y
      → (k : ℕ) → place entry ≡ Some k → place other ≡ Some k
  read_place entry other e y one two is side (inl bare) k at =
      let classes : class_of_equation s other.equation ≡ class_of_equation s entry.equation =
      sym (class_is other two) ∙ ap (class_of_name s) (sym is) ∙ side.own y (let more = bare_uncut y e in omega (arith, bare, more)) in
      ap (partition_of s) classes ∙ at
  read_place entry other e y one two is side (inr (inl held)) k at = absurd (none-some k (sym (ap (partition_of s) (side.held y held).1) ∙ at))
  read_place entry other e y one two is side (inr (inr (converted, meet))) k at =
      ap (partition_of s) (sym (class_is other two)) ∙ ap (λ n. partition_of s (class_of_name s n)) (sym is) ∙ (side.converted y converted).partition ∙ at

  -- what a use of a base partition reads is reached in it
  reads_place : (entry other : Use) (equation : Equation) (y : ℕ) → IsMember entry uses → IsMember other uses → y ≡ other.name → slice_get s.model.equations entry.equation ≡ Some equation
      → EquationReads s entry.equation equation y → (k : ℕ) → place entry ≡ Some k → place other ≡ Some k
  reads_place entry other equation y one two is found reads k at =
      let of = of_use entry one in
      let same : equation ≡ Valued of.left of.right of.clause = same_Some equation (Valued of.left of.right of.clause) (sym found ∙ of.found) in
      let sides : IsSideClocked s entry.equation of.left × IsSideClocked s entry.equation of.right = runs.equations entry.equation (Valued of.left of.right of.clause) of.found in
      let own : ReadsIn s entry.equation of.left y ⊎ ReadsIn s entry.equation of.right y = subst (λ q. EquationReads s entry.equation q y) same reads in elim own [
        | inl r ↦ read_place entry other of.left y one two is sides.0 r k at
        | inr r ↦ read_place entry other of.right y one two is sides.1 r k at
      ]

  names_place : (entry other : Use) → IsMember entry uses → IsMember other uses → entry.name ≡ other.name → place other ≡ place entry
  names_place entry other one two same = ap (partition_of s) (sym (class_is other two) ∙ ap (class_of_name s) (sym same) ∙ class_is entry one)

  is_place : (k : ℕ) (o : Option ℕ) → is_number k o ≡ true → o ≡ Some k
  is_place k None e = absurd (false≢true e)
  is_place k (Some p) e = ap Some (eqb-true p k e)

  place_is : (k : ℕ) (o : Option ℕ) → o ≡ Some k → is_number k o ≡ true
  place_is k None e = absurd (none-some k e)
  place_is k (Some p) e = eq-eqb p k (let h : p ≡ k = same_Some p k e in h)

  -- all of these are uses of some base partition from k on
  AreFrom : ℕ → List Use → Type 0
  AreFrom k xs = (entry : Use) → IsMember entry xs → IsMember entry uses × ((p : ℕ) × (place entry ≡ Some p) × (k ≤ p))

  part_from : (k : ℕ) (entry : Use) → IsMember entry (uses_where (is_of_partition s k) uses) → IsMember entry uses × (place entry ≡ Some k)
  part_from k entry member = let h = member_where (is_of_partition s k) uses entry member in (h.0, is_place k (place entry) h.1)

  parts_are : (k count : ℕ) → (entry : Use) → IsMember entry (joined (parts_from s uses k count)) → IsMember entry uses × ((p : ℕ) × (place entry ≡ Some p) × (k ≤ p))
  parts_are k zero entry member = absurd member
  parts_are k (suc count) entry member = elim (member_append (uses_where (is_of_partition s k) uses) (joined (parts_from s uses (suc k) count)) entry member) [
    | inl own ↦ let h = part_from k entry own in (h.0, (k, h.1, omega arith))
    | inr later ↦ let (use_is, (p, at, le)) = parts_are (suc k) count entry later in (use_is, (p, at, omega (arith, le)))
  ]

  other_place : (k p : ℕ) (o : Option ℕ) → o ≡ Some k → o ≡ Some p → suc k ≤ p → ⊥
  other_place k p o one two le = let same : k ≡ p = same_Some k p (sym one ∙ two) in omega (arith, same, le)

  parts_free : (k count : ℕ) → AreReadFree s (joined (parts_from s uses k count))
  parts_free k zero = tt
  parts_free k (suc count) = append_free s (uses_where (is_of_partition s k) uses) (joined (parts_from s uses (suc k) count)) (where_free (is_of_partition s k)) (parts_free (suc k) count)
      (λ entry equation y member found reads reached.
      let own = part_from k entry member in
      let (other, there, same) = member_reached (joined (parts_from s uses (suc k) count)) y reached in
      let (use_is, (p, at, le)) = parts_are (suc k) count other there in
      other_place k p (place other) (reads_place entry other equation y own.0 use_is same found reads k own.1) at le)
      (λ entry member reached.
      let own = part_from k entry member in
      let (other, there, same) = member_reached (joined (parts_from s uses (suc k) count)) entry.name reached in
      let (use_is, (p, at, le)) = parts_are (suc k) count other there in
      other_place k p (place other) (names_place entry other own.0 use_is same ∙ own.1) at le)
    where
      where_free : (test : Use → Bool) → AreReadFree s (uses_where test uses)
      where_free test = kept_free s test uses free

  -- ---- the three together

  abbrev pures : List Use
  pures = uses_where pure uses

  abbrev waiting : List Use
  waiting = uses_where (is_waiting s pure) uses

  is_pure_use : (entry : Use) → IsMember entry pures → IsMember entry uses × (pure entry ≡ true)
  is_pure_use entry member = member_where pure uses entry member

  -- an unclocked use that waits
  is_waiting_use : (entry : Use) → IsMember entry waiting → IsMember entry uses × (class_of_equation s entry.equation ≡ None) × (pure entry ≡ false)
  is_waiting_use entry member =
      let h = member_where (is_waiting s pure) uses entry member in
      let parts = and_parts (is_none (class_of_equation s entry.equation)) (not (pure entry)) h.1 in
      (h.0, none_of (class_of_equation s entry.equation) parts.0, not_of (pure entry) parts.1)
    where
      none_of : (o : Option ℕ) → is_none o ≡ true → o ≡ None
      none_of None e = refl
      none_of (Some c) e = absurd (false≢true e)

      not_of : (b : Bool) → not b ≡ true → b ≡ false
      not_of false e = refl
      not_of true e = absurd (false≢true e)

  -- a use of a base partition is not pure
  clocked_impure : (entry : Use) → IsMember entry uses → (k : ℕ) → place entry ≡ Some k → pure entry ≡ false
  clocked_impure entry member k at = by_test (pure entry) refl
    where
      by_test : (b : Bool) → pure entry ≡ b → b ≡ false
      by_test false e = refl
      by_test true e = absurd (none-some k (sym (ap (partition_of s) (is_pure.unclocked entry (member_contains entry uses member) e)) ∙ at))

  module _ (count : ℕ) where
    abbrev parts : List Use
    parts = joined (parts_from s uses 0 count)

    rest_impure : AreImpure (parts ++ waiting)
    rest_impure entry member = elim (member_append parts waiting entry member) [
      | inl own ↦ let (use_is, (p, at, le)) = parts_are 0 count entry own in (use_is, clocked_impure entry use_is p at)
      | inr own ↦ let h = is_waiting_use entry own in (h.0, h.2)
    ]

    not_waiting : (p : ℕ) (other : Use) → IsMember other waiting → place other ≡ Some p → ⊥
    not_waiting p other member at = let h = is_waiting_use other member in none-some p (sym (ap (partition_of s) h.1) ∙ at)

    rest_free : AreReadFree s (parts ++ waiting)
    rest_free = append_free s parts waiting (parts_free 0 count) (kept_free s (is_waiting s pure) uses free)
        (λ entry equation y member found reads reached.
        let (own, (p, at, le)) = parts_are 0 count entry member in
        let (other, there, same) = member_reached waiting y reached in
        not_waiting p other there (reads_place entry other equation y own (is_waiting_use other there).0 same found reads p at))
        (λ entry member reached.
        let (own, (p, at, le)) = parts_are 0 count entry member in
        let (other, there, same) = member_reached waiting entry.name reached in
        not_waiting p other there (names_place entry other own (is_waiting_use other there).0 same ∙ at))

    all_free : AreReadFree s (moment_order s pure count uses)
    all_free = append_free s pures (parts ++ waiting) (kept_free s pure uses free) rest_free
        (λ entry equation y member found reads reached.
        let h = is_pure_use entry member in
        reached_impure (parts ++ waiting) rest_impure y (is_pure.reads entry y (member_contains entry uses h.0) h.1 (equation, found, reads) (reached_use (parts ++ waiting) rest_impure y reached)) reached)
        (λ entry member reached.
        let h = is_pure_use entry member in
        reached_impure (parts ++ waiting) rest_impure entry.name (entry, member_contains entry uses h.0, h.1, refl) reached)

    within : (entry : Use) → IsMember entry (moment_order s pure count uses) → IsMember entry uses
    within entry member = elim (member_append pures (parts ++ waiting) entry member) [
      | inl own ↦ (is_pure_use entry own).0
      | inr own ↦ (rest_impure entry own).0
    ]

    pub order_free : AreFree s (moment_order s pure count uses)
    order_free = free_from (moment_order s pure count uses) within all_free (pure_sites pures (parts ++ waiting) is_pure_use (impure_sites (parts ++ waiting) rest_impure))

    -- a use of a base partition below the count is in the parts
    in_parts : (k rest : ℕ) (entry : Use) → IsMember entry uses → (p : ℕ) → place entry ≡ Some p → k ≤ p → p < k + rest → IsMember entry (joined (parts_from s uses k rest))
    in_parts k zero entry member p at low high = absurd (omega (arith, low, high))
    in_parts k (suc rest) entry member p at low high = by_place (eq_or k p) (λ other. in_parts (suc k) rest entry member p at (omega (arith, low, other)) (omega (arith, high)))
      where
        eq_or : (k p : ℕ) → (k ≡ p) ⊎ (k ≡ p → ⊥)
        eq_or k p = by_test (k == p) refl
          where
            by_test : (b : Bool) → k == p ≡ b → (k ≡ p) ⊎ (k ≡ p → ⊥)
            by_test true e = inl (eqb-true k p e)
            by_test false e = inr (λ is. false≢true (sym e ∙ eq-eqb k p is))

        by_place : (k ≡ p) ⊎ (k ≡ p → ⊥) → ((k ≡ p → ⊥) → IsMember entry (joined (parts_from s uses (suc k) rest))) → IsMember entry (joined (parts_from s uses k (suc rest)))
        by_place (inl is) later = append_left (uses_where (is_of_partition s k) uses) (joined (parts_from s uses (suc k) rest)) entry
            (where_member (is_of_partition s k) uses entry member (place_is k (place entry) (at ∙ ap Some (sym is))))
        by_place (inr other) later = append_right (uses_where (is_of_partition s k) uses) (joined (parts_from s uses (suc k) rest)) entry (later other)

    all_within : ArePartitionsBelow s count → (entry : Use) → IsMember entry uses → IsMember entry (moment_order s pure count uses)
    all_within below entry member = by_pure (pure entry) refl
      where
        by_class : pure entry ≡ false → (o : Option ℕ) → class_of_equation s entry.equation ≡ o → IsMember entry (parts ++ waiting)
        by_class impure None e = append_right parts waiting entry (where_member (is_waiting s pure) uses entry member
            (and_from (is_none (class_of_equation s entry.equation)) (not (pure entry)) (ap is_none e) (ap not impure)))
        by_class impure (Some c) e =
            let (k, at) = partition_there s runs entry.equation c e in
            append_left parts waiting entry (in_parts 0 count entry member k (ap (partition_of s) e ∙ at) (omega arith) (let lt = below c k at in omega (arith, lt)))

        by_pure : (b : Bool) → pure entry ≡ b → IsMember entry (moment_order s pure count uses)
        by_pure true e = append_left pures (parts ++ waiting) entry (where_member pure uses entry member e)
        by_pure false e = append_right pures (parts ++ waiting) entry (by_class e (class_of_equation s entry.equation) refl)

    pub order_same : ArePartitionsBelow s count → AreSameUses uses (moment_order s pure count uses)
    order_same below = record {
      all = λ entry used. member_contains entry (moment_order s pure count uses) (all_within below entry (contains_member entry uses used));
      only = λ entry used. member_contains entry uses (within entry (contains_member entry (moment_order s pure count uses) used));
    }

    -- the uses of two base partitions
    part_at : (k rest i : ℕ) (piece : List Use) → slice_get (parts_from s uses k rest) i ≡ Some piece → (entry : Use) → IsMember entry piece → IsMember entry uses × (place entry ≡ Some (k + i))
    part_at k zero i piece found entry member = absurd (none-some piece found)
    part_at k (suc rest) zero piece found entry member =
        let own = part_from k entry (subst (IsMember entry) (sym (same_Some (uses_where (is_of_partition s k) uses) piece found)) member) in
        (own.0, own.1 ∙ ap Some (let e : k ≡ k + 0 = omega arith in e))
    part_at k (suc rest) (suc i) piece found entry member =
        let (use_is, at) = part_at (suc k) rest i piece found entry member in (use_is, at ∙ ap Some (let e : suc k + i ≡ k + suc i = omega arith in e))

    two_places : (i j : ℕ) (o : Option ℕ) → o ≡ Some (0 + i) → o ≡ Some (0 + j) → i ≢ j → ⊥
    two_places i j o one two other = other (let same : 0 + i ≡ 0 + j = same_Some (0 + i) (0 + j) (sym one ∙ two) in omega (arith, same))

    -- need nothing of each other
    pub parts_apart : AreApart s (parts_from s uses 0 count)
    parts_apart i j piece others entry y other found there used asks reached =
        let own = part_at 0 count i piece found entry (contains_member entry piece used) in
        let (there_use, member, same) = member_reached others y reached in
        let theirs = part_at 0 count j others there there_use member in elim asks [
          | inl is ↦ two_places i j (place there_use) (names_place entry there_use own.0 theirs.0 (sym is ∙ same) ∙ own.1) theirs.1 other
          | inr needs ↦ elim needs [
            | inl reads ↦ two_places i j (place there_use) (reads_place entry there_use reads.1.0 y own.0 theirs.0 same reads.1.1 reads.1.2 (0 + i) own.1) theirs.1 other
            | inr site ↦ not_pure y (is_pure.sites site.0 y site.2 (subst (λ z. IsReachedBy z uses) (sym same) (reached_member uses there_use theirs.0))) there_use theirs.0 same (clocked_impure there_use theirs.0 (0 + j) theirs.1)
          ]
        ]
