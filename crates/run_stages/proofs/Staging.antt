-- The uses of the stages of a model.
use Rattle.std.proofs.Common.{◌≡◌, ◌≢◌, refl, ap, ap₂, ◌∙◌, sym, subst, ℕ, zero, suc, ◌<◌, Bool, true, false, List, [], ◌∷◌, ◌++◌, map, Contains, Option, Some, None, slice_get, if◌then◌else◌, Ok, ◌⊎◌, inl, inr, arith}
use Rattle.std.proofs.lemmas.Bool.{false≢true}
use Rattle.flat_model.specs.declared.expression.Expr.{Expr}
use Rattle.flat_model.specs.Occurrences.{bare_count}
use Rattle.flat_model.specs.Runnable.{IsRunnable}
use Rattle.flat_model.specs.Setting.{Setting, class_of_equation, partition_of}
use Rattle.flat_model.specs.Tables.{IsInput}
use Rattle.flat_model.specs.Uses.{Use}
use Rattle.eq_order.specs.declared.uses.Use as answered
use Rattle.eq_order.specs.Order.{use_of, Answers}
use Rattle.moment_theory.specs.Division.{uses_where, ArePure, AreUnheld, ArePartitionsBelow, is_number, is_of_partition, parts_from}
use Rattle.moment_theory.specs.Free.{IsReachedBy, IsOrdered}
use Rattle.moment_theory.specs.Pieces.{AreApart}
use Rattle.moment_theory.proofs.Divided.{parts_apart}
use Rattle.moment_theory.proofs.Members.{IsMember, contains_member, member_contains, member_reached, reached_member}
use Rattle.moment_theory.proofs.Settled.{model}
use Rattle.moment_theory.proofs.Unheld.{unheld_pure}
use Rattle.moment_order.specs.declared.stage.Stage.{Stage}
use Rattle.moment_order.specs.declared.stage.Stage.TheVariants.{Pure, Partition, Waiting}
use Rattle.moment_order.specs.Stages.{AreClockless, stage_in, stage_of, AreStages, is_stage, uses_at, parts_at, staged_order}
use Rattle.moment_order.proofs.Ordering.{largest_pure, staged_free}
use Rattle.moment_order.proofs.Same.{answered_order}
use Rattle.moment_join.specs.Sites.{ReachSites}
use Rattle.moment_join.specs.Staged.{IsClockless, AreStagesOf}
use Rattle.run_stages.specs.Laws.{IsGrouped, RestOnGroup}

module _ (s : Setting) (pure : Use → Bool) where
  at_stage : (stage : Stage) (test : Use → Bool) (uses : List Use) → ((entry : Use) → IsMember entry uses → is_stage stage (stage_of s pure entry) ≡ test entry)
      → uses_at stage (map (stage_of s pure) uses) uses ≡ uses_where test uses
  at_stage stage test [] same = refl
  at_stage stage test (entry ∷ uses) same =
      ap₂ (λ b rest. if b then (entry ∷ rest) else rest) (same entry (inl refl)) (at_stage stage test uses (λ e member. same e (inr member)))

  part_is : (k : ℕ) (b : Bool) (o : Option ℕ) → (b ≡ true → o ≡ None) → is_stage (Partition k) (stage_in b o) ≡ is_number k o
  part_is k true o unclocked = ap (is_number k) (sym (unclocked refl))
  part_is k false None unclocked = refl
  part_is k false (Some p) unclocked = refl

  parts_are : (uses : List Use) → AreClockless s uses pure → (k count : ℕ) → parts_at (map (stage_of s pure) uses) uses k count ≡ parts_from s uses k count
  parts_are uses clockless k zero = refl
  parts_are uses clockless k (suc count) = ap₂ (λ a b. a ∷ b)
      (at_stage (Partition k) (is_of_partition s k) uses (λ entry member. part_is k (pure entry) (partition_of s (class_of_equation s entry.equation))
      (λ is. ap (partition_of s) (clockless.unclocked entry (member_contains entry uses member) is))))
      (parts_are uses clockless (suc k) count)

  pure_stage : (b : Bool) (o : Option ℕ) → is_stage Pure (stage_in b o) ≡ b
  pure_stage true o = refl
  pure_stage false None = refl
  pure_stage false (Some k) = refl

  pure_are : (uses : List Use) → uses_at Pure (map (stage_of s pure) uses) uses ≡ uses_where pure uses
  pure_are uses = at_stage Pure pure uses (λ entry member. pure_stage (pure entry) (partition_of s (class_of_equation s entry.equation)))

-- what passes a test is a use that passes it, and the other way round
passed : (test : Use → Bool) (uses : List Use) (entry : Use) → IsMember entry (uses_where test uses) → IsMember entry uses × (test entry ≡ true)
passed test [] entry member = absurd member
passed test (first ∷ uses) entry member = by_test (λ later. passed test uses entry later) (test first) refl member
  where
    by_test : (IsMember entry (uses_where test uses) → IsMember entry uses × (test entry ≡ true)) → (b : Bool) → test first ≡ b → IsMember entry (if b then (first ∷ uses_where test uses) else uses_where test uses)
        → IsMember entry (first ∷ uses) × (test entry ≡ true)
    by_test rest true e (inl at) = (inl at, subst (λ u. test u ≡ true) at e)
    by_test rest true e (inr later) = (inr (rest later).0, (rest later).1)
    by_test rest false e later = (inr (rest later).0, (rest later).1)

passes : (test : Use → Bool) (uses : List Use) (entry : Use) → IsMember entry uses → test entry ≡ true → IsMember entry (uses_where test uses)
passes test [] entry member is = absurd member
passes test (first ∷ uses) entry (inl at) is = by_test (test first) (subst (λ u. test u ≡ true) (sym at) is)
  where
    by_test : (b : Bool) → b ≡ true → IsMember entry (if b then (first ∷ uses_where test uses) else uses_where test uses)
    by_test true e = inl at
    by_test false e = absurd (false≢true e)
passes test (first ∷ uses) entry (inr later) is = by_test (passes test uses entry later is) (test first)
  where
    by_test : IsMember entry (uses_where test uses) → (b : Bool) → IsMember entry (if b then (first ∷ uses_where test uses) else uses_where test uses)
    by_test rest true = inr rest
    by_test rest false = rest

module _ (s : Setting) (order : List answered.Use) (stages : List Stage) (group : ℕ → Bool) (count : ℕ) (runs : IsRunnable s) (answers : Answers s (Ok order)) (unheld : AreUnheld s group) (rest : RestOnGroup s group)
    (below : ArePartitionsBelow s count) (are : AreStages s (map use_of order) stages) where
  abbrev uses : List Use
  uses = map use_of order

  ordered : IsOrdered s uses (staged_order count stages uses)
  ordered = staged_free s order stages group count runs answers unheld below are

  group_pure : ArePure s uses (λ entry. group entry.name)
  group_pure = unheld_pure s uses group runs (answered_order s order answers).uses_are unheld

  is_pure : ArePure s uses are.pure
  is_pure = largest_pure s uses (λ entry. group entry.name) are.pure group_pure are.largest

  parts_same : parts_at stages uses 0 count ≡ parts_from s uses 0 count
  parts_same = ap (λ all. parts_at all uses 0 count) are.each ∙ parts_are s are.pure uses are.largest.clockless 0 count

  pure_same : uses_at Pure stages uses ≡ uses_where are.pure uses
  pure_same = ap (λ all. uses_at Pure all uses) are.each ∙ pure_are s are.pure uses

  apart : AreApart s (parts_at stages uses 0 count)
  apart = subst (AreApart s) (sym parts_same) (parts_apart s runs uses (answered_order s order answers).uses_are are.pure is_pure count)

  clockless : (entry : Use) → Contains (uses_at Pure stages uses) entry → IsClockless s entry
  clockless entry used =
      let (member, passed_it) = passed are.pure uses entry (contains_member entry (uses_where are.pure uses) (subst (λ us. Contains us entry) pure_same used)) in
      let within = member_contains entry uses member in record {
        unclocked = are.largest.clockless.unclocked entry within passed_it;
        plain = λ equation z found asks. are.largest.clockless.plain entry equation z within passed_it found asks;
      }

  reached_pure : (y : ℕ) → group y ≡ true → IsReachedBy y uses → IsReachedBy y (uses_at Pure stages uses)
  reached_pure y own reached =
      let (entry, member, same) = member_reached uses y reached in
      let used = member_contains entry uses member in
      let own_clockless : AreClockless s uses (λ e. group e.name) = record { unclocked = group_pure.unclocked; plain = group_pure.plain; reads = group_pure.reads } in
      let pure_it = are.largest.largest (λ e. group e.name) own_clockless entry used (subst (λ x. group x ≡ true) same own) in
      subst (λ x. IsReachedBy x (uses_at Pure stages uses)) (sym same)
      (reached_member (uses_at Pure stages uses) entry (subst (IsMember entry) (sym pure_same) (passes are.pure uses entry member pure_it)))

  reach : ReachSites s (uses_at Pure stages uses)
  reach site y condition found some = elim (rest site y condition found some) [
    | inl input ↦ inr input
    | inr grouped ↦ by_input grouped grouped.name.input refl
  ]
    where
      in_uses : IsReachedBy y (staged_order count stages uses) → IsReachedBy y uses
      in_uses reached =
          let (entry, member, same) = member_reached (staged_order count stages uses) y reached in
          subst (λ x. IsReachedBy x uses) (sym same) (reached_member uses entry (contains_member entry uses (ordered.same.only entry (member_contains entry (staged_order count stages uses) member))))

      by_input : (grouped : IsGrouped s group y) → (b : Bool) → grouped.name.input ≡ b → IsReachedBy y (uses_at Pure stages uses) ⊎ IsInput s.model.names y
      by_input grouped true e = inr (grouped.name, grouped.found, e)
      by_input grouped false e = inl (reached_pure y grouped.own (in_uses ((model s uses (staged_order count stages uses) ordered).whole.names y grouped.name grouped.found grouped.valued e)))

  pub staged : AreStagesOf s uses (uses_at Pure stages uses) (parts_at stages uses 0 count) (uses_at Waiting stages uses) × ReachSites s (uses_at Pure stages uses)
  staged = (record { ordered = ordered; clockless = clockless; apart = apart }, reach)
