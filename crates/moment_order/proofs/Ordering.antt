-- The uses in the order of their stages are the order of a moment.
use Rattle.std.proofs.Common.{◌≡◌, refl, ap, ap₂, ◌∙◌, sym, subst, ℕ, zero, suc, ◌<◌, ◌&&◌, ◌++◌, not, Bool, true, false, List, [], ◌∷◌, length, map, Option, Some, None, is_none, slice_get, if◌then◌else◌, Ok, inl, inr, arith}
use Rattle.std.proofs.lemmas.Option.{none-some}
use Rattle.eq_order.specs.declared.uses.Use as answered
use Rattle.eq_order.specs.Order.{use_of, Answers}
use Rattle.flat_model.specs.Runnable.{IsClassBelow, IsRunnable}
use Rattle.flat_model.specs.Setting.{Setting, flattened, class_of_equation, partition_of}
use Rattle.flat_model.specs.Uses.{Use}
use Rattle.moment_theory.specs.Division.{uses_where, ArePure, AreUnheld, ArePartitionsBelow, is_number, is_of_partition, is_waiting, parts_from, joined, moment_order}
use Rattle.moment_theory.specs.Free.{IsOrdered}
use Rattle.moment_theory.proofs.Divided.{order_free, order_same}
use Rattle.moment_theory.proofs.FromRunnable.{all_at, element}
use Rattle.moment_theory.proofs.Members.{IsMember, member_contains}
use Rattle.moment_theory.proofs.Unheld.{unheld_pure}
use Rattle.moment_order.specs.declared.stage.Stage.{Stage}
use Rattle.moment_order.specs.declared.stage.Stage.TheVariants.{Pure, Partition, Waiting}
use Rattle.moment_order.specs.Stages.{AreClockless, AreLargest, stage_in, stage_of, AreStages, is_stage, uses_at, parts_at, staged_order}
use Rattle.moment_order.proofs.Same.{answered_order}

-- ---- one answer

both_ways : (a b : Bool) → (a ≡ true → b ≡ true) → (b ≡ true → a ≡ true) → a ≡ b
both_ways true b there back = sym (there refl)
both_ways false true there back = back refl
both_ways false false there back = refl

same_map : (s : Setting) (p q : Use → Bool) (uses : List Use) → ((entry : Use) → IsMember entry uses → p entry ≡ q entry) → map (stage_of s p) uses ≡ map (stage_of s q) uses
same_map s p q [] same = refl
same_map s p q (entry ∷ uses) same =
    ap₂ (λ a b. a ∷ b) (ap (λ b. stage_in b (partition_of s (class_of_equation s entry.equation))) (same entry (inl refl))) (same_map s p q uses (λ e member. same e (inr member)))

pub one_division : (s : Setting) (uses : List Use) (a b : List Stage) → AreStages s uses a → AreStages s uses b → a ≡ b
one_division s uses a b first second =
    first.each
    ∙ same_map s first.pure second.pure uses (λ entry member.
    let used = member_contains entry uses member in
    both_ways (first.pure entry) (second.pure entry) (λ is. second.largest.largest first.pure first.largest.clockless entry used is) (λ is. first.largest.largest second.pure second.largest.clockless entry used is))
    ∙ sym second.each

-- ---- pure

pub largest_pure : (s : Setting) (uses : List Use) (other pure : Use → Bool) → ArePure s uses other → AreLargest s uses pure → ArePure s uses pure
largest_pure s uses other pure is_pure largest = record {
  unclocked = largest.clockless.unclocked;
  plain = largest.clockless.plain;
  reads = largest.clockless.reads;
  sites = λ class y reads reached.
      let (entry, used, passes, same) = is_pure.sites class y reads reached in
      let own : AreClockless s uses other = record { unclocked = is_pure.unclocked; plain = is_pure.plain; reads = is_pure.reads } in
      (entry, used, largest.largest other own entry used passes, same);
}

-- ---- the order

module _ (s : Setting) (pure : Use → Bool) where
  at_stage : (stage : Stage) (test : Use → Bool) (uses : List Use) → ((entry : Use) → IsMember entry uses → is_stage stage (stage_of s pure entry) ≡ test entry)
      → uses_at stage (map (stage_of s pure) uses) uses ≡ uses_where test uses
  at_stage stage test [] same = refl
  at_stage stage test (entry ∷ uses) same =
      ap₂ (λ b rest. if b then (entry ∷ rest) else rest) (same entry (inl refl)) (at_stage stage test uses (λ e member. same e (inr member)))

  pure_is : (b : Bool) (o : Option ℕ) → is_stage Pure (stage_in b o) ≡ b
  pure_is true o = refl
  pure_is false None = refl
  pure_is false (Some k) = refl

  part_is : (k : ℕ) (b : Bool) (o : Option ℕ) → (b ≡ true → o ≡ None) → is_stage (Partition k) (stage_in b o) ≡ is_number k o
  part_is k true o unclocked = ap (is_number k) (sym (unclocked refl))
  part_is k false None unclocked = refl
  part_is k false (Some p) unclocked = refl

  waiting_is : (class : Option ℕ) (b : Bool) → ((c : ℕ) → class ≡ Some c → (k : ℕ) × (partition_of s (Some c) ≡ Some k)) → is_stage Waiting (stage_in b (partition_of s class)) ≡ is_none class && not b
  waiting_is None true there = refl
  waiting_is None false there = refl
  waiting_is (Some c) true there = refl
  waiting_is (Some c) false there = let (k, is) = there c refl in ap (λ o. is_stage Waiting (stage_in false o)) is

  -- what has a class has a base partition
  partition_there : IsRunnable s → (i c : ℕ) → class_of_equation s i ≡ Some c → (k : ℕ) × (partition_of s (Some c) ≡ Some k)
  partition_there runs i c e = element s.clocking.partitions c (let long = runs.classes.partitions in let below = class_below in omega (arith, long, below)) 0
    where
      by_entry : (o : Option (Option ℕ)) → slice_get s.clocking.of_equation i ≡ o → flattened o ≡ Some c → slice_get s.clocking.of_equation i ≡ Some (Some c)
      by_entry None found h = absurd (none-some c h)
      by_entry (Some inner) found h = found ∙ ap Some h

      class_below : c < length s.clocking.clocks
      class_below = all_at (IsClassBelow (length s.clocking.clocks)) s.clocking.of_equation i (Some c) runs.classes.of_equation (by_entry (slice_get s.clocking.of_equation i) refl e)

  module _ (runs : IsRunnable s) (uses : List Use) (clockless : AreClockless s uses pure) where
    abbrev staged : List Stage
    staged = map (stage_of s pure) uses

    parts_are : (k count : ℕ) → parts_at staged uses k count ≡ parts_from s uses k count
    parts_are k zero = refl
    parts_are k (suc count) = ap₂ (λ a b. a ∷ b)
        (at_stage (Partition k) (is_of_partition s k) uses (λ entry member. part_is k (pure entry) (partition_of s (class_of_equation s entry.equation))
        (λ is. ap (partition_of s) (clockless.unclocked entry (member_contains entry uses member) is))))
        (parts_are (suc k) count)

    order_is : (count : ℕ) → staged_order count staged uses ≡ moment_order s pure count uses
    order_is count = ap₂ (λ a b. a ++ b)
        (at_stage Pure pure uses (λ entry member. pure_is (pure entry) (partition_of s (class_of_equation s entry.equation))))
        (ap₂ (λ a b. joined a ++ b) (parts_are 0 count)
        (at_stage Waiting (is_waiting s pure) uses (λ entry member. waiting_is (class_of_equation s entry.equation) (pure entry) (λ c e. partition_there runs entry.equation c e))))

pub staged_free : (s : Setting) (order : List answered.Use) (stages : List Stage) (group : ℕ → Bool) (count : ℕ) → IsRunnable s → Answers s (Ok order) → AreUnheld s group
    → ArePartitionsBelow s count → AreStages s (map use_of order) stages → IsOrdered s (map use_of order) (staged_order count stages (map use_of order))
staged_free s order stages group count runs answers unheld below are =
    let uses = map use_of order in
    let is_order = answered_order s order answers in
    let is_pure = largest_pure s uses (λ entry. group entry.name) are.pure (unheld_pure s uses group runs is_order.uses_are unheld) are.largest in
    let same = ap (λ all. staged_order count all uses) are.each ∙ order_is s are.pure runs uses are.largest.clockless count in
    subst (IsOrdered s uses) (sym same) (record {
      runs = runs;
      uses_are = is_order;
      same = order_same s runs uses is_order.uses_are are.pure is_pure count below;
      free = order_free s runs uses is_order.uses_are are.pure is_pure count;
    })
