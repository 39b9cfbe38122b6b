-- The uses of a model by their stages, as the laws of a run have them.
use Rattle.std.proofs.Common.{◌≡◌, refl, ap, ◌∙◌, sym, subst, ℕ, zero, suc, ◌+◌, ◌<◌, eqb-true, Bool, true, false, List, [], ◌∷◌, length, map, Option, Some, None, slice_get, if◌then◌else◌, inl, inr, arith}
use Rattle.std.proofs.lemmas.Bool.{false≢true}
use Rattle.std.proofs.lemmas.Option.{none-some}
use Rattle.std.specs.Prelude.{All}
use Rattle.flat_model.specs.Runnable.{IsClassBelow, IsRunnable}
use Rattle.flat_model.specs.Setting.{Setting, flattened, class_of_equation, partition_of}
use Rattle.flat_model.specs.declared.equation.Equation.{Equation}
use Rattle.flat_model.specs.Uses as flat
use Rattle.eq_order.specs.declared.uses.Use.{Use}
use Rattle.eq_order.specs.Order.{use_of, HaveSpines}
use Rattle.moment_theory.specs.Division.{ArePartitionsBelow}
use Rattle.moment_theory.proofs.FromRunnable.{all_at, element}
use Rattle.moment_theory.proofs.Members.{IsMember}
use Rattle.tree_step.specs.declared.taking.Entry.{Entry}
use Rattle.tree_step.specs.Starts.{uses_of, IsAmong}
use Rattle.moment_order.specs.declared.stage.Stage.{Stage}
use Rattle.moment_order.specs.declared.stage.Stage.TheVariants.{Partition, Waiting}
use Rattle.moment_order.specs.Stages.{stage_in, is_stage, uses_at, parts_at}
use Rattle.moment_steps.specs.Settled.{IsPlainEntry}
use Rattle.steps_ready.specs.Division.{entry_of, taken_at}

-- ---- the uses of a stage

pub taken_uses : (stage : Stage) (stages : List Stage) (order : List Use) → map use_of (taken_at stage stages order) ≡ uses_at stage stages (map use_of order)
taken_uses stage [] order = refl
taken_uses stage (own ∷ stages) [] = refl
taken_uses stage (own ∷ stages) (taken ∷ order) = by_test (taken_uses stage stages order) (is_stage stage own)
  where
    by_test : map use_of (taken_at stage stages order) ≡ uses_at stage stages (map use_of order) → (b : Bool)
        → map use_of (if b then (taken ∷ taken_at stage stages order) else taken_at stage stages order) ≡ (if b then (use_of taken ∷ uses_at stage stages (map use_of order)) else uses_at stage stages (map use_of order))
    by_test rest true = ap (λ us. use_of taken ∷ us) rest
    by_test rest false = rest

pub taken_spines : (equations : List Equation) (stage : Stage) (stages : List Stage) (order : List Use) → HaveSpines equations order → HaveSpines equations (taken_at stage stages order)
taken_spines equations stage [] order have = tt
taken_spines equations stage (own ∷ stages) [] have = tt
taken_spines equations stage (own ∷ stages) (taken ∷ order) have = by_test (taken_spines equations stage stages order have.1) (is_stage stage own)
  where
    by_test : HaveSpines equations (taken_at stage stages order) → (b : Bool) → HaveSpines equations (if b then (taken ∷ taken_at stage stages order) else taken_at stage stages order)
    by_test rest true = (have.0, rest)
    by_test rest false = rest

pub entries_uses : (us : List Use) → uses_of (map entry_of us) ≡ map use_of us
entries_uses [] = refl
entries_uses (u ∷ us) = ap (λ rest. use_of u ∷ rest) (entries_uses us)

pub at_stage : (f : flat.Use → Stage) (stage : Stage) (uses : List flat.Use) (entry : flat.Use) → IsMember entry (uses_at stage (map f uses) uses) → is_stage stage (f entry) ≡ true
at_stage f stage [] entry member = absurd member
at_stage f stage (first ∷ uses) entry member = by_test (λ later. at_stage f stage uses entry later) (is_stage stage (f first)) refl member
  where
    by_test : (IsMember entry (uses_at stage (map f uses) uses) → is_stage stage (f entry) ≡ true) → (b : Bool) → is_stage stage (f first) ≡ b
        → IsMember entry (if b then (first ∷ uses_at stage (map f uses) uses) else uses_at stage (map f uses) uses) → is_stage stage (f entry) ≡ true
    by_test rest true e (inl is) = subst (λ u. is_stage stage (f u) ≡ true) is e
    by_test rest true e (inr later) = rest later
    by_test rest false e later = rest later

-- ---- what a stage tells

pub partition_known : (k : ℕ) (pure : Bool) (partition : Option ℕ) → is_stage (Partition k) (stage_in pure partition) ≡ true → partition ≡ Some k
partition_known k true partition e = absurd (false≢true e)
partition_known k false None e = absurd (false≢true e)
partition_known k false (Some p) e = ap Some (eqb-true p k e)

-- what has a class has a base partition
partition_there : (s : Setting) → IsRunnable s → (i class : ℕ) → class_of_equation s i ≡ Some class → (k : ℕ) × (partition_of s (Some class) ≡ Some k)
partition_there s runs i class e = element s.clocking.partitions class (let long = runs.classes.partitions in let below = class_below in omega (arith, long, below)) 0
  where
    by_entry : (o : Option (Option ℕ)) → slice_get s.clocking.of_equation i ≡ o → flattened o ≡ Some class → slice_get s.clocking.of_equation i ≡ Some (Some class)
    by_entry None found h = absurd (none-some class h)
    by_entry (Some inner) found h = found ∙ ap Some h

    class_below : class < length s.clocking.clocks
    class_below = all_at (IsClassBelow (length s.clocking.clocks)) s.clocking.of_equation i (Some class) runs.classes.of_equation (by_entry (slice_get s.clocking.of_equation i) refl e)

waiting_known : (s : Setting) (pure : Bool) (class : Option ℕ) → ((c : ℕ) → class ≡ Some c → (k : ℕ) × (partition_of s (Some c) ≡ Some k)) → is_stage Waiting (stage_in pure (partition_of s class)) ≡ true → class ≡ None
waiting_known s pure None there e = refl
waiting_known s true (Some c) there e = absurd (false≢true e)
waiting_known s false (Some c) there e = let (k, is) = there c refl in absurd (false≢true (sym (ap (λ o. is_stage Waiting (stage_in false o)) is) ∙ e))

-- a use that waits is unclocked
pub waits : (s : Setting) → IsRunnable s → (pure : Bool) (i : ℕ) → is_stage Waiting (stage_in pure (partition_of s (class_of_equation s i))) ≡ true → class_of_equation s i ≡ None
waits s runs pure i = waiting_known s pure (class_of_equation s i) (λ c e. partition_there s runs i c e)

pub partitions_below : (s : Setting) (count : ℕ) → All (λ k. k < count) s.clocking.partitions → ArePartitionsBelow s count
partitions_below s count below class k found = all_at (λ p. p < count) s.clocking.partitions class k below found

-- ---- the uses of each base partition

parts_from : (stages : List Stage) (uses : List flat.Use) (k count i : ℕ) → i < count → slice_get (parts_at stages uses k count) i ≡ Some (uses_at (Partition (k + i)) stages uses)
parts_from stages uses k zero i lt = absurd (omega (arith, lt))
parts_from stages uses k (suc count) zero lt = ap (λ n. Some (uses_at (Partition n) stages uses)) (omega arith)
parts_from stages uses k (suc count) (suc i) lt = parts_from stages uses (suc k) count i (omega (arith, lt)) ∙ ap (λ n. Some (uses_at (Partition n) stages uses)) (omega arith)

pub parts_get : (stages : List Stage) (uses : List flat.Use) (count i : ℕ) → i < count → slice_get (parts_at stages uses 0 count) i ≡ Some (uses_at (Partition i) stages uses)
parts_get stages uses count i lt = parts_from stages uses 0 count i lt ∙ ap (λ n. Some (uses_at (Partition n) stages uses)) (omega arith)

pub parts_long : (stages : List Stage) (uses : List flat.Use) (k count : ℕ) → length (parts_at stages uses k count) ≡ count
parts_long stages uses k zero = refl
parts_long stages uses k (suc count) = ap suc (parts_long stages uses (suc k) count)

-- ---- unclocked uses

-- uses that no clock governs, with the clock that always ticks
pub plain : (s : Setting) (us : List Use) → HaveSpines s.model.equations us → ((entry : flat.Use) → IsMember entry (map use_of us) → class_of_equation s entry.equation ≡ None)
    → (entry : Entry) → IsAmong entry (map entry_of us) → IsPlainEntry s entry
plain s [] have unclocked entry among = absurd among
plain s (u ∷ us) have unclocked entry (inl is) =
    let (equation, found, spine) = have.0 in
    subst (IsPlainEntry s) is (record { equation = equation; found = found; spine = spine; unclocked = unclocked (use_of u) (inl refl); clock = refl })
plain s (u ∷ us) have unclocked entry (inr later) = plain s us have.1 (λ e member. unclocked e (inr member)) entry later
