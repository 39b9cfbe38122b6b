-- Uses of a stage have their units.
use Rattle.std.proofs.Common.{◌≡◌, refl, ap, ◌∙◌, ℕ, zero, suc, ◌+◌, ◌<◌, Bool, true, false, List, [], ◌∷◌, take, Some, None, slice_get, Contains, if◌then◌else◌, arith}
use Rattle.std.specs.Prelude.{cond}
use Rattle.std.proofs.lemmas.Bool.{false≢true, eqb-true, lt-ltb}
use Rattle.std.proofs.lemmas.Option.{none-some}
use Rattle.std.proofs.lemmas.List.Sums.{sum_by-cons}
use Rattle.flat_model.specs.Uses.{Use}
use Rattle.moment_order.specs.declared.stage.Stage.{Stage}
use Rattle.moment_order.specs.declared.stage.Stage.TheVariants.{Pure, Partition, Waiting}
use Rattle.moment_order.specs.Stages.{is_stage, uses_at}
use Rattle.part_groups.specs.Laws.{IsOfUnit}
use Rattle.part_groups.specs.Units.{is_waiting, waiting_before, unit_in}

-- the uses of a stage stand in their list, with that stage
record StandsAt (stage : Stage) (stages : List Stage) (uses : List Use) (entry : Use) : Type 0 where
  i : ℕ
  own : Stage
  found : slice_get uses i ≡ Some entry
  staged : slice_get stages i ≡ Some own
  same : is_stage stage own ≡ true

stands_at : (stage : Stage) (stages : List Stage) (uses : List Use) (entry : Use) → Contains (uses_at stage stages uses) entry → StandsAt stage stages uses entry
stands_at stage [] uses entry (i, lt, is) = absurd (omega (arith, lt))
stands_at stage (own ∷ stages) [] entry (i, lt, is) = absurd (omega (arith, lt))
stands_at stage (own ∷ stages) (first ∷ uses) entry there = by_test (stands_at stage stages uses entry) (is_stage stage own) refl there
  where
    behind : StandsAt stage stages uses entry → StandsAt stage (own ∷ stages) (first ∷ uses) entry
    behind at = record { i = suc at.i; own = at.own; found = at.found; staged = at.staged; same = at.same }

    by_test : (Contains (uses_at stage stages uses) entry → StandsAt stage stages uses entry) → (b : Bool) → is_stage stage own ≡ b → Contains (if b then (first ∷ uses_at stage stages uses) else uses_at stage stages uses) entry → StandsAt stage (own ∷ stages) (first ∷ uses) entry
    by_test later true e (zero, lt, is) = record { i = 0; own = own; found = ap Some is; staged = refl; same = e }
    by_test later true e (suc i, lt, is) = behind (later (i, omega (arith, lt), is))
    by_test later false e rest = behind (later rest)

is_partition : (k : ℕ) (own : Stage) → is_stage (Partition k) own ≡ true → own ≡ Partition k
is_partition k Pure e = absurd (false≢true e)
is_partition k (Partition p) e = ap Partition (eqb-true p k e)
is_partition k Waiting e = absurd (false≢true e)

pub partition_placed : (count : ℕ) (stages : List Stage) (uses : List Use) (k : ℕ) (entry : Use) → k < count → Contains (uses_at (Partition k) stages uses) entry → IsOfUnit count stages uses entry k
partition_placed count stages uses k entry lt there =
    let at = stands_at (Partition k) stages uses entry there in
    let own = is_partition k at.own at.same in
    (at.i, at.found, ap (unit_in count (count + waiting_before stages at.i)) (at.staged ∙ ap Some own) ∙ ap (λ b. if b then Some k else None) (lt-ltb k count lt))

-- how many wait behind one more
waiting_cons : (own : Stage) (stages : List Stage) (i : ℕ) → waiting_before (own ∷ stages) (suc i) ≡ cond (is_waiting own) 1 0 + waiting_before stages i
waiting_cons own stages i = sum_by-cons (λ s. cond (is_waiting s) 1 0) own (take i stages)

record WaitsAt (stages : List Stage) (uses : List Use) (j : ℕ) (entry : Use) : Type 0 where
  i : ℕ
  found : slice_get uses i ≡ Some entry
  staged : slice_get stages i ≡ Some Waiting
  before : waiting_before stages i ≡ j

waits_at : (stages : List Stage) (uses : List Use) (j : ℕ) (entry : Use) → slice_get (uses_at Waiting stages uses) j ≡ Some entry → WaitsAt stages uses j entry
waits_at [] uses j entry is = absurd (none-some entry is)
waits_at (own ∷ stages) [] j entry is = absurd (none-some entry is)
waits_at (Waiting ∷ stages) (first ∷ uses) zero entry is = record { i = 0; found = is; staged = refl; before = refl }
waits_at (Waiting ∷ stages) (first ∷ uses) (suc j) entry is =
    let at = waits_at stages uses j entry is in
    let more = waiting_cons Waiting stages at.i in
    let same = at.before in
    record { i = suc at.i; found = at.found; staged = at.staged; before = omega (arith, more, same) }
waits_at (Pure ∷ stages) (first ∷ uses) j entry is =
    let at = waits_at stages uses j entry is in
    let more = waiting_cons Pure stages at.i in
    let same = at.before in
    record { i = suc at.i; found = at.found; staged = at.staged; before = omega (arith, more, same) }
waits_at (Partition k ∷ stages) (first ∷ uses) j entry is =
    let at = waits_at stages uses j entry is in
    let more = waiting_cons (Partition k) stages at.i in
    let same = at.before in
    record { i = suc at.i; found = at.found; staged = at.staged; before = omega (arith, more, same) }

pub waiting_placed : (count : ℕ) (stages : List Stage) (uses : List Use) (j : ℕ) (entry : Use) → slice_get (uses_at Waiting stages uses) j ≡ Some entry → IsOfUnit count stages uses entry (count + j)
waiting_placed count stages uses j entry is =
    let at = waits_at stages uses j entry is in
    (at.i, at.found, ap (unit_in count (count + waiting_before stages at.i)) at.staged ∙ ap (λ n. Some (count + n)) at.before)
