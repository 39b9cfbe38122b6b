-- A careful run takes the uses of its lines, and tells the least of their equations that fails.
use Rattle.std.proofs.Common.{refl, sym, subst, ℕ, Bool, List, [], ◌∷◌, ◌++◌, append_assoc, Option, None, ◌⊎◌, inl, inr}
use Rattle.sync_values.specs.declared.value.Fail.{Fail}
use Rattle.flat_model.specs.Assignment.{Assignment}
use Rattle.flat_model.specs.Given.{Row}
use Rattle.flat_model.specs.Setting.{Setting}
use Rattle.flat_model.specs.Uses.{Use}
use Rattle.moment_theory.specs.Free.{IsOrdered}
use Rattle.moment_theory.specs.Taken.{AreTaken}
use Rattle.moment_theory.proofs.Members.{contains_member}
use Rattle.step_code.specs.Code.{Cells}
use Rattle.side_theory.specs.Kept.{IsSet}
use Rattle.first_failure.specs.declared.careful.LoneLine.{LoneLine}
use Rattle.first_failure.specs.declared.least.EquationFailing.{EquationFailing}
use Rattle.first_failure.specs.Careful.{CarefulState, is_ready, RunsEach}
use Rattle.first_failure.specs.CarefulLaws.{Source, entries_of, AreSources, AreTicked, IsStart}
use Rattle.first_failure.specs.Turns.{FailsAmong, IsLeast}
use Rattle.first_failure.proofs.Joining.{Tells, tells}
use Rattle.first_failure.proofs.Stepping.{stepped}
use Rattle.first_failure.proofs.Telling.{least_same}

module _ (s : Setting) (uses after : List Use) (common : Cells) (t : ℕ) (S : Assignment) (m : ℕ) (ticking : List Bool) where
  abbrev Ends : List Source → Row → CarefulState → CarefulState → Type 1
  Ends sources row from to = (last : Row) × AreTaken s S m (entries_of sources) row last × IsSet s S m last common t to.cells × Tells s uses S m (entries_of sources) last from.told to.told

  no_more : (row : Row) (told : Option EquationFailing) → Tells s uses S m [] row told told
  no_more row told P least = least_same P (λ i k. P i k ⊎ FailsAmong s uses S m [] row i k) (λ i k p. inl p) back told least
    where
      back : (i : ℕ) (k : Fail) → P i k ⊎ FailsAmong s uses S m [] row i k → P i k
      back i k (inl p) = p
      back i k (inr (entry, used, at, fails)) = absurd (contains_member entry [] used)

  pub careful : (before : List Use) (sources : List Source) → IsOrdered s uses (before ++ (entries_of sources ++ after)) → (lines : List LoneLine) → AreSources s uses common t lines sources
      → (row : Row) (from to : CarefulState) → IsStart s S m row (entries_of sources) common t from.cells from.marks → AreTicked s S m row ticking t from.cells lines sources → RunsEach ticking lines from to → Ends sources row from to
  careful before [] ordered [] are row from to start ticked runs = subst (Ends [] row from) (sym runs) (row, (λ y. refl), start.set, no_more row from.told)
  careful before [] ordered (one ∷ lines) are row from to start ticked runs = absurd are
  careful before (source ∷ sources) ordered [] are row from to start ticked runs = absurd are
  careful before (source ∷ sources) ordered (one ∷ lines) are row from to start ticked (mid, lone, rest) =
      let step = stepped s uses before after common t one source are.0 sources ordered S m row from start ticking lines are.1 ticked (is_ready ticking from.marks one) refl mid lone in
      let here = append_assoc before (source.entry ∷ []) (entries_of sources ++ after) in
      let (last, taken, set, told) = careful (before ++ source.entry ∷ []) sources (subst (IsOrdered s uses) (sym here) ordered) lines are.1 step.next mid to step.start step.ticked rest in (
        last,
        (step.next, step.step, taken),
        set,
        tells s uses before after source.entry (entries_of sources) ordered S m row step.next last start.sound start.clear step.step taken from.told mid.told to.told step.told told,
      )

-- what is told from nothing is the least that fails
pub least_of : (s : Setting) (uses : List Use) (S : Assignment) (m : ℕ) (entries : List Use) (last : Row) (result : Option EquationFailing) → Tells s uses S m entries last None result → IsLeast (FailsAmong s uses S m entries last) result
least_of s uses S m entries last result told =
    least_same (λ i k. ⊥ ⊎ FailsAmong s uses S m entries last i k) (FailsAmong s uses S m entries last) out (λ i k fails. inr fails) result (told (λ i k. ⊥) (λ i k none. none))
  where
    out : (i : ℕ) (k : Fail) → ⊥ ⊎ FailsAmong s uses S m entries last i k → FailsAmong s uses S m entries last i k
    out i k (inl none) = absurd none
    out i k (inr fails) = fails
