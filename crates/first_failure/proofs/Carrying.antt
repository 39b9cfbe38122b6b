-- What is told of a piece holds over the row of the moment.
use Rattle.std.proofs.Common.{◌≡◌, ap, sym, subst, ◌∙◌, ℕ, zero, suc, List, [], ◌∷◌, ◌++◌, append_assoc, Contains, Option, Some, slice_get}
use Rattle.std.proofs.lemmas.Option.{none-some, same_Some}
use Rattle.sync_values.specs.declared.value.Fail.{Fail}
use Rattle.flat_model.specs.Assignment.{Assignment}
use Rattle.flat_model.specs.Faults.{EquationFails}
use Rattle.flat_model.specs.Given.{Row, with_row}
use Rattle.flat_model.specs.Setting.{Setting}
use Rattle.flat_model.specs.Uses.{Use}
use Rattle.moment_theory.specs.Division.{joined}
use Rattle.moment_theory.specs.Free.{IsOrdered}
use Rattle.moment_theory.specs.Pieces.{AreApart, AreTakenAlone, AreBeside}
use Rattle.moment_theory.specs.Sound.{IsClear}
use Rattle.moment_theory.specs.Taken.{AreInputs, AreTaken}
use Rattle.moment_theory.proofs.Apart.{append_taken}
use Rattle.moment_theory.proofs.Beside.{reached_first}
use Rattle.moment_theory.proofs.GivenByOrder.{inputs_clear}
use Rattle.moment_theory.proofs.Members.{IsMember, contains_member}
use Rattle.moment_theory.proofs.Running.{IsReady}
use Rattle.moment_theory.proofs.SameUse.{sound_inputs}
use Rattle.moment_theory.proofs.Settled.{model}
use Rattle.moment_theory.proofs.Turns.{DoAlike, at_its_turn, in_its_piece}
use Rattle.first_failure.specs.declared.least.EquationFailing.{EquationFailing}
use Rattle.first_failure.specs.Turns.{IsTurn, FailsAmong, IsLeast}
use Rattle.first_failure.proofs.Telling.{least_same}
use Rattle.first_failure.proofs.Turning.{alike_at_turn, turn_of, member_back, member_front}

module _ (s : Setting) (uses first rest : List Use) (pieces : List (List Use)) (is : IsOrdered s uses (first ++ (joined pieces ++ rest))) (apart : AreApart s pieces) (S : Assignment) (m : ℕ) (inputs base : Row) (are : AreInputs s m inputs)
    (taken : AreTaken s S m first inputs base) (owns : ℕ → Row) (alone : AreTakenAlone s S m base owns pieces) (row : Row) (together : AreTaken s S m (first ++ joined pieces) inputs row) (beside : AreBeside base owns pieces row)
    (last : Row) (others : AreTaken s S m rest row last) (i : ℕ) (piece : List Use) (found : slice_get pieces i ≡ Some piece) where
  abbrev front : List Use
  front = first ++ joined pieces

  ordered : IsOrdered s uses (front ++ rest)
  ordered = subst (IsOrdered s uses) (sym (append_assoc first (joined pieces) rest)) is

  settled : IsReady s (front ++ rest)
  settled = model s uses (front ++ rest) ordered

  clear : IsClear front inputs
  clear y reached = inputs_clear s settled.unclocked settled.inputs S m (front ++ rest) settled.order inputs are y (reached_first front rest y reached)

  module _ (entry : Use) (turn : Row) (at : IsTurn s S m front inputs row entry turn) where
    turn_row : DoAlike s uses S m entry turn row
    turn_row = alike_at_turn s uses [] front rest ordered S m inputs row (sound_inputs s uses ordered.runs ordered.uses_are.uses_are S m inputs are) clear together entry turn at

    turn_last : DoAlike s uses S m entry turn last
    turn_last =
        let order : front ++ rest ≡ at.done ++ entry ∷ (at.rest ++ rest) = ap (λ us. us ++ rest) at.entries_are ∙ append_assoc at.done (entry ∷ at.rest) rest in
        at_its_turn s uses at.done (at.rest ++ rest) entry (subst (IsOrdered s uses) order ordered) S m inputs turn last are at.before (append_taken s S m (entry ∷ at.rest) rest turn row last at.behind others)

  module _ (entry : Use) (of_piece : Contains piece entry) where
    within : (some : List (List Use)) (j : ℕ) → slice_get some j ≡ Some piece → IsMember entry (joined some)
    within [] j there = absurd (none-some piece there)
    within (own ∷ some) zero there = member_front own (joined some) entry (subst (IsMember entry) (sym (same_Some own piece there)) (contains_member entry piece of_piece))
    within (own ∷ some) (suc j) there = member_back own (joined some) entry (within some j there)

    own_row : DoAlike s uses S m entry (owns i) row
    own_row = in_its_piece s uses first rest pieces is apart S m inputs base are taken owns alone row together beside i piece found entry of_piece

    on : (kind : Fail) → EquationFails s (with_row S m (owns i)) uses m entry.equation kind → EquationFails s (with_row S m last) uses m entry.equation kind
    on kind fails = let (turn, at) = turn_of s S m front inputs row entry (member_back first (joined pieces) entry (within pieces i found)) together in
        (turn_last entry turn at).0.fails kind ((turn_row entry turn at).1.fails kind (own_row.0.fails kind fails))

    back : (kind : Fail) → EquationFails s (with_row S m last) uses m entry.equation kind → EquationFails s (with_row S m (owns i)) uses m entry.equation kind
    back kind fails = let (turn, at) = turn_of s S m front inputs row entry (member_back first (joined pieces) entry (within pieces i found)) together in
        own_row.1.fails kind ((turn_row entry turn at).0.fails kind ((turn_last entry turn at).1.fails kind fails))

  moved : (a b : Row) → ((entry : Use) → Contains piece entry → (kind : Fail) → EquationFails s (with_row S m a) uses m entry.equation kind → EquationFails s (with_row S m b) uses m entry.equation kind)
      → (j : ℕ) (kind : Fail) → FailsAmong s uses S m piece a j kind → FailsAmong s uses S m piece b j kind
  moved a b does j kind (entry, used, at, fails) = (entry, used, at, subst (λ n. EquationFails s (with_row S m b) uses m n kind) at (does entry used kind (subst (λ n. EquationFails s (with_row S m a) uses m n kind) (sym at) fails)))

  pub carried : (told : Option EquationFailing) → IsLeast (FailsAmong s uses S m piece (owns i)) told → IsLeast (FailsAmong s uses S m piece last) told
  carried told = least_same (FailsAmong s uses S m piece (owns i)) (FailsAmong s uses S m piece last) (moved (owns i) last on) (moved last (owns i) back) told
