-- What a use of a front does over the row that the front left it does over the last row.
use Rattle.std.proofs.Common.{◌≡◌, refl, ap, ◌∙◌, sym, subst, ℕ, List, [], ◌∷◌, ◌++◌}
use Rattle.flat_model.specs.Assignment.{Assignment}
use Rattle.flat_model.specs.Given.{Row, with_row}
use Rattle.flat_model.specs.Setting.{Setting}
use Rattle.flat_model.specs.Uses.{Use}
use Rattle.moment_theory.specs.Free.{IsReachedBy, IsOrdered}
use Rattle.moment_theory.specs.Sound.{IsSound, IsClear, DoesAlike}
use Rattle.moment_theory.specs.Taken.{AreInputs, AreTaken}
use Rattle.moment_theory.proofs.Apart.{append_taken}
use Rattle.moment_theory.proofs.Beside.{reached_first, regroup}
use Rattle.moment_theory.proofs.GivenByOrder.{inputs_clear}
use Rattle.moment_theory.proofs.Members.{IsMember}
use Rattle.moment_theory.proofs.Running.{IsReady}
use Rattle.moment_theory.proofs.SameUse.{sound_inputs}
use Rattle.moment_theory.proofs.Settled.{model}
use Rattle.moment_theory.proofs.Turns.{DoAlike}
use Rattle.first_failure.specs.Turns.{IsTurn}
use Rattle.first_failure.proofs.Turning.{turn_of, alike_at_turn}

pub bare_end : (xs : List Use) → xs ++ [] ≡ xs
bare_end [] = refl
bare_end (x ∷ xs) = ap (λ ys. x ∷ ys) (bare_end xs)

pub through : (s : Setting) (uses : List Use) (S : Assignment) (m : ℕ) (entry : Use) (a b c : Row) → DoesAlike s uses S m entry a b → DoesAlike s uses S m entry b c → DoesAlike s uses S m entry a c
through s uses S m entry a b c one two = record {
  gives = λ v g. two.gives v (one.gives v g);
  fails = λ kind f. two.fails kind (one.fails kind f);
}

module _ (s : Setting) (uses front back : List Use) (is : IsOrdered s uses (front ++ back)) (S : Assignment) (m : ℕ) (inputs mid last : Row) (are : AreInputs s m inputs)
    (taken : AreTaken s S m front inputs mid) (behind : AreTaken s S m back mid last) where
  settled : IsReady s (front ++ back)
  settled = model s uses (front ++ back) is

  sound : IsSound s (with_row S m inputs) m
  sound = sound_inputs s uses is.runs is.uses_are.uses_are S m inputs are

  clear_all : IsClear (front ++ back) inputs
  clear_all = inputs_clear s settled.unclocked settled.inputs S m (front ++ back) settled.order inputs are

  clear_front : IsClear front inputs
  clear_front y reached = clear_all y (reached_first front back y reached)

  whole : AreTaken s S m (front ++ back) inputs last
  whole = append_taken s S m front back inputs mid last taken behind

  ordered_end : IsOrdered s uses ((front ++ back) ++ [])
  ordered_end = subst (IsOrdered s uses) (sym (bare_end (front ++ back))) is

  pub front_alike : (entry : Use) → IsMember entry front → DoAlike s uses S m entry mid last
  front_alike entry member =
      let (turn, at) = turn_of s S m front inputs mid entry member taken in
      let one = alike_at_turn s uses [] front back is S m inputs mid sound clear_front taken entry turn at in
      let there : IsTurn s S m (front ++ back) inputs last entry turn = record {
        done = at.done;
        rest = at.rest ++ back;
        entries_are = ap (λ us. us ++ back) at.entries_are ∙ regroup at.done (entry ∷ at.rest) back;
        before = at.before;
        behind = append_taken s S m (entry ∷ at.rest) back turn mid last at.behind behind;
      } in
      let two = alike_at_turn s uses [] (front ++ back) [] ordered_end S m inputs last sound clear_all whole entry turn there in (
        through s uses S m entry mid turn last one.1 two.0,
        through s uses S m entry last turn mid two.1 one.0,
      )
