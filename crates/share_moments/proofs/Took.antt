-- What shares took by themselves is what they took side by side.
use Rattle.std.proofs.Common.{subst, ℕ, List, map, Option}
use Rattle.first_failure.specs.declared.least.EquationFailing.{EquationFailing}
use Rattle.first_failure.specs.Turns.{FailsAmong, IsLeast}
use Rattle.flat_model.specs.Values.{value_in}
use Rattle.flat_model.specs.Assignment.{Assignment}
use Rattle.flat_model.specs.Given.{Row}
use Rattle.flat_model.specs.Setting.{Setting}
use Rattle.flat_model.specs.Uses.{Use}
use Rattle.fork_steps.specs.declared.slot.Slot.{Slot}
use Rattle.moment_steps.specs.declared.piece.Piece.{Piece}
use Rattle.moment_theory.specs.Taken.{AreInputs, AreTaken}
use Rattle.share_join.specs.Taking.{HasTaken, HaveTaken, JoinsShares, AreRunBeside}
use Rattle.share_join.proofs.Places.{at_map, map_at}
use Rattle.share_run.specs.Standing.{Holding}
use Rattle.share_run.specs.Taking.{Values, Plan, HasTakenShare}
use Rattle.share_moments.specs.Sharing.{share_of, AreShares, TookEach}
use Rattle.share_moments.proofs.Sharing as sharing

pub took_beside : (s : Setting) (uses others : List Use) (U : Assignment) (m : ℕ) (plan : Plan) (h : Holding) (slots : List (Slot Piece)) (base last : Values) (told : Option EquationFailing)
    → HasTakenShare h slots plan base last told s uses others U m → HasTaken s uses U m (value_in base) (share_of h) (value_in last) told
took_beside s uses others U m plan h slots base last told took = record {
  owns = took.owns;
  row = took.row;
  each = took.each;
  behind = took.behind;
  alone = took.alone;
  beside = took.beside;
  waited = took.waited;
  each_told = took.each_told;
  no_more = took.no_more;
  behind_told = took.behind_told;
  told_is = took.told_is;
}

module _ (s : Setting) (uses pure : List Use) (holdings : List Holding) (are : AreShares s uses pure (map share_of holdings)) (U : Assignment) (m : ℕ) (inputs : Row) (base : Values) (inputs_are : AreInputs s m inputs)
    (taken : AreTaken s U m pure inputs (value_in base)) (first : Option EquationFailing) (first_told : IsLeast (FailsAmong s uses U m pure (value_in base)) first)
    (plan : Plan) (lasts : ℕ → Values) (tolds : List (Option EquationFailing)) (took : TookEach s uses U m plan base holdings lasts tolds)
    (last : Row) (joins : JoinsShares (value_in base) (λ i. value_in (lasts i)) (map share_of holdings) last) where
  have_taken : HaveTaken s uses U m (value_in base) (map share_of holdings) (λ i. value_in (lasts i)) tolds
  have_taken = record {
    each = λ i share found.
        let (h, at, same) = map_at share_of holdings i share found in
        let (told, slots, there, has) = took.each i h at in
        (told, there, subst (λ one. HasTaken s uses U m (value_in base) one (value_in (lasts i)) told) same (took_beside s uses _ U m plan h slots base (lasts i) told has));
    no_more = λ i told found. let (h, at) = took.no_more i told found in (share_of h, at_map share_of holdings i h at);
  }

  pub run_beside : AreRunBeside s uses pure (map share_of holdings) U m inputs (value_in base) (λ i. value_in (lasts i)) last first tolds
  run_beside = record {
    shares_are = sharing.beside s uses pure (map share_of holdings) are;
    are = inputs_are;
    taken = taken;
    first_told = first_told;
    have_taken = have_taken;
    joins = joins;
  }
