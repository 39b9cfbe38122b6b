-- What shares took side by side at a moment. This project's own.
use Rattle.std.specs.Prelude.{◌≡◌, ℕ, List, ◌∷◌, map, Option, Some, slice_get}
use Rattle.flat_model.specs.Assignment.{Assignment}
use Rattle.flat_model.specs.Given.{Row}
use Rattle.flat_model.specs.Setting.{Setting}
use Rattle.flat_model.specs.Uses.{Use}
use Rattle.moment_theory.specs.Pieces.{AreTakenAlone, AreBeside}
use Rattle.moment_theory.specs.Taken.{AreInputs, AreTaken}
use Rattle.first_failure.specs.declared.least.EquationFailing.{EquationFailing}
use Rattle.first_failure.specs.Turns.{FailsAmong, IsLeast}
use Rattle.moment_join.specs.Staged.{IsStaged, AreTold}
use Rattle.moment_join.specs.Told.{earliest}
use Rattle.share_join.specs.Shares.{Share, own_uses, all_pieces, all_waiting, AreSharesOf}

-- a share took each of its pieces by itself from the base, then its waiting uses from a row with the values of all of these, and tells the least equation of its uses that fails
pub record HasTaken (s : Setting) (uses : List Use) (U : Assignment) (m : ℕ) (base : Row) (share : Share) (last : Row) (told : Option EquationFailing) : Type 0 where
  pub owns : ℕ → Row
  pub row : Row
  pub each : List (Option EquationFailing)
  pub behind : Option EquationFailing
  pub alone : AreTakenAlone s U m base owns share.pieces
  pub beside : AreBeside base owns share.pieces row
  pub waited : AreTaken s U m share.waiting row last
  pub each_told : (i : ℕ) (piece : List Use) → slice_get share.pieces i ≡ Some piece → (failing : Option EquationFailing) × (slice_get each i ≡ Some failing) × IsLeast (FailsAmong s uses U m piece (owns i)) failing
  pub no_more : (i : ℕ) (failing : Option EquationFailing) → slice_get each i ≡ Some failing → (piece : List Use) × (slice_get share.pieces i ≡ Some piece)
  pub behind_told : IsLeast (FailsAmong s uses U m share.waiting last) behind
  pub told_is : told ≡ earliest (behind ∷ each)

-- each share left a row of its own and told its failure
pub record HaveTaken (s : Setting) (uses : List Use) (U : Assignment) (m : ℕ) (base : Row) (shares : List Share) (lasts : ℕ → Row) (tolds : List (Option EquationFailing)) : Type 0 where
  pub each : (i : ℕ) (share : Share) → slice_get shares i ≡ Some share → (told : Option EquationFailing) × (slice_get tolds i ≡ Some told) × HasTaken s uses U m base share (lasts i) told
  pub no_more : (i : ℕ) (told : Option EquationFailing) → slice_get tolds i ≡ Some told → (share : Share) × (slice_get shares i ≡ Some share)

-- a row that joins those of the shares: what a share's own uses reach is as it left it, all else as in the base
abbrev pub JoinsShares : Row → (ℕ → Row) → List Share → Row → Type 0
JoinsShares base lasts shares last = AreBeside base lasts (map own_uses shares) last

-- shares side by side at moment m of U: the pure uses were taken from the inputs, each share from the base that these left, and the last row joins what they left
pub record AreRunBeside (s : Setting) (uses pure : List Use) (shares : List Share) (U : Assignment) (m : ℕ) (inputs base : Row) (lasts : ℕ → Row) (last : Row) (first : Option EquationFailing) (tolds : List (Option EquationFailing)) : Type 0 where
  pub shares_are : AreSharesOf s uses pure shares
  pub are : AreInputs s m inputs
  pub taken : AreTaken s U m pure inputs base
  pub first_told : IsLeast (FailsAmong s uses U m pure base) first
  pub have_taken : HaveTaken s uses U m base shares lasts tolds
  pub joins : JoinsShares base lasts shares last

-- then the same are stages of the moment, and the least that these tell is the least that the shares tell
pub record AreStages (s : Setting) (uses pure : List Use) (shares : List Share) (U : Assignment) (m : ℕ) (inputs base last : Row) (first : Option EquationFailing) (tolds : List (Option EquationFailing)) : Type 0 where
  pub owns : ℕ → Row
  pub row : Row
  pub each : List (Option EquationFailing)
  pub behind : Option EquationFailing
  pub staged : IsStaged s U m pure (all_pieces shares) (all_waiting shares) inputs base owns row last
  pub tells : AreTold s uses U m pure (all_pieces shares) (all_waiting shares) base owns last first each behind
  pub told_same : earliest (first ∷ tolds) ≡ earliest (first ∷ (behind ∷ each))
