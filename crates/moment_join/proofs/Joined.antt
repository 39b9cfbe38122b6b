-- The stages of a moment, one behind the other.
use Rattle.std.proofs.Common.{◌≡◌, ◌∙◌, sym, subst, ℕ, zero, suc, List, [], ◌∷◌, ◌++◌, Contains, Some, slice_get, inl, inr}
use Rattle.std.proofs.lemmas.Option.{none-some, same_Some}
use Rattle.std.proofs.Math.Path.{fun_ext}
use Rattle.flat_model.specs.Assignment.{Assignment}
use Rattle.flat_model.specs.Given.{Row}
use Rattle.flat_model.specs.Setting.{Setting}
use Rattle.flat_model.specs.Uses.{Use}
use Rattle.moment_theory.specs.Division.{joined}
use Rattle.moment_theory.specs.Free.{IsReachedBy, IsOrdered}
use Rattle.moment_theory.specs.Pieces.{AreBeside}
use Rattle.moment_theory.specs.Taken.{AreTaken}
use Rattle.moment_theory.proofs.Apart.{append_taken}
use Rattle.moment_theory.proofs.Beside.{regroup}
use Rattle.moment_theory.proofs.Members.{IsMember, contains_member}
use Rattle.moment_theory.proofs.Pieces.{pieces_beside}
use Rattle.moment_theory.proofs.Turns.{DoAlike, in_its_piece}
use Rattle.first_failure.proofs.Turning.{member_back, member_front}
use Rattle.moment_join.specs.Staged.{AreStagesOf, IsStaged}
use Rattle.moment_join.proofs.Alike.{front_alike, through}
use Rattle.moment_join.proofs.Fronts.{taken_behind, reached_or, reached_piece}

pub piece_within : (pieces : List (List Use)) (i : ℕ) (piece : List Use) → slice_get pieces i ≡ Some piece → (entry : Use) → IsMember entry piece → IsMember entry (joined pieces)
piece_within [] i piece found entry member = absurd (none-some piece found)
piece_within (first ∷ pieces) zero piece found entry member = member_front first (joined pieces) entry (subst (IsMember entry) (sym (same_Some first piece found)) member)
piece_within (first ∷ pieces) (suc i) piece found entry member = member_back first (joined pieces) entry (piece_within pieces i piece found entry member)

module _ (s : Setting) (uses pure : List Use) (pieces : List (List Use)) (waiting : List Use) (is : AreStagesOf s uses pure pieces waiting) (S : Assignment) (m : ℕ)
    (inputs base : Row) (owns : ℕ → Row) (row last : Row) (staged : IsStaged s S m pure pieces waiting inputs base owns row last) where
  beside_all : (r : Row) × AreTaken s S m (pure ++ joined pieces) inputs r × AreBeside base owns pieces r
  beside_all = pieces_beside s uses pure waiting pieces is.ordered is.apart S m inputs base staged.are staged.first owns staged.alone

  same_row : (y : ℕ) → beside_all.0 y ≡ row y
  same_row y = elim (reached_or (joined pieces) y) [
    | inl reached ↦ let (i, piece, found, own) = reached_piece pieces y reached in beside_all.2.own i piece y found own ∙ sym (staged.beside.own i piece y found own)
    | inr none ↦ beside_all.2.rest y none ∙ sym (staged.beside.rest y none)
  ]

  pub together : AreTaken s S m (pure ++ joined pieces) inputs row
  together = subst (AreTaken s S m (pure ++ joined pieces) inputs) (fun_ext same_row) beside_all.1

  pub all_taken : AreTaken s S m (pure ++ (joined pieces ++ waiting)) inputs last
  all_taken = subst (λ us. AreTaken s S m us inputs last) (regroup pure (joined pieces) waiting) (append_taken s S m (pure ++ joined pieces) waiting inputs row last together staged.behind)

  -- the uses behind the pure ones
  pub behind_pure : AreTaken s S m (joined pieces ++ waiting) base last
  behind_pure = taken_behind s S m pure (joined pieces ++ waiting) inputs base last all_taken staged.first

  ordered : IsOrdered s uses ((pure ++ joined pieces) ++ waiting)
  ordered = subst (IsOrdered s uses) (sym (regroup pure (joined pieces) waiting)) is.ordered

  -- a pure use does over what the pure ones left what it does over the last row
  pub pure_alike : (entry : Use) → IsMember entry pure → DoAlike s uses S m entry base last
  pure_alike entry member = front_alike s uses pure (joined pieces ++ waiting) is.ordered S m inputs base last staged.are staged.first behind_pure entry member

  -- and a use of a piece over the row of its piece
  pub piece_alike : (i : ℕ) (piece : List Use) → slice_get pieces i ≡ Some piece → (entry : Use) → Contains piece entry → DoAlike s uses S m entry (owns i) last
  piece_alike i piece found entry used =
      let own = in_its_piece s uses pure waiting pieces is.ordered is.apart S m inputs base staged.are staged.first owns staged.alone row together staged.beside i piece found entry used in
      let rest = front_alike s uses (pure ++ joined pieces) waiting ordered S m inputs row last staged.are together staged.behind entry
      (member_back pure (joined pieces) entry (piece_within pieces i piece found entry (contains_member entry piece used))) in (
        through s uses S m entry (owns i) row last own.0 rest.0,
        through s uses S m entry last row (owns i) rest.1 own.1,
      )
