-- Shares of a setting that take moments by themselves. This project's own.
use Rattle.std.specs.Prelude.{◌≡◌, ◌≢◌, ℕ, List, map, Option, Some, slice_get}
use Rattle.first_failure.specs.declared.least.EquationFailing.{EquationFailing}
use Rattle.flat_model.specs.Assignment.{Assignment}
use Rattle.flat_model.specs.Setting.{Setting}
use Rattle.flat_model.specs.Uses.{Use}
use Rattle.fork_steps.specs.declared.slot.Slot.{Slot}
use Rattle.moment_join.specs.Sites.{ReachSites}
use Rattle.moment_join.specs.Staged.{AreStagesOf}
use Rattle.moment_steps.specs.declared.piece.Piece.{Piece}
use Rattle.share_join.specs.Shares.{Share, own_uses, all_pieces, all_waiting, others_of, all_uses}
use Rattle.share_run.specs.Shares.{Division, AskNothingOf}
use Rattle.share_run.specs.Standing.{Holding, pieces_of}
use Rattle.share_run.specs.Taking.{Values, Plan, HasTakenShare}
use Rattle.tree_step.specs.Starts.{uses_of}

-- the uses of what a share has
abbrev pub share_of : Holding → Share
share_of h = record { pieces = pieces_of h; waiting = uses_of h.waiting }

-- no share names, at a moment or before it, what another reaches
abbrev pub AskApart : Setting → List Share → Type 0
AskApart s shares = (i j : ℕ) (share other : Share) → i ≢ j → slice_get shares i ≡ Some share → slice_get shares j ≡ Some other → AskNothingOf s (own_uses share) (own_uses other)

-- behind the pure uses, all pieces and then all waiting uses are the stages of a moment, and no share names what another reaches
pub record AreShares (s : Setting) (uses pure : List Use) (shares : List Share) : Type 0 where
  pub staged : AreStagesOf s uses pure (all_pieces shares) (all_waiting shares)
  pub reach : ReachSites s pure
  pub asks : AskApart s shares

-- all uses but the pure ones and those of the share of this number
abbrev pub uses_beside : ℕ → List Share → List Use
uses_beside i shares = all_uses (others_of i shares)

-- how that share divides the uses
abbrev pub division_at : List Use → List Share → ℕ → Share → Division
division_at pure shares i share = record { pure = pure; pieces = share.pieces; waiting = share.waiting; others = uses_beside i shares }

-- each share took the moment by itself, and told its failure
pub record TookEach (s : Setting) (uses : List Use) (U : Assignment) (m : ℕ) (plan : Plan) (base : Values) (holdings : List Holding) (lasts : ℕ → Values) (tolds : List (Option EquationFailing)) : Type 0 where
  pub each : (i : ℕ) (h : Holding) → slice_get holdings i ≡ Some h
      → (told : Option EquationFailing) × (slots : List (Slot Piece)) × (slice_get tolds i ≡ Some told) × HasTakenShare h slots plan base (lasts i) told s uses (uses_beside i (map share_of holdings)) U m
  pub no_more : (i : ℕ) (told : Option EquationFailing) → slice_get tolds i ≡ Some told → (h : Holding) × (slice_get holdings i ≡ Some h)
