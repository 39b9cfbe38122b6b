-- The uses of a setting as shares that can be run side by side. This project's own.
use Rattle.std.specs.Prelude.{◌≡◌, ◌≢◌, ℕ, zero, suc, List, [], ◌∷◌, ◌++◌, map, Some, slice_get, Contains}
use Rattle.flat_model.specs.Setting.{Setting}
use Rattle.flat_model.specs.Uses.{Use, Reads}
use Rattle.moment_theory.specs.Division.{joined}
use Rattle.moment_theory.specs.Free.{IsReachedBy}
use Rattle.moment_join.specs.Sites.{ReachSites}
use Rattle.moment_join.specs.Staged.{AreStagesOf}

-- a share: pieces, each of which is taken by itself, and unclocked uses that wait for these
pub record Share : Type 0 where
  pub pieces : List (List Use)
  pub waiting : List Use

-- all its uses
abbrev pub own_uses : Share → List Use
own_uses share = joined share.pieces ++ share.waiting

-- the pieces of several shares, share by share
abbrev pub all_pieces : List Share → List (List Use)
all_pieces [] = []
all_pieces (share ∷ shares) = share.pieces ++ all_pieces shares

-- and their waiting uses
abbrev pub all_waiting : List Share → List Use
all_waiting shares = joined (map (λ share. share.waiting) shares)

-- no equation of these uses reads, at the moment itself, a name that the others reach
abbrev pub ReadNothingOf : Setting → List Use → List Use → Type 0
ReadNothingOf s own others = (entry : Use) (y : ℕ) → Contains own entry → Reads s entry.equation y → IsReachedBy y others → ⊥

-- behind the pure uses, all pieces and then all waiting uses are the stages of a moment, and what waits in one share reads nothing of another
pub record AreSharesOf (s : Setting) (uses pure : List Use) (shares : List Share) : Type 0 where
  pub staged : AreStagesOf s uses pure (all_pieces shares) (all_waiting shares)
  pub reach : ReachSites s pure
  pub apart : (i j : ℕ) (share other : Share) → i ≢ j → slice_get shares i ≡ Some share → slice_get shares j ≡ Some other → ReadNothingOf s share.waiting (own_uses other)

-- all shares but the one of this number
abbrev pub others_of : ℕ → List Share → List Share
others_of i [] = []
others_of zero (share ∷ shares) = shares
others_of (suc i) (share ∷ shares) = share ∷ others_of i shares

-- all uses of several shares, share by share
abbrev pub all_uses : List Share → List Use
all_uses shares = joined (map own_uses shares)
