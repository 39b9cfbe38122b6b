-- The groups of the units of work of a moment, given to shares. This project's own.
use Rattle.std.specs.Prelude.{◌≡◌, ℕ, ◌+◌, ◌<◌, List, map, take, drop, Some, slice_get}
use Rattle.std.specs.List.{range_with_len}
use Rattle.flat_model.specs.Setting.{Setting}
use Rattle.flat_model.specs.Uses.{Use}
use Rattle.moment_order.specs.declared.stage.Stage.{Stage}
use Rattle.moment_order.specs.declared.stage.Stage.TheVariants.{Partition, Waiting}
use Rattle.moment_order.specs.Stages.{uses_at, parts_at}
use Rattle.share_join.specs.Dealing.{dealt, Deal, dealt_shares}
use Rattle.share_join.specs.Shares.{Share, AreSharesOf}
use Rattle.share_moments.specs.Sharing.{AreShares, division_at}
use Rattle.share_run.specs.Shares.{IsShareOf}

-- the share of each unit is that of its group: of each of so many base partitions, and of each use that waits for a clock
abbrev pub group_deal : (ℕ → ℕ) → ℕ → ℕ → List ℕ → Deal
group_deal share_of number count groups = record { count = number; pieces = map share_of (take count groups); waiting = map share_of (drop count groups) }

-- so many shares, each with the uses of its base partitions, in the order of these, and with those of its uses that wait, in their order
abbrev pub shares_of_groups : (ℕ → ℕ) → ℕ → ℕ → List Stage → List Use → List ℕ → List Share
shares_of_groups share_of number count stages uses groups = dealt_shares (group_deal share_of number count groups) (parts_at stages uses 0 count) (uses_at Waiting stages uses)

-- each group is given to one of so many shares
abbrev pub AreGiven : (ℕ → ℕ) → ℕ → List ℕ → Type 0
AreGiven share_of number groups = (a group : ℕ) → slice_get groups a ≡ Some group → share_of group < number

-- the group of a unit is given to share k
abbrev pub IsGivenTo : (ℕ → ℕ) → List ℕ → ℕ → ℕ → Type 0
IsGivenTo share_of groups k unit = (group : ℕ) × (slice_get groups unit ≡ Some group) × (share_of group ≡ k)

-- the base partitions of share k, in their order
abbrev pub partitions_of : (ℕ → ℕ) → ℕ → List ℕ → ℕ → List ℕ
partitions_of share_of count groups k = dealt k (map share_of (take count groups)) (range_with_len 0 count)

-- share k has the uses of just those base partitions, and just those uses that wait, whose group is given to it
pub record HasItsGroups (share_of : ℕ → ℕ) (count : ℕ) (stages : List Stage) (uses : List Use) (groups : List ℕ) (k : ℕ) (share : Share) : Type 0 where
  pub pieces_are : share.pieces ≡ map (λ p. uses_at (Partition p) stages uses) (partitions_of share_of count groups k)
  pub given : (j p : ℕ) → slice_get (partitions_of share_of count groups k) j ≡ Some p → (p < count) × IsGivenTo share_of groups k p
  pub all : (p : ℕ) → p < count → IsGivenTo share_of groups k p → (j : ℕ) × (slice_get (partitions_of share_of count groups k) j ≡ Some p)
  pub waiting_given : (j : ℕ) (entry : Use) → slice_get share.waiting j ≡ Some entry → (i : ℕ) × (slice_get (uses_at Waiting stages uses) i ≡ Some entry) × IsGivenTo share_of groups k (count + i)
  pub waiting_all : (i : ℕ) (entry : Use) → slice_get (uses_at Waiting stages uses) i ≡ Some entry → IsGivenTo share_of groups k (count + i) → (j : ℕ) × (slice_get share.waiting j ≡ Some entry)

-- shares of which none names what another reaches: they may run side by side, and each by itself beside all others
pub record MayRunApart (s : Setting) (uses pure : List Use) (shares : List Share) : Type 0 where
  pub apart : AreShares s uses pure shares
  pub beside : AreSharesOf s uses pure shares
  pub alone : (i : ℕ) (share : Share) → slice_get shares i ≡ Some share → IsShareOf s uses (division_at pure shares i share)
