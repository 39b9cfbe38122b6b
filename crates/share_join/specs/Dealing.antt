-- The stages of a moment dealt to shares. This project's own.
use Rattle.std.specs.Prelude.{◌≡◌, ◌≢◌, ℕ, zero, suc, ◌<◌, ◌==◌, List, [], ◌∷◌, length, Some, slice_get, if◌then◌else◌}
use Rattle.flat_model.specs.Setting.{Setting}
use Rattle.flat_model.specs.Uses.{Use}
use Rattle.share_join.specs.Shares.{Share, own_uses, ReadNothingOf}

-- what of a list goes to share k, by the number of the share of each
abbrev pub dealt : {A : Type 0} → ℕ → List ℕ → List A → List A
dealt k [] xs = []
dealt k (p ∷ places) [] = []
dealt k (p ∷ places) (x ∷ xs) = if p == k then (x ∷ dealt k places xs) else dealt k places xs

-- the share of each piece and of each waiting use, and how many shares there are
pub record Deal : Type 0 where
  pub count : ℕ
  pub pieces : List ℕ
  pub waiting : List ℕ

-- what goes to share k, in its order
abbrev pub dealt_share : Deal → List (List Use) → List Use → ℕ → Share
dealt_share deal pieces waiting k = record { pieces = dealt k deal.pieces pieces; waiting = dealt k deal.waiting waiting }

-- so many shares, from number k on
abbrev pub shares_from : Deal → List (List Use) → List Use → ℕ → ℕ → List Share
shares_from deal pieces waiting k zero = []
shares_from deal pieces waiting k (suc count) = dealt_share deal pieces waiting k ∷ shares_from deal pieces waiting (suc k) count

abbrev pub dealt_shares : Deal → List (List Use) → List Use → List Share
dealt_shares deal pieces waiting = shares_from deal pieces waiting 0 deal.count

-- each piece and each waiting use goes to one of the shares
pub record IsDealOf (deal : Deal) (pieces : List (List Use)) (waiting : List Use) : Type 0 where
  pub pieces_long : length deal.pieces ≡ length pieces
  pub waiting_long : length deal.waiting ≡ length waiting
  pub pieces_within : (i k : ℕ) → slice_get deal.pieces i ≡ Some k → k < deal.count
  pub waiting_within : (i k : ℕ) → slice_get deal.waiting i ≡ Some k → k < deal.count

-- what waits in one share reads nothing that another reaches
abbrev pub ReadApart : Setting → List Share → Type 0
ReadApart s shares = (i j : ℕ) (share other : Share) → i ≢ j → slice_get shares i ≡ Some share → slice_get shares j ≡ Some other → ReadNothingOf s share.waiting (own_uses other)
