-- Shares of whole groups. This project's own.
use Rattle.std.specs.Prelude.{◌≡◌, ℕ, List, ◌++◌, Some, slice_get}
use Rattle.share_join.specs.Dealing.{Deal}

-- the share of each unit of work: those of the base partitions, then those of the uses that wait
abbrev pub shares_of_units : Deal → List ℕ
shares_of_units deal = deal.pieces ++ deal.waiting

-- units of one group go to one share
abbrev pub KeepsGroups : List ℕ → Deal → Type 0
KeepsGroups groups deal = (a b group k l : ℕ) → slice_get groups a ≡ Some group → slice_get groups b ≡ Some group → slice_get (shares_of_units deal) a ≡ Some k → slice_get (shares_of_units deal) b ≡ Some l → k ≡ l
