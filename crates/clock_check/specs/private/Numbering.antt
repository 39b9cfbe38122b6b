-- Classes and their numbers among the clocked ones.
use Rattle.std.specs.Prelude.{◌≡◌, ℕ, Bool, false, List, length, take, Option, Some, None, slice_get, slice_index_or, count_by, if◌then◌else◌}
use Rattle.clock_terms.specs.declared.data.Grid.{Grid}

-- the number of a class among the clocked ones; none where it is unclocked
abbrev pub number_at : List Bool → ℕ → Option ℕ
number_at clocked c = if slice_index_or clocked c false then Some (count_by (λ b. b) (take c clocked)) else None

-- the grid of a class
abbrev pub grid_at : List Bool → List Grid → ℕ → Option Grid
grid_at clocked grids c = if slice_index_or clocked c false then slice_get grids (count_by (λ b. b) (take c clocked)) else None

-- the number of each class
pub record AreNumbers (clocked : List Bool) (numbers : List (Option ℕ)) : Type 0 where
  pub same_length : length numbers ≡ length clocked
  pub each : (c : ℕ) → slice_index_or numbers c None ≡ number_at clocked c
