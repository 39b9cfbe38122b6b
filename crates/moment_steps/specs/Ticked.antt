-- Which classes tick, as a row tells it. This project's own.
use Rattle.std.specs.Prelude.{ℕ, Bool, false, List, slice_get, unwrap_or}

-- a class without a place in the row does not tick
abbrev pub row_ticks : List Bool → ℕ → Bool
row_ticks row class = unwrap_or (slice_get row class) false
