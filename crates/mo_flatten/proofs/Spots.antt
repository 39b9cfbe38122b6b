-- Lines and columns, byte by byte.
use Rattle.std.proofs.Common.{ℕ}
use Rattle.flat_answer.specs.Places.{Spot}

abbrev pub spot_of : ℕ → ℕ → Spot
spot_of line column = record { line = line; column = column }
