-- The places of broken rules as they are told.
use Rattle.std.specs.Prelude.{ℕ, ◌+◌, ◌==◌, List, [], take, fold, Option, Some, None, if◌then◌else◌}
use Rattle.flat_model.specs.declared.place.Place.{Place}
use Rattle.flat_model.specs.declared.place.Place.TheVariants.{At, Name}
use Rattle.flat_instances.specs.Instances.{Variable}

-- a line and a column of a text, both from 1
pub record Spot : Type 0 where
  pub line : ℕ
  pub column : ℕ

abbrev pub first_spot : Spot
first_spot = record { line = 1; column = 1 }

-- the spot behind a byte: a line feed ends its line, and every other byte is a column
abbrev pub spot_behind : Spot → ℕ → Spot
spot_behind spot byte = if byte == 10 then record { line = spot.line + 1; column = 1 } else record { line = spot.line; column = spot.column + 1 }

-- the spot of a byte of the text
abbrev pub spot_at : List ℕ → ℕ → Spot
spot_at text at = fold spot_behind first_spot (take at text)

abbrev pub place_at : List ℕ → ℕ → Place
place_at text at = At (spot_at text at).line (spot_at text at).column

-- the flat name of a variable
abbrev pub name_of : Option Variable → Place
name_of (Some v) = Name v.name
name_of None = Name []
