-- Names of which each has a letter more than the one before it.
use Rattle.std.specs.Prelude.{◌≡◌, ℕ, ◌+◌, ◌<◌, ◌≤◌, List, length, get_or}
use Rattle.flat_model.specs.declared.model.FlatName.{FlatName}
use Rattle.flat_model.specs.Models.{IsName}

-- the names have one letter, two letters and so on
pub record AreLonger (names : List FlatName) : Type 0 where
  pub few : length names ≤ 1000
  pub each : (k : ℕ) (d : FlatName) → k < length names → IsName (get_or names k d) × (length (get_or names k d).text ≡ k + 1)
