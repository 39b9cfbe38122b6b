-- The least number of some kind.
use Rattle.std.specs.Prelude.{ℕ, ◌<◌}

-- n is such a number, and none below it is
abbrev pub IsLeast : (ℕ → Type 0) → ℕ → Type 0
IsLeast Is n = Is n × ((m : ℕ) → m < n → Is m → ⊥)
