-- Least common denominators.
use Rattle.std.specs.Prelude.{ℕ, ◌+◌, ◌<◌, ◌^◌, List, [], ◌∷◌, ◌++◌, take, Option, Some, None}
use Rattle.std.specs.Int.{◌∣◌}
use Rattle.rational_time.specs.Multiple.{AllDivide, HasMultipleBelow}
use Rattle.clock_terms.specs.declared.data.Grid.{Grid}

-- the denominators of a clock in seconds
abbrev pub own_denominators : Option ℕ → Grid → List ℕ
own_denominators None g = g.period.den ∷ g.start.den ∷ []
own_denominators (Some site) g = []

-- those of several clocks
abbrev pub denominators : List Grid → List ℕ
denominators [] = []
denominators (g ∷ gs) = own_denominators g.site g ++ denominators gs

-- the least common denominator, taken clock by clock, reaches the limit at clock k
abbrev pub IsGrainPast : List Grid → ℕ → Type 0
IsGrainPast grids k = HasMultipleBelow (2 ^ 40) (denominators (take (k + 1) grids)) → ⊥

-- the least common multiple of several numbers
pub record IsGrain (numbers : List ℕ) (m : ℕ) : Type 0 where
  pub positive : 0 < m
  pub divided : AllDivide numbers m
  pub least : (n : ℕ) → AllDivide numbers n → m ∣ n
