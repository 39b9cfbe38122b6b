-- Common multiples.
use Rattle.std.specs.Prelude.{ℕ, ◌<◌, List, [], ◌∷◌, ⊤}
use Rattle.std.specs.Int.{◌∣◌}

-- m is the least common multiple of a and b: a multiple of both that divides each other one
pub record IsLcm (a b m : ℕ) : Type 0 where
  pub first : a ∣ m
  pub second : b ∣ m
  pub least : (n : ℕ) → a ∣ n → b ∣ n → m ∣ n

-- each of the numbers divides m
abbrev pub AllDivide : List ℕ → ℕ → Type 0
AllDivide [] m = ⊤
AllDivide (n ∷ ns) m = (n ∣ m) × AllDivide ns m

-- the numbers have a common multiple above 0 and below the limit
pub record HasMultipleBelow (limit : ℕ) (numbers : List ℕ) : Type 0 where
  pub multiple : ℕ
  pub positive : 0 < multiple
  pub below : multiple < limit
  pub divided : AllDivide numbers multiple
