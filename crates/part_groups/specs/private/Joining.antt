-- Which units need one another, as they are found.
use Rattle.std.specs.Prelude.{◌≡◌, ℕ, ◌<◌, List, [], ◌∷◌, Option, Some, None, flat_map, slice_get, Contains}
use Rattle.eq_order.specs.declared.uses.Use as answered
use Rattle.flat_model.specs.declared.equation.Equation.{Equation}
use Rattle.flat_model.specs.Setting.{flattened}
use Rattle.mo_connect.specs.declared.Pair.{Pair}
use Rattle.part_groups.specs.private.Asking.{names_at}

abbrev pub pair_with : ℕ → Option ℕ → List Pair
pair_with unit None = []
pair_with unit (Some other) = record { a = unit; b = other } ∷ []

-- a unit with those that own names
abbrev pub pairs_of : List (Option ℕ) → ℕ → List ℕ → List Pair
pairs_of owners unit names = flat_map (λ x. pair_with unit (flattened (slice_get owners x))) names

-- the unit of a use with those that own what its equation asks for
abbrev pub pairs_for : List Equation → List (Option ℕ) → Option ℕ → answered.Use → List Pair
pairs_for equations owners None entry = []
pairs_for equations owners (Some unit) entry = pairs_of owners unit (names_at (slice_get equations entry.equation))

-- the pair is one of use i
pub record IsPairOf (equations : List Equation) (owners : List (Option ℕ)) (order : List answered.Use) (units : List (Option ℕ)) (i : ℕ) (pair : Pair) : Type 0 where
  pub entry : answered.Use
  pub found : slice_get order i ≡ Some entry
  pub among : Contains (pairs_for equations owners (flattened (slice_get units i)) entry) pair

-- the pairs are those of the first uses
pub record ArePairs (equations : List Equation) (owners : List (Option ℕ)) (order : List answered.Use) (units : List (Option ℕ)) (bound : ℕ) (pairs : List Pair) : Type 0 where
  pub just : (pair : Pair) → Contains pairs pair → (i : ℕ) × (i < bound) × IsPairOf equations owners order units i pair
  pub whole : (i : ℕ) (pair : Pair) → i < bound → IsPairOf equations owners order units i pair → Contains pairs pair
