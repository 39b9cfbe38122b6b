-- The equations of connection sets. MLS 3.6, chapter 9, "Generation of Connection Equations", in this project's profile.
use Rattle.std.specs.Prelude.{◌≡◌, ℕ, List, [], ◌∷◌, map, flat_map, None}
use Rattle.mo_connect.specs.Classes.{AreClasses}
use Rattle.mo_connect.specs.declared.Pair.{Pair}
use Rattle.flat_model.specs.declared.raw.RawExpr.TheVariants as raw
use Rattle.flat_model.specs.declared.raw.RawEq.{RawEq}

-- first = other, in no clause
abbrev pub equal : ℕ → ℕ → RawEq
equal first other = record { left = raw.Name first; right = raw.Name other; clause = None }

-- the first member of a set with each other one
abbrev pub equations_of_set : List ℕ → List RawEq
equations_of_set [] = []
equations_of_set (first ∷ others) = map (equal first) others

-- the equations are those of the connection sets, the classes of the names below the count that the pairs join
pub record AreEquations (count : ℕ) (pairs : List Pair) (equations : List RawEq) : Type 0 where
  pub sets : List (List ℕ)
  pub classes : AreClasses count pairs sets
  pub are : equations ≡ flat_map equations_of_set sets
