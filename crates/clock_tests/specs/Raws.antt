-- Clauses and the equations in them.
use Rattle.std.specs.Prelude.{◌≡◌, ℕ, ◌≤◌, ◌<◌, All, List, Some, length, slice_get}
use Rattle.flat_model.specs.declared.raw.RawEq.{RawEq}
use Rattle.flat_model.specs.RawModels.{HasClauseBelow}

-- an equation stands in clause k
abbrev pub HasEquation : List RawEq → ℕ → Type 0
HasEquation equations k = (i : ℕ) × (equation : RawEq) × (slice_get equations i ≡ Some equation) × (equation.clause ≡ Some k)

-- not too many equations, each in no clause or in one of so many, of which each has an equation
pub record AreWhole (equations : List RawEq) (clauses : ℕ) : Type 0 where
  pub few : length equations ≤ 65536
  pub below : All (HasClauseBelow clauses) equations
  pub used : (k : ℕ) → k < clauses → HasEquation equations k
