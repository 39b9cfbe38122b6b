-- How many equations connections have.
use Rattle.std.specs.Prelude.{ℕ, ◌≤◌, List, length}
use Rattle.mo_connect.specs.declared.Pair.{Pair}
use Rattle.flat_model.specs.declared.raw.RawEq.{RawEq}
use Rattle.connection_equations.specs.Sets.{AreEquations}

-- at most as many as there are pairs
abbrev pub CountLaw : Type 0
CountLaw = (count : ℕ) (pairs : List Pair) (equations : List RawEq) → AreEquations count pairs equations → length equations ≤ length pairs
