-- Groups of the units of work of a moment. This project's own.
use Rattle.std.specs.Prelude.{◌≡◌, ℕ, ◌≤◌, List, length, Some, slice_get}
use Rattle.flat_model.specs.declared.equation.Equation.{Equation}
use Rattle.flat_model.specs.Uses.{Use}
use Rattle.mo_connect.specs.Chain.{Chain}
use Rattle.moment_order.specs.declared.stage.Stage.{Stage}
use Rattle.part_groups.specs.Units.{unit_count, Needs}

-- a chain of needs joins two units
abbrev pub AreJoined : List Equation → ℕ → List Stage → List Use → ℕ → ℕ → Type 0
AreJoined equations count stages uses = Chain (Needs equations count stages uses)

-- each unit has the number of its group: that of the least unit to which a chain of needs joins it
pub record AreGroups (equations : List Equation) (count : ℕ) (stages : List Stage) (uses : List Use) (groups : List ℕ) : Type 0 where
  pub each : length groups ≡ unit_count count stages
  pub joined : (a f : ℕ) → slice_get groups a ≡ Some f → AreJoined equations count stages uses f a
  pub least : (a b f : ℕ) → slice_get groups a ≡ Some f → AreJoined equations count stages uses b a → f ≤ b
