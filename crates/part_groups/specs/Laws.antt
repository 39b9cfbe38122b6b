-- Laws of groups.
use Rattle.std.specs.Prelude.{◌≡◌, ◌↔◌, ℕ, ◌+◌, ◌<◌, List, Some, slice_get, Contains}
use Rattle.flat_model.specs.declared.equation.Equation.{Equation}
use Rattle.flat_model.specs.Setting.{Setting}
use Rattle.flat_model.specs.Uses.{Use, AreUses}
use Rattle.moment_order.specs.declared.stage.Stage.{Stage}
use Rattle.moment_order.specs.declared.stage.Stage.TheVariants.{Partition, Waiting}
use Rattle.moment_order.specs.Stages.{uses_at}
use Rattle.part_groups.specs.Groups.{AreGroups, AreJoined}
use Rattle.part_groups.specs.Units.{unit_of, AreDistinct}

-- two units are of one group exactly where a chain of needs joins them
abbrev pub GroupLaw : Type 0
GroupLaw = (equations : List Equation) (count : ℕ) (stages : List Stage) (uses : List Use) (groups : List ℕ) → AreGroups equations count stages uses groups
    → (a b f g : ℕ) → slice_get groups a ≡ Some f → slice_get groups b ≡ Some g → f ≡ g ↔ AreJoined equations count stages uses a b

-- units have one grouping
abbrev pub OneGroupingLaw : Type 0
OneGroupingLaw = (equations : List Equation) (count : ℕ) (stages : List Stage) (uses : List Use) (one other : List ℕ) → AreGroups equations count stages uses one → AreGroups equations count stages uses other → one ≡ other

-- a use that stands in its list, with its unit
abbrev pub IsOfUnit : ℕ → List Stage → List Use → Use → ℕ → Type 0
IsOfUnit count stages uses entry a = (i : ℕ) × (slice_get uses i ≡ Some entry) × (unit_of count stages i ≡ Some a)

-- the uses of base partition k are of unit k, and use number j of those that wait is of unit j behind the base partitions
abbrev pub UnitLaw : Type 0
UnitLaw = (count : ℕ) (stages : List Stage) (uses : List Use)
    → ((k : ℕ) (entry : Use) → k < count → Contains (uses_at (Partition k) stages uses) entry → IsOfUnit count stages uses entry k)
    × ((j : ℕ) (entry : Use) → slice_get (uses_at Waiting stages uses) j ≡ Some entry → IsOfUnit count stages uses entry (count + j))

-- the uses of a setting reach each a name of its own
abbrev pub DistinctLaw : Type 0
DistinctLaw = (s : Setting) (uses : List Use) → AreUses s uses → AreDistinct s.model uses
