-- What is answered for the clocks of a model: its clocking, or the first rule that is broken.
use Rattle.std.specs.Prelude.{◌≡◌, ℕ, List, Option, Some, None, Result, Ok, Err, slice_get, option_map, ⊤, if◌then◌else◌}
use Rattle.flat_model.specs.declared.clock.Clocking.{Clocking}
use Rattle.flat_model.specs.declared.model.FlatModel.{FlatModel}
use Rattle.clock_terms.specs.declared.data.Terms.{Terms}
use Rattle.clock_terms.specs.declared.data.Classes.{Classes}
use Rattle.clock_terms.specs.declared.data.Grid.{Grid}
use Rattle.clock_terms.specs.declared.data.Cause.TheVariants.{Condition}
use Rattle.clock_terms.specs.Position.{progression_of_grid}
use Rattle.clock_terms.specs.Clocking.{Held, RelationHolds}
use Rattle.clock_terms.specs.Classing.{class_in, is_clocked}
use Rattle.clock_terms.specs.Nodes.{Node}
use Rattle.clock_terms.specs.Said.{IsNode, numbered, IsHolding}
use Rattle.clock_terms.specs.Least.{IsLeast}
use Rattle.clock_spread.specs.Least.{IsNumberIn}
use Rattle.sub_clock_solve.specs.Solving.{said_of, place_of}
use Rattle.clock_check.specs.Inferring.{IsInferred}
use Rattle.clock_check.specs.Broken.{StartsEarly, HasNoWholeShift, HasNoWholeFactor}
use Rattle.clock_check.specs.ClockingOf.{IsClockingOf}
use Rattle.clock_check.specs.declared.kinds.CheckEnd.{CheckEnd}
use Rattle.clock_check.specs.declared.kinds.CheckEnd.TheVariants.{Factor, EarlyStart, NotOnEvent, EventFactor, HoldInCondition, NoMemory}

-- the grid of a clocked class
abbrev pub grid_of : Classes → List Grid → ℕ → Option Grid
grid_of classes grids c = if is_clocked classes c then slice_get grids (place_of classes c) else None

-- the clocks of the classes
abbrev pub held_by : Classes → List Grid → Held
held_by classes grids c = option_map progression_of_grid (grid_of classes grids c)

-- C5: a relation of this equation with an inferred factor does not hold: no whole factor does, or the starts differ
abbrev pub HasNoFactor : Terms → Classes → List Grid → ℕ → Type 0
HasNoFactor terms classes grids =
    IsNumberIn (λ relation. relation.equation) (λ relation. IsInferred relation.by × (RelationHolds (said_of terms classes) (held_by classes grids) relation → ⊥)) terms.relations

abbrev pub IsGridWith : (Grid → Type 0) → Classes → List Grid → ℕ → Type 0
IsGridWith P classes grids c = (g : Grid) × (grid_of classes grids c ≡ Some g) × P g

-- C10: in the class of an event condition of this equation stands a node with `hold`
abbrev pub HoldsInCondition : FlatModel → Classes → ℕ → Type 0
HoldsInCondition model classes e =
    (j : ℕ) × (node : Node) × IsNode model j node × (node.equation ≡ e) × (node.cause ≡ Some Condition)
    × ((a : ℕ) × IsHolding model a × (class_in classes a ≡ class_in classes (numbered model j)))

abbrev pub IsNowhere : (ℕ → Type 0) → Type 0
IsNowhere P = (n : ℕ) → P n → ⊥

-- the rules in their order, as far as they are not broken
abbrev pub HaveFactors : Terms → Classes → List Grid → Type 0
HaveFactors terms classes grids = IsNowhere (HasNoFactor terms classes grids)

abbrev pub StartInTime : Terms → Classes → List Grid → Type 0
StartInTime terms classes grids = HaveFactors terms classes grids × IsNowhere (IsGridWith StartsEarly classes grids)

abbrev pub AreShiftsWhole : Terms → Classes → List Grid → Type 0
AreShiftsWhole terms classes grids = StartInTime terms classes grids × IsNowhere (IsGridWith HasNoWholeShift classes grids)

abbrev pub AreFactorsWhole : Terms → Classes → List Grid → Type 0
AreFactorsWhole terms classes grids = AreShiftsWhole terms classes grids × IsNowhere (IsGridWith HasNoWholeFactor classes grids)

-- no rule is broken
abbrev pub MeetsAll : FlatModel → Terms → Classes → List Grid → Type 0
MeetsAll model terms classes grids = AreFactorsWhole terms classes grids × IsNowhere (HoldsInCondition model classes)

-- the first rule of relations and single clocks that is broken
abbrev pub BreaksRule : Terms → Classes → List Grid → CheckEnd → Type 0
BreaksRule terms classes grids (Factor e) = IsLeast (HasNoFactor terms classes grids) e
BreaksRule terms classes grids (EarlyStart c) = HaveFactors terms classes grids × IsLeast (IsGridWith StartsEarly classes grids) c
BreaksRule terms classes grids (NotOnEvent c) = StartInTime terms classes grids × IsLeast (IsGridWith HasNoWholeShift classes grids) c
BreaksRule terms classes grids (EventFactor c) = AreShiftsWhole terms classes grids × IsLeast (IsGridWith HasNoWholeFactor classes grids) c
BreaksRule terms classes grids (HoldInCondition e) = ⊥
BreaksRule terms classes grids NoMemory = ⊥

-- the answer
abbrev pub Checks : FlatModel → Terms → Classes → List Grid → Result Clocking CheckEnd → Type 0
Checks model terms classes grids (Ok clocking) = MeetsAll model terms classes grids × IsClockingOf model terms classes clocking
Checks model terms classes grids (Err (HoldInCondition e)) = AreFactorsWhole terms classes grids × IsLeast (HoldsInCondition model classes) e
Checks model terms classes grids (Err NoMemory) = ⊤
Checks model terms classes grids (Err end) = BreaksRule terms classes grids end
