-- Factors that are to be inferred.
use Rattle.std.specs.Prelude.{ℕ, zero, Bool, List, [], option_map}
use Rattle.flat_model.specs.declared.clock.Conversion.{Conversion}
use Rattle.flat_model.specs.declared.clock.Conversion.TheVariants.{Sub, Super}
use Rattle.clock_terms.specs.declared.data.Grid.{Grid}
use Rattle.clock_terms.specs.declared.data.Relation.{Relation}
use Rattle.clock_terms.specs.Position.{progression_of_grid}
use Rattle.clock_terms.specs.Clocking.{Held, RelationHolds}
use Rattle.clock_spread.specs.Turn.{said_by}
use Rattle.clock_check.specs.private.Numbering.{grid_at}

-- the factor is to be inferred
abbrev pub IsInferred : Conversion → Type 0
IsInferred (Sub zero) = Unit {0}
IsInferred (Super zero) = Unit {0}
IsInferred _ = ⊥

-- the clocks of the classes
abbrev pub held_at : List Bool → List Grid → Held
held_at clocked grids c = option_map progression_of_grid (grid_at clocked grids c)

-- the relation has a factor that is to be inferred, and does not hold
abbrev pub FailsInferred : List ℕ → List Bool → List Grid → Relation → Type 0
FailsInferred class_of clocked grids relation = IsInferred relation.by × (RelationHolds (said_by class_of [] []) (held_at clocked grids) relation → ⊥)
