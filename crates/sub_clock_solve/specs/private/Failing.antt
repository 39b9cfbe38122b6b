-- Constructors and relations that do not hold, in the classes of names and nodes.
use Rattle.std.specs.Prelude.{ℕ, List, [], Option, Some, None}
use Rattle.clock_terms.specs.declared.data.Grid.{Grid}
use Rattle.clock_terms.specs.declared.data.Relation.{Relation}
use Rattle.clock_terms.specs.Asked.{IsGiven}
use Rattle.clock_terms.specs.Source.{Source}
use Rattle.clock_terms.specs.Clocking.{Held, SourceHolds, RelationHolds}
use Rattle.clock_spread.specs.declared.offers.Found.{Found}
use Rattle.clock_spread.specs.declared.offers.Found.TheVariants.{Kept}
use Rattle.clock_spread.specs.Turn.{said_by}

abbrev pub Differs : List ℕ → Held → Source → Type 0
Differs class_of held source = SourceHolds (said_by class_of [] []) held source → ⊥

abbrev pub FailsGiven : List ℕ → Held → Relation → Type 0
FailsGiven class_of held relation = IsGiven relation.by × (RelationHolds (said_by class_of [] []) held relation → ⊥)

-- the clock that is kept
abbrev pub kept_grid : Found → Option Grid
kept_grid (Kept g) = Some g
kept_grid _ = None
