-- When a use gives again what it gave at the moment before.
use Rattle.std.specs.Prelude.{◌≡◌, ◌≢◌, ℕ, List, Option, Some, None, Ok, All}
use Rattle.sync_values.specs.declared.value.Value.{Value}
use Rattle.flat_model.specs.Values.{value_in}
use Rattle.tree_step.specs.declared.cell.Cell.{Cell}
use Rattle.tree_step.specs.declared.cell.Standing.TheVariants.{Rests}
use Rattle.tree_step.specs.declared.changed.Reads.{Reads}
use Rattle.tree_step.specs.declared.taking.Entry.{Entry}
use Rattle.tree_step.specs.Cells.{cell_in}
use Rattle.tree_step.specs.Frames.{now_in}
use Rattle.tree_step.specs.Starts.{Sight}
use Rattle.tree_step.specs.private.Taking.{SolvesBy}

-- a name, if it is not the equation's own, has the value that it had at the moment before
abbrev pub IsSame : Sight → List Cell → ℕ → ℕ → Type 0
IsSame sight cells own y = y ≢ own → (v : Value) × (now_in (cell_in sight.places cells y) ≡ Some v) × (value_in sight.left.now y ≡ Some v)

-- the clock of a name is known to rest
abbrev pub IsResting : Sight → List Cell → ℕ → Type 0
IsResting sight cells z = (cell : Cell) × (cell_in sight.places cells z ≡ Some cell) × (cell.standing ≡ Rests)

-- nothing changed that an equation reads
abbrev pub AreUnchanged : Sight → List Cell → ℕ → Reads → Type 0
AreUnchanged sight cells own reads = All (IsSame sight cells own) reads.bare × All (IsResting sight cells) reads.held

-- a value that is told is that of the moment before, and nothing changed
abbrev pub IsAgain : Sight → List Cell → ℕ → Reads → Option Value → Type 0
IsAgain sight cells own reads None = Unit {0}
IsAgain sight cells own reads (Some v) = AreUnchanged sight cells own reads × (value_in sight.left.now own ≡ Some v)

-- where nothing changed, a use gives the value of the moment before
abbrev pub GivesAgain : Sight → List Cell → Entry → Reads → Type 0
GivesAgain sight cells entry reads = (v : Value) → AreUnchanged sight cells entry.name reads → value_in sight.left.now entry.name ≡ Some v → SolvesBy sight cells entry (Ok v)
