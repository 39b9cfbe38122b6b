-- The cells of all names, before unclocked uses are taken.
use Rattle.std.specs.Prelude.{ℕ, Bool, true, false, List, Option, Some, None, slice_get, unwrap_or, if◌then◌else◌}
use Rattle.sync_values.specs.declared.value.Value.{Value}
use Rattle.flat_model.specs.declared.clock.Clock.{Clock}
use Rattle.flat_model.specs.declared.clock.Clock.TheVariants.{Periodic, Event}
use Rattle.flat_model.specs.declared.clock.Clocking.{Clocking}
use Rattle.flat_model.specs.Values.{value_in}
use Rattle.flat_model.specs.Setting.{flattened}
use Rattle.tree_step.specs.declared.cell.Cell.{Cell}
use Rattle.tree_step.specs.declared.cell.Standing.{Standing}
use Rattle.tree_step.specs.declared.cell.Standing.TheVariants.{Ticks, Rests, Unknown}

-- a cell with the value of the name of this number
abbrev pub opened : List ℕ → List Value → List (Option Value) → Standing → ℕ → Cell → Cell
opened numbers last now standing at old = record { name = unwrap_or (slice_get numbers at) old.name; kept = unwrap_or (slice_get last at) old.kept; standing = standing; now = value_in now at }

abbrev pub opened_by : List ℕ → List Value → List (Option Value) → (ℕ → Standing) → ℕ → Cell → Cell
opened_by numbers last now standings at old = opened numbers last now (standings at) at old

-- how a clock stands that does not tick
abbrev pub resting_by : Option Bool → Standing
resting_by None = Unknown
resting_by (Some b) = Rests

abbrev pub resting : List (Option Bool) → Option Clock → Standing
resting answers None = Rests
resting answers (Some (Periodic period start)) = Rests
resting answers (Some (Event site factor shift)) = resting_by (flattened (slice_get answers site))

-- how the clock of a name stands
abbrev pub standing_by : Clocking → (ℕ → Bool) → List (Option Bool) → Option ℕ → Standing
standing_by clocking ticks answers None = Ticks
standing_by clocking ticks answers (Some class) = if ticks class then Ticks else resting answers (slice_get clocking.clocks class)

abbrev pub standing : Clocking → (ℕ → Bool) → List (Option Bool) → ℕ → Standing
standing clocking ticks answers at = standing_by clocking ticks answers (flattened (slice_get clocking.of_name at))

-- the value of the cell in a place
abbrev pub value_from : Option Cell → Option Value → Option Value
value_from None old = old
value_from (Some cell) old = cell.now

abbrev pub value_by : List Cell → ℕ → Option Value → Option Value
value_by cells at old = value_from (slice_get cells at) old
