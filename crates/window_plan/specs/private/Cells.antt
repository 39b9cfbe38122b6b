-- The cells of names that rest on no clock.
use Rattle.std.specs.Prelude.{ℕ, List, Option, Some, None, slice_get, unwrap_or}
use Rattle.sync_values.specs.declared.value.Value.{Value}
use Rattle.flat_model.specs.Values.{value_in}
use Rattle.tree_step.specs.declared.cell.Cell.{Cell}
use Rattle.tree_step.specs.declared.cell.Standing.TheVariants.{Ticks}

-- a cell with the value of the name of this number
abbrev pub shown_by : List ℕ → List (Option Value) → ℕ → Cell → Cell
shown_by numbers now at old = record { name = unwrap_or (slice_get numbers at) old.name; kept = old.kept; standing = Ticks; now = value_in now at }

-- the value of the cell in a place
abbrev pub value_from : Option Cell → Option Value → Option Value
value_from None old = old
value_from (Some cell) old = cell.now

abbrev pub value_by : List Cell → ℕ → Option Value → Option Value
value_by cells at old = value_from (slice_get cells at) old
