-- Values that come back from the words into the cells of names.
use Rattle.std.specs.Prelude.{◌≡◌, ℕ, Bool, true, false, not, ℤ, pos, List, length, map, Option, Some, None, option_map, slice_get}
use Rattle.std.specs.Ordering.{int_eq}
use Rattle.sync_values.specs.declared.value.Value.{Value}
use Rattle.sync_values.specs.declared.value.Value.TheVariants as value
use Rattle.step_code.specs.Machine.{word_at}
use Rattle.part_stretches.specs.Running.{tick_in}
use Rattle.tree_step.specs.declared.cell.Cell.{Cell}
use Rattle.tree_step.specs.declared.frame.ClockNow.{ClockNow}
use Rattle.tree_step.specs.declared.taking.Entry.{Entry}
use Rattle.part_code.specs.declared.coded.Landing.{Landing}

-- which clocks tick, by their places
abbrev pub ticking_of : List ClockNow → List Bool
ticking_of clocks = map (λ clock. clock.ticks) clocks

-- the value of a word
abbrev pub value_from : Bool → ℤ → Value
value_from true word = value.Bool (not (int_eq word (pos 0)))
value_from false word = value.Int word

-- the value of a use, where its clock ticks
abbrev pub value_by : Bool → Option Landing → List ℤ → Option Value
value_by true (Some landing) words = Some (value_from landing.boolean (word_at words landing.cell))
value_by true None words = None
value_by false landing words = None

abbrev pub value_in_place : List ClockNow → Option Entry → Option Landing → List ℤ → Option Value
value_in_place clocks None landing words = None
value_in_place clocks (Some entry) landing words = value_by (tick_in (ticking_of clocks) entry.clock) landing words

abbrev pub value_of : List ClockNow → List Entry → List Landing → List ℤ → ℕ → Option Value
value_of clocks entries landings words i = value_in_place clocks (slice_get entries i) (slice_get landings i) words

-- a cell with a value, where there is one
abbrev pub with_value : Option Value → Cell → Cell
with_value None cell = cell
with_value (Some v) cell = record { name = cell.name; kept = cell.kept; standing = cell.standing; now = Some v }

-- each cell got the value of the use in its place
pub record AreLanded (clocks : List ClockNow) (entries : List Entry) (landings : List Landing) (words : List ℤ) (old new : List Cell) : Type 0 where
  pub size : length new ≡ length old
  pub each : (i : ℕ) → slice_get new i ≡ option_map (with_value (value_of clocks entries landings words i)) (slice_get old i)
