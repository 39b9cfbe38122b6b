-- What is read at a moment while its values are being found.
use Rattle.std.specs.Prelude.{ℕ, zero, suc, Bool, true, false, List, Option, Some, None, slice_get}
use Rattle.sync_values.specs.declared.value.Value.{Value}
use Rattle.flat_model.specs.declared.clock.Elapsed.{Elapsed}
use Rattle.flat_model.specs.declared.clock.Elapsed.TheVariants.{Period, Between}
use Rattle.flat_model.specs.declared.table.Left.{Left}
use Rattle.flat_model.specs.Values.{value_in}
use Rattle.flat_model.specs.Intervals.{length_of}
use Rattle.flat_model.specs.Views.{Length, Views}
use Rattle.tree_step.specs.declared.cell.Cell.{Cell}
use Rattle.tree_step.specs.declared.cell.Standing.{Standing}
use Rattle.tree_step.specs.declared.cell.Standing.TheVariants.{Ticks, Rests, Unknown}
use Rattle.tree_step.specs.declared.frame.ClockNow.{ClockNow}
use Rattle.tree_step.specs.Cells.{cell_in}

-- the value of a name at the moment, by its cell
abbrev pub now_in : Option Cell → Option Value
now_in None = None
now_in (Some cell) = cell.now

-- its last value before the moment
abbrev pub kept_in : Option Cell → Option Value
kept_in None = None
kept_in (Some cell) = Some cell.kept

-- its last value up to the moment
abbrev pub last_by : Standing → Cell → Option Value
last_by Rests cell = Some cell.kept
last_by Ticks cell = cell.now
last_by Unknown cell = cell.now

abbrev pub last_in : Option Cell → Option Value
last_in None = None
last_in (Some cell) = last_by cell.standing cell

-- the interval that is shown: that of a first tick is nothing
abbrev pub shown_elapsed : Bool → Elapsed → Elapsed
shown_elapsed first (Period period) = Period period
shown_elapsed true (Between t u) = Between u u
shown_elapsed false (Between t u) = Between t u

abbrev pub shown_length : Bool → Elapsed → Length
shown_length first (Period period) = length_of (Period period)
shown_length true (Between t u) = record { num = 0; den = 1 }
shown_length false (Between t u) = length_of (Between t u)

-- what an equation can read: by the cells, and at the moment before by the values that were left
abbrev pub frame_views : List ℕ → List Cell → Left → ClockNow → Views
frame_views places cells left clock zero = record {
  now = λ x. now_in (cell_in places cells x);
  previous = λ x. kept_in (cell_in places cells x);
  last = λ x. last_in (cell_in places cells x);
  first = clock.first;
  interval = shown_length clock.first clock.interval;
}
frame_views places cells left clock (suc back) = record {
  now = λ x. value_in left.now x;
  previous = λ x. None;
  last = λ x. slice_get left.last x;
  first = false;
  interval = record { num = 0; den = 1 };
}
