-- What is written at a step.
use Rattle.std.specs.Prelude.{ℕ, Bool, true, false, List, Option, Some, None, is_none, slice_get, unwrap_or}
use Rattle.rational_time.specs.declared.ratio.Ratio.{Ratio}
use Rattle.flat_model.specs.declared.clock.Clock.{Clock}
use Rattle.flat_model.specs.declared.clock.Clock.TheVariants.{Periodic, Event}
use Rattle.flat_model.specs.declared.clock.Elapsed.{Elapsed}
use Rattle.flat_model.specs.declared.clock.Elapsed.TheVariants.{Period, Between}
use Rattle.flat_model.specs.declared.clock.Moment.{Moment}
use Rattle.flat_model.specs.declared.clock.Moment.TheVariants.{Initial, At}
use Rattle.flat_model.specs.Setting.{flattened}
use Rattle.tree_step.specs.declared.cell.Cell.{Cell}
use Rattle.tree_step.specs.declared.cell.Standing.{Standing}
use Rattle.tree_step.specs.declared.cell.Standing.TheVariants.{Ticks, Rests, Unknown}
use Rattle.tree_step.specs.declared.frame.ClockNow.{ClockNow}
use Rattle.tree_step.specs.declared.taking.Entry.{Entry}
use Rattle.partition_step.specs.declared.part.ClassKept.{ClassKept}

-- the interval of a clock: its period, or the time since the tick that is kept
abbrev pub elapsed_at : Clock → Option Ratio → Moment → Elapsed → Elapsed
elapsed_at (Periodic period start) ticked moment other = Period period
elapsed_at (Event site factor shift) ticked (At at) other = Between (unwrap_or ticked at) at
elapsed_at (Event site factor shift) ticked Initial other = other

-- what is shown of a class
abbrev pub shown_clock : (ℕ → Bool) → Moment → ClassKept → ClockNow → ClockNow
shown_clock ticks moment kept old = record { ticks = ticks kept.class; first = is_none kept.ticked; interval = elapsed_at kept.clock kept.ticked moment old.interval }

abbrev pub shown_from : (ℕ → Bool) → Moment → Option ClassKept → ClockNow → ClockNow
shown_from ticks moment None old = old
shown_from ticks moment (Some kept) old = shown_clock ticks moment kept old

-- the clock in each place, by the class that is kept there
abbrev pub shown_at : (ℕ → Bool) → Moment → List ClassKept → ℕ → ClockNow → ClockNow
shown_at ticks moment classes j old = shown_from ticks moment (slice_get classes j) old

-- whether the condition of a site has a value
abbrev pub standing_by : Option Bool → Standing
standing_by None = Unknown
standing_by (Some b) = Rests

abbrev pub standing_of : List (Option Bool) → Bool → Clock → Standing
standing_of answers true clock = Ticks
standing_of answers false (Periodic period start) = Rests
standing_of answers false (Event site factor shift) = standing_by (flattened (slice_get answers site))

abbrev pub standing_in : List (Option Bool) → Option ClassKept → Option ClockNow → Standing
standing_in answers (Some kept) (Some clock) = standing_of answers clock.ticks kept.clock
standing_in answers _ _ = Unknown

abbrev pub standing_at : List (Option Bool) → List ClassKept → List ClockNow → Option Entry → Standing
standing_at answers classes clocks None = Unknown
standing_at answers classes clocks (Some entry) = standing_in answers (slice_get classes entry.clock) (slice_get clocks entry.clock)

-- a cell without a value
abbrev pub begun : Standing → Cell → Cell
begun standing cell = record { name = cell.name; kept = cell.kept; standing = standing; now = None }

abbrev pub begun_at : List (Option Bool) → List ClassKept → List ClockNow → List Entry → ℕ → Cell → Cell
begun_at answers classes clocks entries i cell = begun (standing_at answers classes clocks (slice_get entries i)) cell

-- a cell that keeps its value
abbrev pub kept_cell : ℕ → Cell → Cell
kept_cell i cell = record { name = cell.name; kept = unwrap_or cell.now cell.kept; standing = cell.standing; now = cell.now }

-- a class that keeps its tick
abbrev pub ticked_class : Bool → Ratio → ClassKept → ClassKept
ticked_class true at kept = record { class = kept.class; clock = kept.clock; ticked = Some at }
ticked_class false at kept = kept

abbrev pub ticked_from : Ratio → Option ClockNow → ClassKept → ClassKept
ticked_from at None kept = kept
ticked_from at (Some clock) kept = ticked_class clock.ticks at kept

abbrev pub ticked_at : Moment → List ClockNow → ℕ → ClassKept → ClassKept
ticked_at Initial clocks j kept = kept
ticked_at (At at) clocks j kept = ticked_from at (slice_get clocks j) kept
