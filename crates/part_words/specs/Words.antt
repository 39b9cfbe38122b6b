-- The word for the cell of a key.
use Rattle.std.specs.Prelude.{◌≡◌, ℕ, Bool, true, ℤ, pos, List, Option, Some, None, Result, Ok, Err, slice_get, if◌then◌else◌}
use Rattle.sync_values.specs.Arithmetic.{fitted}
use Rattle.sync_values.specs.Relation.{rank}
use Rattle.sync_values.specs.declared.value.Value.{Value}
use Rattle.sync_values.specs.declared.value.Fail.{Fail}
use Rattle.flat_model.specs.Values.{value_in}
use Rattle.flat_model.specs.Intervals.{IsMeasurable, length_of}
use Rattle.flat_model.specs.Meaning.{whole_of}
use Rattle.cell_keys.specs.declared.key.CellKey.{CellKey}
use Rattle.cell_keys.specs.declared.key.CellKey.TheVariants as key
use Rattle.step_code.specs.Machine.{bit, word_at}
use Rattle.tree_step.specs.declared.cell.Cell.{Cell}
use Rattle.tree_step.specs.declared.frame.ClockNow.{ClockNow}
use Rattle.tree_step.specs.Cells.{cell_in}
use Rattle.tree_step.specs.Frames.{shown_elapsed}
use Rattle.tree_step.specs.Starts.{Sight}

-- the word of a last value that is kept
abbrev pub kept_word : Option Cell → ℤ
kept_word None = pos 0
kept_word (Some cell) = rank cell.kept

-- the word of a value that may be shown
abbrev pub value_word : Option Value → ℤ
value_word None = pos 0
value_word (Some v) = rank v

-- a clock that is shown, where it ticks
abbrev pub ticking_in : Option ClockNow → Option ClockNow
ticking_in None = None
ticking_in (Some clock) = if clock.ticks then Some clock else None

-- a word that is shown of a clock where it ticks
abbrev pub clock_word : (ClockNow → ℤ) → Option ClockNow → ℤ
clock_word word None = pos 0
clock_word word (Some clock) = word clock

abbrev pub first_word : ClockNow → ℤ
first_word clock = bit clock.first

-- an interval so many times, and 1 where it does not fit
abbrev pub times_of : ℕ → ClockNow → Result ℤ Fail
times_of times clock = fitted (whole_of (length_of (shown_elapsed clock.first clock.interval)) times)

abbrev pub whole_word : Result ℤ Fail → ℤ
whole_word (Ok z) = z
whole_word (Err kind) = pos 0

abbrev pub unfit_word : Result ℤ Fail → ℤ
unfit_word (Ok z) = pos 0
unfit_word (Err kind) = pos 1

-- the word for the cell of a key
abbrev pub key_word : Sight → List Cell → CellKey → ℤ
key_word sight cells (key.Value x) = kept_word (cell_in sight.places cells x)
key_word sight cells (key.Previous x) = kept_word (cell_in sight.places cells x)
key_word sight cells (key.Left x) = value_word (value_in sight.left.now x)
key_word sight cells (key.LeftLast x) = value_word (slice_get sight.left.last x)
key_word sight cells (key.Constant word) = word
key_word sight cells (key.First place) = clock_word first_word (ticking_in (slice_get sight.clocks place))
key_word sight cells (key.Interval place times) = clock_word (λ clock. whole_word (times_of times clock)) (ticking_in (slice_get sight.clocks place))
key_word sight cells (key.Unfit place times) = clock_word (λ clock. unfit_word (times_of times clock)) (ticking_in (slice_get sight.clocks place))

-- the interval of a clock that ticks can be measured
abbrev pub IsMeasuredClock : ClockNow → Type 0
IsMeasuredClock clock = clock.ticks ≡ true → IsMeasurable (shown_elapsed clock.first clock.interval)

-- the cell of each key has its word
abbrev pub AreFilled : Sight → List Cell → List CellKey → List ℤ → Type 0
AreFilled sight cells keys words = (c : ℕ) (k : CellKey) → slice_get keys c ≡ Some k → word_at words c ≡ key_word sight cells k
