-- The moments of a run up to a stop, and the values of the inputs at them.
use Rattle.std.specs.Prelude.{◌≡◌, ℕ, zero, suc, ◌+◌, ◌-◌, ◌*◌, ◌⊎◌, List, [], ◌∷◌, Option, Some, None, length, position, count_by, slice_get, ◌==◌, All, Any}
use Rattle.rational_time.specs.declared.ratio.Ratio.{Ratio}
use Rattle.rational_time.specs.Fraction.{Same, Below, AtMost, at_most, IsTick}
use Rattle.flat_model.specs.declared.clock.Clock.{Clock}
use Rattle.flat_model.specs.declared.clock.Clock.TheVariants.{Periodic, Event}
use Rattle.flat_model.specs.declared.clock.Moment.{Moment}
use Rattle.flat_model.specs.declared.clock.Moment.TheVariants.{Initial, At}
use Rattle.flat_model.specs.declared.table.Table.{Table}
use Rattle.sync_values.specs.declared.value.Value.{Value}

-- some tick of a Periodic clock lies at t; ticks of Event clocks lie at rows of the table
abbrev pub TicksAt : Ratio → Clock → Type 0
TicksAt t (Periodic period start) = (k : ℕ) × IsTick period start k t
TicksAt t (Event site factor shift) = ⊥

-- t is an instant of the run: not after the stop, and 0, a row's, or a tick
pub record IsDue (clocks : List Clock) (rows : List Ratio) (stop t : Ratio) : Type 0 where
  pub within : AtMost t stop
  pub cause : (t.num ≡ 0) ⊎ Any (Same t) rows ⊎ Any (TicksAt t) clocks

-- each instant is before the next
abbrev pub IsRising : List Ratio → Type 0
IsRising [] = Unit {0}
IsRising (t ∷ []) = Unit {0}
IsRising (t ∷ (u ∷ rest)) = Below t u × IsRising (u ∷ rest)

-- the instants of a run: every one that is due, once, in order
pub record AreInstants (clocks : List Clock) (rows : List Ratio) (stop : Ratio) (instants : List Ratio) : Type 0 where
  pub rising : IsRising instants
  pub due : All (IsDue clocks rows stop) instants
  pub all : (t : Ratio) → IsDue clocks rows stop t → Any (Same t) instants

-- moment 0 is Initial, and moment k + 1 is instant k of the list; the moment before m is m - 1
abbrev pub moment_at : List Ratio → ℕ → Option Moment
moment_at instants zero = Some Initial
moment_at [] (suc k) = None
moment_at (t ∷ rest) (suc zero) = Some (At t)
moment_at (t ∷ rest) (suc (suc k)) = moment_at rest (suc k)

-- the row whose values hold at a moment: the last one not after it, and at Initial the first
abbrev pub row_of : List Ratio → Moment → ℕ
row_of times Initial = 0
row_of times (At t) = count_by (λ u. at_most u t) times - 1

-- the cell of a row in a column that may be there
abbrev pub cell_of : Table → ℕ → Option ℕ → Option Value
cell_of table row None = None
cell_of table row (Some column) = slice_get table.cells (row * length table.columns + column)

-- the value that the table gives an input at a moment
abbrev pub table_value : Table → ℕ → Moment → Option Value
table_value table x moment = cell_of table (row_of table.times moment) (position (λ column. column == x) table.columns)
