-- The rows and the ticks of a run, and the first of them after the moment given last.
use Rattle.std.specs.Prelude.{◌≡◌, ℕ, ◌<◌, ◌≤◌, List, slice_get, Option, Some, None, if◌then◌else◌}
use Rattle.rational_time.specs.declared.ratio.Ratio.{Ratio}
use Rattle.rational_time.specs.Fraction.{Same, Below, AtMost, at_most, IsTick}
use Rattle.flat_model.specs.declared.clock.Clock.{Clock}
use Rattle.flat_model.specs.declared.clock.Clock.TheVariants.{Periodic}
use Rattle.flat_model.specs.declared.clock.Moment.{Moment}
use Rattle.flat_model.specs.declared.clock.Moment.TheVariants.{At}
use Rattle.flat_model.specs.NextInstant.{IsAfter, IsNext, NoneIsNext}
use Rattle.tick_plan.specs.declared.course.Course.{Course}

-- the rows before the place are not after the moment given last, and the others are
pub record IsRow (times : List Ratio) (given : Option Moment) (row : ℕ) : Type 0 where
  pub passed : (j : ℕ) (u : Ratio) → slice_get times j ≡ Some u → j < row → IsAfter given u → ⊥
  pub ahead : (j : ℕ) (u : Ratio) → slice_get times j ≡ Some u → row ≤ j → IsAfter given u

-- the times rise from 0 on
pub record IsRisingFromZero (times : List Ratio) : Type 0 where
  pub zero_first : (u : Ratio) × (slice_get times 0 ≡ Some u) × (u.num ≡ 0)
  pub ordered : (i j : ℕ) (t u : Ratio) → i < j → slice_get times i ≡ Some t → slice_get times j ≡ Some u → Below t u

-- the rows rise, and the place is that of the first one to come
pub record AreRows (c : Course) : Type 0 where
  pub rising : IsRisingFromZero c.times
  pub row_is : IsRow c.times c.given c.row

-- the clock of this number is Periodic
abbrev pub IsPeriodic : List Clock → ℕ → Ratio → Ratio → Type 0
IsPeriodic clocks i period start = slice_get clocks i ≡ Some (Periodic period start)

-- a tick of some clock in seconds that is not after the stop
pub record IsTickOf (c : Course) (t : Ratio) : Type 0 where
  pub clock : ℕ
  pub period : Ratio
  pub start : Ratio
  pub is : IsPeriodic c.clocks clock period start
  pub k : ℕ
  pub at : IsTick period start k t
  pub within : AtMost t c.stop

-- a tick of the clock with this period and start that is not after the stop
abbrev pub IsTickIn : Ratio → Ratio → Ratio → Ratio → Type 0
IsTickIn period start stop t = (k : ℕ) × IsTick period start k t × AtMost t stop

-- a row that is not after the stop
pub record IsRowOf (c : Course) (t : Ratio) : Type 0 where
  pub place : ℕ
  pub row : Ratio
  pub is : slice_get c.times place ≡ Some row
  pub same : Same t row
  pub within : AtMost t c.stop

-- the first instant of this property after the moment given last, or that there is none
abbrev pub IsFirstOf : (Ratio → Type 0) → Option Moment → Option Ratio → Type 0
IsFirstOf P given None = (t : Ratio) → P t → IsAfter given t → ⊥
IsFirstOf P given (Some r) = P r × IsAfter given r × ((t : Ratio) → P t → IsAfter given t → AtMost r t)

-- the first row after the moment given last, or that there is none
abbrev pub RowAhead : Course → Option Ratio → Type 0
RowAhead c = IsFirstOf (IsRowOf c) c.given

-- the first tick after the moment given last, or that there is none
abbrev pub TickAhead : Course → Option Ratio → Type 0
TickAhead c = IsFirstOf (IsTickOf c) c.given

-- the first instant after the moment given last, or that there is none
abbrev pub NextIs : Course → Option Ratio → Type 0
NextIs c None = NoneIsNext c.clocks c.times c.stop c.given
NextIs c (Some t) = IsNext c.clocks c.times c.stop c.given t

-- the earlier of two instants that may be there
abbrev pub earlier_of : Option Ratio → Option Ratio → Option Ratio
earlier_of None b = b
earlier_of (Some a) b = with_first a b
  where
    with_first : Ratio → Option Ratio → Option Ratio
    with_first a None = Some a
    with_first a (Some b) = if at_most a b then Some a else Some b

-- only the place and the moment given last may change
pub record IsSameCourse (old new : Course) : Type 0 where
  pub clocks : new.clocks ≡ old.clocks
  pub times : new.times ≡ old.times
  pub stop : new.stop ≡ old.stop

-- the instant given last is not after the stop
abbrev pub IsWithin : Option Moment → Ratio → Type 0
IsWithin (Some (At t)) stop = AtMost t stop
IsWithin _ stop = Unit {0}
