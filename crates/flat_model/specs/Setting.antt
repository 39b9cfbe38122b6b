-- What a run is over, when its clocks tick, and what its equations can read.
use Rattle.std.specs.Prelude.{ℕ, zero, suc, ◌+◌, ◌-◌, ◌*◌, ◌%◌, Bool, true, false, not, ◌&&◌, List, Option, Some, None, is_none, slice_get, if◌then◌else◌, ◌==◌, nat_le}
use Rattle.rational_time.specs.declared.ratio.Ratio.{Ratio}
use Rattle.flat_model.specs.declared.clock.Clock.{Clock}
use Rattle.flat_model.specs.declared.clock.Clock.TheVariants.{Periodic, Event}
use Rattle.flat_model.specs.declared.clock.Clocking.{Clocking}
use Rattle.flat_model.specs.declared.clock.Moment.{Moment}
use Rattle.flat_model.specs.declared.clock.Moment.TheVariants.{At}
use Rattle.sync_values.specs.declared.value.Value.{Value}
use Rattle.sync_values.specs.declared.value.Value.TheVariants as value
use Rattle.flat_model.specs.declared.model.FlatModel.{FlatModel}
use Rattle.flat_model.specs.declared.model.FlatName.{FlatName}
use Rattle.flat_model.specs.declared.expression.Expr.{Expr}
use Rattle.flat_model.specs.declared.table.Table.{Table}
use Rattle.flat_model.specs.Operators.{Answer, Is, Absent}
use Rattle.flat_model.specs.Views.{Length, View, Views}
use Rattle.flat_model.specs.Meaning.{value_of}
use Rattle.flat_model.specs.Clocks.{is_tick}
use Rattle.flat_model.specs.Moments.{moment_at}
use Rattle.flat_model.specs.Assignment.{Assignment, tick_before, last_value, previous_value}

-- a model with its clocking, the table of its inputs and the instants of the run
pub record Setting : Type 0 where
  pub model : FlatModel
  pub clocking : Clocking
  pub table : Table
  pub instants : List Ratio

abbrev pub flattened : {A : Type 0} → Option (Option A) → Option A
flattened None = None
flattened (Some inner) = inner

-- the class of a name or of an equation; None where it is unclocked
abbrev pub class_of_name : Setting → ℕ → Option ℕ
class_of_name s x = flattened (slice_get s.clocking.of_name x)

abbrev pub class_of_equation : Setting → ℕ → Option ℕ
class_of_equation s i = flattened (slice_get s.clocking.of_equation i)

-- the clock of a class
abbrev pub clock_of : Setting → Option ℕ → Option Clock
clock_of s None = None
clock_of s (Some class) = slice_get s.clocking.clocks class

-- the base partition of a class
abbrev pub partition_of : Setting → Option ℕ → Option ℕ
partition_of s None = None
partition_of s (Some class) = slice_get s.clocking.partitions class

-- the start of a name that may be there
abbrev pub start_in : Option FlatName → Value
start_in None = value.Bool false
start_in (Some name) = name.start

abbrev pub start_of : Setting → ℕ → Value
start_of s x = start_in (slice_get s.model.names x)

-- what a name that no clock governs can be read as: its value now, and nothing of ticks
abbrev pub unclocked_view : Assignment → ℕ → View
unclocked_view S m = record { now = λ x. S x m; previous = λ x. None; last = λ x. None; first = false; interval = record { num = 0; den = 1 } }

-- the same at m and at the moments before it
abbrev pub unclocked_views : Assignment → ℕ → Views
unclocked_views S m back = unclocked_view S (m - back)

-- the answer of a condition that may be there
abbrev pub answer_in : Views → Option Expr → Answer
answer_in views None = Absent
answer_in views (Some condition) = value_of condition views

-- the answer of a site's condition, which reads inputs and unclocked names alone
abbrev pub site_answer : Setting → Assignment → ℕ → ℕ → Answer
site_answer s S site m = answer_in (unclocked_views S m) (slice_get s.clocking.sites site)

abbrev pub is_true : Answer → Bool
is_true (Is (value.Bool b)) = b
is_true _ = false

abbrev pub is_false : Answer → Bool
is_false (Is (value.Bool b)) = not b
is_false _ = false

-- a site rises at an instant at which its condition is true, and at the moment before it false
abbrev pub rises : Setting → Assignment → ℕ → ℕ → Bool
rises s S site zero = false
rises s S site (suc m) = is_true (site_answer s S site (suc m)) && is_false (site_answer s S site m)

-- how often a site rises before m
abbrev pub risings_before : Setting → Assignment → ℕ → ℕ → ℕ
risings_before s S site zero = 0
risings_before s S site (suc m) = if rises s S site m then risings_before s S site m + 1 else risings_before s S site m

-- a Periodic clock ticks where the moment is one of its positions; an Event clock where its site rises and the number of risings before is one of its positions
abbrev pub clock_ticks : Setting → Assignment → ℕ → Option Moment → Clock → Bool
clock_ticks s S m (Some (At t)) (Periodic period start) = is_tick period start t
clock_ticks s S m (Some (At t)) (Event site factor shift) =
    rises s S site m && nat_le shift (risings_before s S site m) && (risings_before s S site m - shift) % factor == 0
clock_ticks s S m _ clock = false

-- a clock that may be there ticks at m
abbrev pub ticks_in : Setting → Assignment → ℕ → Option Clock → Bool
ticks_in s S m None = false
ticks_in s S m (Some clock) = clock_ticks s S m (moment_at s.instants m) clock

-- the class ticks at m; what is unclocked counts at every moment
abbrev pub class_ticks : Setting → Assignment → Option ℕ → ℕ → Bool
class_ticks s S None m = true
class_ticks s S (Some class) m = ticks_in s S m (slice_get s.clocking.clocks class)

abbrev pub name_ticks : Setting → Assignment → ℕ → ℕ → Bool
name_ticks s S x m = class_ticks s S (class_of_name s x) m

abbrev pub equation_ticks : Setting → Assignment → ℕ → ℕ → Bool
equation_ticks s S i m = class_ticks s S (class_of_equation s i) m

-- the time from one moment to another, 0 where one of them is no instant
abbrev pub time_between : Option Moment → Option Moment → Length
time_between (Some (At t)) (Some (At u)) = record { num = u.num * t.den - t.num * u.den; den = t.den * u.den }
time_between _ _ = record { num = 0; den = 1 }

-- the time from a tick that may be there to m
abbrev pub since : Setting → ℕ → Option ℕ → Length
since s m None = record { num = 0; den = 1 }
since s m (Some k) = time_between (moment_at s.instants k) (moment_at s.instants m)

-- the interval of a clock at m: the period, or for an Event clock the time since the tick before, 0 at the first
abbrev pub interval_at : Setting → (ℕ → Bool) → ℕ → Option Clock → Length
interval_at s ticks m (Some (Periodic period start)) = record { num = period.num; den = period.den }
interval_at s ticks m (Some (Event site factor shift)) = since s m (tick_before ticks m)
interval_at s ticks m None = record { num = 0; den = 1 }

-- what can be read at m in an equation of a class
abbrev pub view_at : Setting → Assignment → Option ℕ → ℕ → View
view_at s S class m = record {
  now = λ x. S x m;
  previous = λ x. previous_value (name_ticks s S x) (S x) (start_of s x) m;
  last = λ x. last_value (name_ticks s S x) (S x) (start_of s x) m;
  first = is_none (tick_before (class_ticks s S class) m);
  interval = interval_at s (class_ticks s S class) m (clock_of s class);
}

-- the same at m and at the moments before it
abbrev pub views_at : Setting → Assignment → Option ℕ → ℕ → Views
views_at s S class m back = view_at s S class (m - back)
