-- Clocks in seconds counted in units of 1/den: for each of them its next tick.
use Rattle.std.specs.Prelude.{◌==◌, if◌then◌else◌, ◌≡◌, ℕ, ◌+◌, ◌*◌, ◌<◌, ◌≤◌, ◌↔◌, List, length, get_or, min, Option}
use Rattle.rational_time.specs.declared.ratio.Ratio.{Ratio}
use Rattle.flat_model.specs.declared.clock.Moment.{Moment}
use Rattle.flat_model.specs.NextInstant.{AreUnitsAfter}
use Rattle.tick_tree.specs.Tree.{IsTree, leaf_of}
use Rattle.tick_plan.specs.declared.axis.Axis.{Axis}
use Rattle.tick_plan.specs.declared.course.Course.{Course}
use Rattle.tick_plan.specs.private.Course.{AreRows, IsPeriodic, IsSameCourse}

-- the key is the first tick of the clock after the moment given last, or the first number past the stop
pub record IsKey (den limit : ℕ) (period start : Ratio) (given : Option Moment) (key step : ℕ) : Type 0 where
  pub first : ℕ
  pub every : ℕ
  pub first_is : first * start.den ≡ den * start.num
  pub every_is : every * period.den ≡ den * period.num
  pub some : 0 < every
  pub step_is : step ≡ min every limit
  pub within : key ≤ limit
  pub tick : key < limit → (k : ℕ) × (key ≡ first + k * every)
  pub later : AreUnitsAfter given key den
  pub least : (k : ℕ) → AreUnitsAfter given (first + k * every) den → key ≤ first + k * every

-- the limit is the first number of units past the stop
abbrev pub IsLimit : ℕ → Ratio → ℕ → Type 0
IsLimit den stop limit = (u : ℕ) → (u < limit) ↔ (u * stop.den ≤ stop.num * den)

-- each leaf is of a clock in seconds, and each clock in seconds has a leaf
pub record IsPlaced (c : Course) (den limit : ℕ) (nodes steps : List ℕ) : Type 0 where
  pub tree : IsTree nodes
  pub long : length nodes ≡ length steps + length steps
  pub grain : 0 < den
  pub limit_is : IsLimit den c.stop limit
  pub rows : AreRows c
  pub leaf : (j : ℕ) → j < length steps → (i : ℕ) × (period : Ratio) × (start : Ratio) × IsPeriodic c.clocks i period start
      × IsKey den limit period start c.given (leaf_of nodes j) (get_or steps j 0)
  pub clock : (i : ℕ) (period start : Ratio) → IsPeriodic c.clocks i period start → (j : ℕ) × (j < length steps)
      × IsKey den limit period start c.given (leaf_of nodes j) (get_or steps j 0)

abbrev pub IsAxis : Axis → Type 0
IsAxis a = IsPlaced a.course a.den a.limit a.nodes.items a.steps.items

-- what lies behind a proof that is not shown
abbrev pub IsSound : Axis → Type 0
IsSound a = ∥ IsAxis a ∥₁

-- the units stay, and of the course only the place and the moment given last may change
pub record IsSameAxis (old new : Axis) : Type 0 where
  pub course : IsSameCourse old.course new.course
  pub den : new.den ≡ old.den
  pub limit : new.limit ≡ old.limit

-- the key of a clock after an instant: it goes on where it is at it
abbrev pub passed_key : ℕ → ℕ → Ratio → ℕ → ℕ → ℕ
passed_key den limit t key step = if key * t.den == t.num * den then min (key + step) limit else key
