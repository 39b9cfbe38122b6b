-- What `new` answers.
use Rattle.std.specs.Prelude.{◌≡◌, ℕ, ◌<◌, ◌≤◌, List, Result, Ok, Err, None}
use Rattle.rational_time.specs.declared.ratio.Ratio.{Ratio}
use Rattle.flat_model.specs.declared.clock.Clock.{Clock}
use Rattle.flat_model.specs.Plan.{IsPlanned, plan_limit}
use Rattle.tick_plan.specs.declared.plan_end.PlanEnd.{PlanEnd}
use Rattle.tick_plan.specs.declared.plan_end.PlanEnd.TheVariants.{TooMany, NoMemory}
use Rattle.tick_plan.specs.declared.course.Course.{Course}
use Rattle.tick_plan.specs.Plans.{Planned, IsNewPlan}

-- the rows and the ticks up to the stop are not too many
pub record AreFewEnough (clocks : List Clock) (times : List Ratio) (stop : Ratio) : Type 0 where
  pub count : ℕ
  pub is : IsPlanned clocks times stop count
  pub few : count ≤ plan_limit

-- why there is no plan: too many rows and ticks, of this count, or memory refused where they are not too many
abbrev pub IsEnd : List Clock → List Ratio → Ratio → PlanEnd → Type 0
IsEnd clocks times stop (TooMany count) = IsPlanned clocks times stop count × (plan_limit < count)
IsEnd clocks times stop NoMemory = AreFewEnough clocks times stop

-- the count alone
abbrev pub IsCounted : List Clock → List Ratio → Ratio → Result (Unit {0}) PlanEnd → Type 0
IsCounted clocks times stop (Ok _) = AreFewEnough clocks times stop
IsCounted clocks times stop (Err end) = IsEnd clocks times stop end

-- a new plan of these clocks, rows and sites up to the stop, where the rows and ticks are not too many
abbrev pub IsPlanOf : {P : Type 0} → (P → Planned) → List Clock → List Ratio → ℕ → Ratio → Result P PlanEnd → Type 0
IsPlanOf seen clocks times sites stop (Ok plan) = AreFewEnough clocks times stop × IsNewPlan clocks times stop sites (seen plan)
IsPlanOf seen clocks times sites stop (Err end) = IsEnd clocks times stop end

-- a course of these clocks, rows and stop before its first moment
pub record IsFirstCourse (clocks : List Clock) (times : List Ratio) (stop : Ratio) (c : Course) : Type 0 where
  pub clocks_are : c.clocks ≡ clocks
  pub times_are : c.times ≡ times
  pub stop_is : c.stop ≡ stop
  pub row_is : c.row ≡ 0
  pub given_is : c.given ≡ None
