-- What `new` answers is one.
use Rattle.std.specs.Prelude.{◌≡◌, ℕ, ◌<◌, List}
use Rattle.rational_time.specs.declared.ratio.Ratio.{Ratio}
use Rattle.flat_model.specs.declared.clock.Clock.{Clock}
use Rattle.flat_model.specs.Plan.{IsPlanned, plan_limit}
use Rattle.tick_plan.specs.NewPlan.{AreFewEnough}
use Rattle.tick_plan.specs.Plans.{Planned, IsNewPlan}

-- a run has one count of rows and ticks
abbrev pub OneCountLaw : Type 0
OneCountLaw = (clocks : List Clock) (times : List Ratio) (stop : Ratio) (n m : ℕ) → IsPlanned clocks times stop n → IsPlanned clocks times stop m → n ≡ m

-- there is one new plan
abbrev pub OneNewPlanLaw : Type 0
OneNewPlanLaw = (clocks : List Clock) (times : List Ratio) (stop : Ratio) (sites : ℕ) (p q : Planned) → IsNewPlan clocks times stop sites p → IsNewPlan clocks times stop sites q → p ≡ q

-- there are not both a plan and too many rows and ticks
abbrev pub FewOrManyLaw : Type 0
FewOrManyLaw = (clocks : List Clock) (times : List Ratio) (stop : Ratio) (count : ℕ) → AreFewEnough clocks times stop → IsPlanned clocks times stop count → plan_limit < count → ⊥
