-- What a run is made of. This project's own.
use Rattle.std.specs.Prelude.{◌≡◌, Ok}
use Rattle.rational_time.specs.declared.ratio.Ratio.{Ratio}
use Rattle.flat_model.specs.Models.{IsModel}
use Rattle.flat_model.specs.Moments.{AreInstants}
use Rattle.flat_model.specs.Setting.{Setting}
use Rattle.flat_model.specs.Tables.{IsTableOf, IsTime}
use Rattle.clock_sides.specs.Laws.{IsAnswered}
use Rattle.eq_order.specs.Order.{Answers}
use Rattle.tick_plan.specs.NewPlan.{AreFewEnough}
use Rattle.tick_plan.specs.Seen.{grid_seen}
use Rattle.fork_runner.specs.Preparing.{new_plan}
use Rattle.run_trace.specs.declared.model.PlannedRun.{PlannedRun}

-- a setting of the model, clocking and table of a run, with the order of its names and the instants of its plan
pub record IsPlannedRun (run : PlannedRun) (s : Setting) : Type 0 where
  pub model : s.model ≡ run.flat
  pub clocking : s.clocking ≡ run.clocking
  pub table : s.table ≡ run.table
  pub is_model : IsModel s.model
  pub answered : IsAnswered s.model s.clocking
  pub table_of : IsTableOf s.model s.table
  pub order : Answers s (Ok run.order)
  pub stop : Ratio
  pub is_time : IsTime stop
  pub few : AreFewEnough s.clocking.clocks s.table.times stop
  pub are : AreInstants s.clocking.clocks s.table.times stop s.instants
  pub plan_is : grid_seen run.plan ≡ new_plan s
