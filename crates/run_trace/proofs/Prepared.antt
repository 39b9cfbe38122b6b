-- A planned run can be prepared, and starts before its first moment.
use Rattle.std.proofs.Common.{subst, ◌<◌, ◌^◌, length}
use Rattle.flat_model.specs.declared.model.FlatModel.{FlatModel}
use Rattle.flat_model.specs.Models.{AreNames}
use Rattle.flat_model.specs.Runnable.{IsRunnable}
use Rattle.flat_model.specs.Setting.{Setting}
use Rattle.clock_sides.proofs.Whole.{runnable}
use Rattle.site_ready.proofs.Deciding.{there_is}
use Rattle.site_ready.proofs.Unheld.{unheld, rest}
use Rattle.partition_step.specs.Steps.{AreMeasured}
use Rattle.steps_ready.specs.Ready.{IsPreparedFrom}
use Rattle.tick_plan.specs.Seen.{grid_seen}
use Rattle.fork_runner.specs.Preparing.{IsPrepared}
use Rattle.run_trace.specs.declared.model.PlannedRun.{PlannedRun}
use Rattle.run_trace.specs.Planned.{IsPlannedRun}
use Rattle.run_trace.proofs.Instants.{range_at, some_instants, few_instants}

module _ (run : PlannedRun) (s : Setting) (planned : IsPlannedRun run s) where
  runs : IsRunnable s
  runs = runnable s.model s.clocking s.table s.instants planned.is_model planned.answered planned.table_of

  measured : AreMeasured s.instants
  measured = record {
    rising = planned.are.rising;
    range = range_at s.clocking.clocks s.table.times planned.stop runs.clocks.grid planned.table_of.times.range planned.is_time s.instants planned.are;
  }

  from : IsPreparedFrom s run.flat run.clocking run.order
  from =
      let group = there_is s.model planned.answered.classes in
      record {
        model = planned.model;
        clocking_is = planned.clocking;
        runs = runs;
        ordered = planned.order;
        group = group.0;
        unheld = unheld s.model s.clocking s.table s.instants planned.is_model planned.answered group.0 group.1;
        rest = rest s.model s.clocking s.table s.instants planned.is_model planned.answered group.0 group.1;
        measured = measured;
      }

  pub is_prepared : IsPrepared s run.flat run.clocking run.order run.table (grid_seen run.plan)
  is_prepared = record {
    from = from;
    table_is = planned.table;
    some = some_instants s.clocking.clocks s.table.times planned.stop runs.clocks.grid planned.table_of.times.range planned.is_time s.instants planned.are;
    plan_is = planned.plan_is;
  }

  pub few_moments : length s.instants < 2 ^ 32
  few_moments = few_instants s.clocking.clocks s.table.times planned.stop runs.clocks.grid planned.table_of.times.range planned.is_time s.instants planned.are planned.few

  pub names_are : AreNames run.flat.names
  names_are = subst (λ (m : FlatModel). AreNames m.names) planned.model planned.is_model.names
