-- A runner before its first moment. This project's own.
use Rattle.std.specs.Prelude.{◌≡◌, ◌<◌, false, List, length, None, replicate}
use Rattle.flat_model.specs.declared.clock.Clocking.{Clocking}
use Rattle.flat_model.specs.declared.model.FlatModel.{FlatModel}
use Rattle.flat_model.specs.declared.table.Table.{Table}
use Rattle.flat_model.specs.Assignment.{Assignment}
use Rattle.flat_model.specs.Setting.{Setting}
use Rattle.flat_model.specs.Trace.{columns_of}
use Rattle.eq_order.specs.declared.uses.Use as answered
use Rattle.tick_plan.specs.Plans.{Planned, moments_of}
use Rattle.moment_body.specs.declared.sheet.Sheet.{Sheet}
use Rattle.steps_ready.specs.Ready.{IsPreparedFrom}
use Rattle.fork_runner.specs.declared.runner.Runner.{Runner}
use Rattle.fork_runner.specs.Runners.{StandsFor}

-- all moments of a setting are ahead, and no site has risen
abbrev pub new_plan : Setting → Planned
new_plan s = record {
  clocks = s.clocking.clocks;
  ahead = moments_of s.instants;
  given = None;
  risings = replicate (length s.clocking.sites) 0;
  noted = replicate (length s.clocking.sites) false;
}

-- a setting that has an instant, of this model, clocking and table, with the order of its uses and a plan of all its moments
pub record IsPrepared (s : Setting) (flat : FlatModel) (clocking : Clocking) (order : List answered.Use) (table : Table) (plan : Planned) : Type 0 where
  pub from : IsPreparedFrom s flat clocking order
  pub table_is : s.table ≡ table
  pub some : 0 < length s.instants
  pub plan_is : plan ≡ new_plan s

-- a sheet has the columns of a model, and room for the values of its names, the answers of its sites and its columns; no site was low
pub record IsNewSheet (flat : FlatModel) (clocking : Clocking) (sheet : Sheet) : Type 0 where
  pub columns : sheet.columns ≡ columns_of flat.names
  pub now : length sheet.now.items ≡ length flat.names
  pub answers : length sheet.answers.items ≡ length clocking.sites
  pub low : sheet.low.items ≡ replicate (length clocking.sites) false
  pub row : length sheet.row.items ≡ length (columns_of flat.names)

-- a runner stands for every assignment before the first moment, whatever setting was prepared
abbrev pub StandsAtFirst : {P : Type 0} → (P → Planned) → FlatModel → Clocking → List answered.Use → Table → Planned → Runner P → Type 0
StandsAtFirst planned flat clocking order table plan runner = (s : Setting) → IsPrepared s flat clocking order table plan → (S : Assignment) → StandsFor planned runner s S 0
