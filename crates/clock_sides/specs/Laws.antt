-- What the front end gives is what a run asks.
use Rattle.std.specs.Prelude.{List, Ok}
use Rattle.rational_time.specs.declared.ratio.Ratio.{Ratio}
use Rattle.flat_model.specs.declared.clock.Clocking.{Clocking}
use Rattle.flat_model.specs.declared.model.FlatModel.{FlatModel}
use Rattle.flat_model.specs.declared.table.Table.{Table}
use Rattle.flat_model.specs.Models.{IsModel}
use Rattle.flat_model.specs.Runnable.{IsRunnable}
use Rattle.flat_model.specs.Tables.{IsTableOf}
use Rattle.clock_terms.specs.declared.data.Terms.{Terms}
use Rattle.clock_terms.specs.declared.data.Classes.{Classes}
use Rattle.clock_terms.specs.declared.data.Grid.{Grid}
use Rattle.clock_terms.specs.Said.{AreTermsOf}
use Rattle.base_partition.specs.Classified.{Classifies}
use Rattle.sub_clock_solve.specs.Solving.{Solves}
use Rattle.clock_check.specs.Checking.{Checks}

-- the clocking is what is answered for the model, by its terms, classes and clocks
pub record IsAnswered (model : FlatModel) (clocking : Clocking) : Type 0 where
  pub terms : Terms
  pub classes : Classes
  pub grids : List Grid
  pub are_terms : AreTermsOf model terms
  pub classified : Classifies model (Ok classes)
  pub solved : Solves terms classes (Ok grids)
  pub checked : Checks model terms classes grids (Ok clocking)

-- a model with such a clocking and a table of it can be run
abbrev pub RunnableLaw : Type 0
RunnableLaw = (model : FlatModel) (clocking : Clocking) (table : Table) (instants : List Ratio)
    → IsModel model → IsAnswered model clocking → IsTableOf model table
    → IsRunnable (record { model = model; clocking = clocking; table = table; instants = instants })
