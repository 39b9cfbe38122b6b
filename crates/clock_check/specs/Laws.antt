-- What a clocking gives to a run.
use Rattle.std.specs.Prelude.{ℕ, List}
use Rattle.rational_time.specs.declared.ratio.Ratio.{Ratio}
use Rattle.flat_model.specs.declared.clock.Clocking.{Clocking}
use Rattle.flat_model.specs.declared.model.FlatModel.{FlatModel}
use Rattle.flat_model.specs.declared.table.Table.{Table}
use Rattle.flat_model.specs.Runnable.{AreClasses, AreClocks, IsUnclocked}
use Rattle.flat_model.specs.Setting.{Setting}
use Rattle.flat_model.specs.Tables.{IsInput}
use Rattle.clock_terms.specs.declared.data.Terms.{Terms}
use Rattle.clock_terms.specs.declared.data.Classes.{Classes}
use Rattle.clock_terms.specs.Classing.{AreClassesOf}
use Rattle.clock_terms.specs.Said.{AreTermsOf}
use Rattle.clock_check.specs.ClockingOf.{IsClockingOf}

-- each name, equation and class has its clock and base partition, the clocks are within the limits, and inputs are unclocked
pub record IsReady (s : Setting) : Type 0 where
  pub classes : AreClasses s.model s.clocking
  pub clocks : AreClocks s.clocking
  pub inputs : (x : ℕ) → IsInput s.model.names x → IsUnclocked s x

-- the clocking of a model is what a run asks of it in this respect
abbrev pub ReadyLaw : Type 0
ReadyLaw = (model : FlatModel) (terms : Terms) (classes : Classes) (clocking : Clocking) (table : Table) (instants : List Ratio)
    → AreTermsOf model terms → AreClassesOf model classes → IsClockingOf model terms classes clocking
    → IsReady (record { model = model; clocking = clocking; table = table; instants = instants })
