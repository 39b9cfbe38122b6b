use Rattle.moment_theory.proofs.Settled.{first_fault_is}
use Rattle.moment_theory.proofs.law.fault_law.Goals as goal

pub returns : goal.returns
returns c = λ s uses order is S m known inputs last are taken at kind first. first_fault_is s uses order is S m inputs last are taken known at kind first
