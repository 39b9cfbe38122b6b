use Rattle.value_rules.proofs.OneFault.{one_fault}
use Rattle.value_rules.proofs.law.value_law.Goals as goal

pub returns : goal.returns
returns c = one_fault
