use Rattle.mo_parser.proofs.OneFault.{fault_law}
use Rattle.mo_parser.proofs.syntax.fault_law.Goals as goal

pub returns : goal.returns
returns c = fault_law
