use Rattle.base_partition.proofs.Once.{classes_once}
use Rattle.base_partition.proofs.law.classes_once_law.Goals as goal

pub returns : goal.returns
returns c = λ model one other first second. classes_once model one other first second
