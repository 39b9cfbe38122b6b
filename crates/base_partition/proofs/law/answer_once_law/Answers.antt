use Rattle.base_partition.proofs.Once.{answer_once}
use Rattle.base_partition.proofs.law.answer_once_law.Goals as goal

pub returns : goal.returns
returns c = λ model one other first second some also. answer_once model one other first second some also
