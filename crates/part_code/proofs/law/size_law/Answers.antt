use Rattle.part_code.proofs.Sized.{only_size}
use Rattle.part_code.proofs.law.size_law.Goals as goal

pub returns : goal.returns
returns c = only_size
