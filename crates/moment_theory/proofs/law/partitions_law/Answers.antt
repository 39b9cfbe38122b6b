use Rattle.moment_theory.proofs.Divided.{parts_apart}
use Rattle.moment_theory.proofs.law.partitions_law.Goals as goal

pub returns : goal.returns
returns c = λ s uses pure count runs are is_pure. parts_apart s runs uses are pure is_pure count
