use Rattle.filled_instances.proofs.Empty as empty
use Rattle.filled_instances.proofs.law.filled_instances_law.Goals as goal

pub returns : goal.returns
returns c = record { nothing_counts = empty.nothing_counts }
