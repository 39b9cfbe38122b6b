use Rattle.partition_step.proofs.Resting.{places}
use Rattle.partition_step.proofs.law.places_law.Goals as goal

pub returns : goal.returns
returns c = places
