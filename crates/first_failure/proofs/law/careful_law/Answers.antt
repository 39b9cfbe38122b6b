use Rattle.std.proofs.Common.{None}
use Rattle.first_failure.proofs.Caring.{careful, least_of}
use Rattle.first_failure.specs.CarefulLaws.{entries_of}
use Rattle.first_failure.proofs.law.careful_law.Goals as goal

pub returns : goal.returns
returns c = λ s uses before after sources ordered common t lines are S m row ticking marks marked old new result start ticked runs.
    let (last, taken, set, told) = careful s uses after common t S m ticking before sources ordered lines are row (record { marks = marks; cells = old; told = None }) (record { marks = marked; cells = new; told = result }) start ticked runs in
    (last, taken, set, least_of s uses S m (entries_of sources) last result told)
