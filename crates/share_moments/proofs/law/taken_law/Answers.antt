use Rattle.share_moments.proofs.Took.{took_beside}
use Rattle.share_moments.proofs.law.taken_law.Goals as goal

pub returns : goal.returns
returns c = λ s uses others U m plan h slots base last told took. took_beside s uses others U m plan h slots base last told took
