use Rattle.flat_limits.proofs.Limits.{flat_limits}
use Rattle.flat_limits.proofs.law.flat_limits_law.Goals as goal

pub returns : goal.returns
returns c = flat_limits
