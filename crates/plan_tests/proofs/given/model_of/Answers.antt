use Rattle.std.proofs.Common.{rules}
use Rattle.plan_tests.proofs.TestModels.{two_names}
use Rattle.plan_tests.proofs.given.model_of.Goals as goal

pub returns : goal.returns
returns g c = two_names _ c.args.first c.args.second (search rules) (search rules) (search rules) c.requires.first c.requires.second c.requires.apart
