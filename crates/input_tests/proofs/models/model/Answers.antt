use Rattle.std.proofs.Common.{rules}
use Rattle.input_tests.proofs.Many.{many_names}
use Rattle.input_tests.proofs.models.model.Goals as goal

pub returns : goal.returns
returns g c = many_names _ c.names.ensures (search rules) (search rules)
