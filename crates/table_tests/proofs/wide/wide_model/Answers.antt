use Rattle.std.proofs.Common.{rules}
use Rattle.table_tests.proofs.Many.{many_names}
use Rattle.table_tests.proofs.wide.wide_model.Goals as goal

pub returns : goal.returns
returns g c = many_names _ c.inputs.ensures (search rules) (search rules)
