use Rattle.input_table.proofs.Once.{table_law}
use Rattle.input_table.proofs.law.table_law.Goals as goal

pub returns : goal.returns
returns c = table_law
