use Rattle.part_layout.proofs.Tables.{is_table}
use Rattle.part_layout.proofs.law.table_law.Goals as goal

pub returns : goal.returns
returns c = is_table
