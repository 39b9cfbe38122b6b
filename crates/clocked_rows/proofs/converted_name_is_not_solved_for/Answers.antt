use Rattle.clocked_rows.proofs.ConvertedAside as row
use Rattle.clocked_rows.proofs.converted_name_is_not_solved_for.Goals as goal

pub returns-clause-unsolvable : goal.returns-clause-unsolvable
returns-clause-unsolvable c = row.unsolvable

pub returns-clause-uses : goal.returns-clause-uses
returns-clause-uses c = row.uses

pub returns-clause-meets : goal.returns-clause-meets
returns-clause-meets c = row.met
