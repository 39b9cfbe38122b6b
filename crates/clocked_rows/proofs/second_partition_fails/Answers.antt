use Rattle.clocked_rows.proofs.TwoBases as row
use Rattle.clocked_rows.proofs.second_partition_fails.Goals as goal

pub returns-clause-instants : goal.returns-clause-instants
returns-clause-instants c = row.instants

pub returns-clause-fault : goal.returns-clause-fault
returns-clause-fault c = row.fault

pub returns-clause-line : goal.returns-clause-line
returns-clause-line c = row.line

pub returns-clause-text : goal.returns-clause-text
returns-clause-text c = row.printed

pub returns-clause-met_by_none : goal.returns-clause-met_by_none
returns-clause-met_by_none c = row.met_by_none
