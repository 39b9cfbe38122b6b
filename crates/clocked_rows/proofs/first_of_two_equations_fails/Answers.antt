use Rattle.clocked_rows.proofs.TwoEquations as row
use Rattle.clocked_rows.proofs.first_of_two_equations_fails.Goals as goal

pub returns-clause-fault : goal.returns-clause-fault
returns-clause-fault c = row.fault

pub returns-clause-changed_fault : goal.returns-clause-changed_fault
returns-clause-changed_fault c = row.second_not_first

pub returns-clause-line : goal.returns-clause-line
returns-clause-line c = row.line

pub returns-clause-text : goal.returns-clause-text
returns-clause-text c = row.printed

pub returns-clause-met_by_none : goal.returns-clause-met_by_none
returns-clause-met_by_none c = row.met_by_none
