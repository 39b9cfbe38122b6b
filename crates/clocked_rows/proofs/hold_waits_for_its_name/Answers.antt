use Rattle.clocked_rows.proofs.HeldFault as row
use Rattle.clocked_rows.proofs.hold_waits_for_its_name.Goals as goal

pub returns-clause-meets : goal.returns-clause-meets
returns-clause-meets c = row.met_before

pub returns-clause-fault : goal.returns-clause-fault
returns-clause-fault c = row.first

pub returns-clause-line : goal.returns-clause-line
returns-clause-line c = row.line
