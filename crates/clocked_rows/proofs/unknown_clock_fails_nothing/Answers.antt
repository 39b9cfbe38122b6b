use Rattle.clocked_rows.proofs.UnknownClock as row
use Rattle.clocked_rows.proofs.unknown_clock_fails_nothing.Goals as goal

pub returns-clause-fault : goal.returns-clause-fault
returns-clause-fault c = row.first

pub returns-clause-held : goal.returns-clause-held
returns-clause-held c = row.held_unknown

pub returns-clause-line : goal.returns-clause-line
returns-clause-line c = row.line
