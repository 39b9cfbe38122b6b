use Rattle.clocked_rows.proofs.SitesApart as row
use Rattle.clocked_rows.proofs.event_clocks_of_two_sites_are_apart.Goals as goal

pub returns-clause-uses : goal.returns-clause-uses
returns-clause-uses c = row.uses

pub returns-clause-unread : goal.returns-clause-unread
returns-clause-unread c = row.other_unread
