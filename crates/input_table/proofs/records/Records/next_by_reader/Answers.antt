use Rattle.input_table.proofs.Standing.{took}
use Rattle.input_table.proofs.records.Records.next_by_reader.Goals as goal

pub returns-clause-took : goal.returns-clause-took
returns-clause-took c text rows is = took text rows c.args.self.now _ c.in-Ok.found is c.requires c.requires c.in-Ok.ensures.reads c.in-Ok.ensures.ready
