use Rattle.cell_keys.proofs.Distinct.{one_added}
use Rattle.cell_keys.proofs.keys.CellKeys.add.Goals as goal

pub returns-clause-adds : goal.returns-clause-adds
returns-clause-adds c = one_added c.args.self.now _ c.args.key _ c.put.ensures.added c.put.ensures.refused
