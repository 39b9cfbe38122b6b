use Rattle.undone_side.proofs.Leading.{at_name}
use Rattle.undone_side.proofs.undoing.alone.Goals as goal

pub returns-in-Read : goal.returns-in-Read
returns-in-Read c = at_name c.args.name c.in-Read.field-0 c.args.expr.now c.args.other.now c.in-Read.is c.requires
