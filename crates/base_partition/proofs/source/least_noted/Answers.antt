use Rattle.std.proofs.Common.{length}
use Rattle.base_partition.proofs.LeastSecond.{first_mixed}
use Rattle.base_partition.proofs.source.least_noted.Goals as goal

pub returns : goal.returns
returns c = first_mixed c.args.classes.now c.args.constructors.now c.note_all.new.bases (length c.args.bases.now) c.least.result c.note_all.ensures.length c.note_all.ensures.kept c.least.ensures
