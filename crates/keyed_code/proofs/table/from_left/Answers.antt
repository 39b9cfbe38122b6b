use Rattle.std.proofs.Common.{ap, ◌∙◌}
use Rattle.part_layout.specs.Keyed.{keyed_cells}
use Rattle.keyed_code.specs.Table.{cells_from}
use Rattle.keyed_code.proofs.Tables.{before_is}
use Rattle.keyed_code.proofs.table.from_left.Goals as goal

pub returns : goal.returns
returns c =
    ap (λ sight. cells_from sight (keyed_cells c.args.table.now.keys.now c.args.table.now.names.now c.args.table.now.clock)) c.sight_before.ensures
    ∙ before_is c.args.table.now.keys.now c.args.table.now.names.now c.args.table.now.clock c.args.table.now.sight
