use Rattle.std.proofs.Common.{ap, ◌∙◌, sym}
use Rattle.part_layout.specs.Keyed.{keyed_cells}
use Rattle.keyed_code.specs.Table.{cells_from}
use Rattle.keyed_code.proofs.table.value_cell.Goals as goal

pub returns-in-Now : goal.returns-in-Now
returns-in-Now c = c.number.ensures ∙ sym (ap (λ sight. (cells_from sight (keyed_cells c.args.table.now.keys.now c.args.table.now.names.now c.args.table.now.clock) 0).now c.args.name) c.in-Now.is)
