use Rattle.input_table.specs.private.Quick.{CellsFront}
use Rattle.input_table.proofs.quick.take_cells.Given as goal

-- so many cells of the row were taken
abbrev pub invariant-loop-column : goal.invariant-loop-column
invariant-loop-column l = CellsFront l.names l.columns l.text l.fn.cells l.column l.rest l.cells
