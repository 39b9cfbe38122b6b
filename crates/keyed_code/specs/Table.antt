-- The cells of keys, as the code of an equation names them.
use Rattle.std.specs.Prelude.{ℕ, List, length, Option, unwrap_or}
use Rattle.cell_keys.specs.declared.key.CellKey.{CellKey}
use Rattle.cell_keys.specs.declared.key.CellKey.TheVariants as key
use Rattle.cell_keys.specs.declared.sight.Sight.{Sight}
use Rattle.cell_keys.specs.declared.sight.Sight.TheVariants.{Now, Left, Far}
use Rattle.cell_keys.specs.Cells.{cell_of}
use Rattle.step_code.specs.Code.{Cells, cells_before}
use Rattle.part_layout.specs.Keyed.{keyed_cells}
use Rattle.keyed_code.specs.declared.table.KeyTable.{KeyTable}

-- cells seen from a moment
abbrev pub cells_from : Sight → Cells → Cells
cells_from Now at = at
cells_from Left at = cells_before at
cells_from Far at = cells_before (cells_before at)

-- the cells of a table
abbrev pub table_of : KeyTable → Cells
table_of table = cells_from table.sight (keyed_cells table.keys.now table.names.now table.clock)

-- the cells of a clock's interval so many times
abbrev pub keyed_interval : List CellKey → ℕ → ℕ → Option ℕ
keyed_interval keys clock times = cell_of keys (key.Interval clock times)

abbrev pub keyed_unfit : List CellKey → ℕ → ℕ → ℕ
keyed_unfit keys clock times = unwrap_or (cell_of keys (key.Unfit clock times)) (length keys)
