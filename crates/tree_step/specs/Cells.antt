-- The cells of names.
use Rattle.std.specs.Prelude.{ℕ, ◌==◌, List, Option, Some, None, slice_get, slice_set, if◌then◌else◌}
use Rattle.sync_values.specs.declared.value.Value.{Value}
use Rattle.tree_step.specs.declared.cell.Cell.{Cell}

-- a cell, where it is that of the name
abbrev pub own_cell : ℕ → Option Cell → Option Cell
own_cell x None = None
own_cell x (Some cell) = if cell.name == x then Some cell else None

-- the cell at a place that may be there
abbrev pub cell_from : List Cell → Option ℕ → Option Cell
cell_from cells None = None
cell_from cells (Some place) = slice_get cells place

-- the cell of a name
abbrev pub cell_in : List ℕ → List Cell → ℕ → Option Cell
cell_in places cells x = own_cell x (cell_from cells (slice_get places x))

-- the cells with a value of a name at the moment
abbrev pub put_cell : List Cell → ℕ → Value → ℕ → Option Cell → List Cell
put_cell cells x v place None = cells
put_cell cells x v place (Some cell) = if cell.name == x then slice_set cells place (record cell { now = Some v }) else cells

abbrev pub put_from : List Cell → ℕ → Value → Option ℕ → List Cell
put_from cells x v None = cells
put_from cells x v (Some place) = put_cell cells x v place (slice_get cells place)

abbrev pub put_in : List ℕ → List Cell → ℕ → Value → List Cell
put_in places cells x v = put_from cells x v (slice_get places x)
