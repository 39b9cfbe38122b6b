use Rattle.std.proofs.Common.{◌≡◌, ◌++◌, ℕ, List, Some, slice_get, length}
use Rattle.csv.specs.Records.{fields_of}
use Rattle.sync_values.specs.declared.value.Value.{Value}
use Rattle.input_table.specs.Rows.{ValueIs}
use Rattle.input_table.specs.private.Reading.{above_in}
use Rattle.input_table.proofs.rows.read_cells.Given as goal

abbrev pub invariant-loop-column : goal.invariant-loop-column
invariant-loop-column l =
    (taken : List Value) × (l.cells ≡ l.fn.cells ++ taken) × (length taken ≡ l.column)
    × ((k : ℕ) (v : Value) → slice_get taken k ≡ Some v → ValueIs l.form l.names l.columns (above_in (length l.columns) l.fn.cells k) (fields_of l.record_) k v)
