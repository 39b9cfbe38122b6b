use Rattle.std.proofs.Common.{◌≡◌, length, map, take}
use Rattle.flat_model.specs.Values.{value_in}
use Rattle.moment_inputs.proofs.columns.fill_row.Given as goal

abbrev pub invariant-loop-place : goal.invariant-loop-place
invariant-loop-place l = record { long : length l.row ≡ length l.columns; filled : take l.place l.row ≡ map (value_in l.now) (take l.place l.columns) }
