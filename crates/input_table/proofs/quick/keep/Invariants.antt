use Rattle.std.proofs.Common.{◌≡◌, ◌≤◌, length, take}
use Rattle.input_table.proofs.quick.keep.Given as goal

-- the cells that are kept stand still
abbrev pub invariant-loop-cells : goal.invariant-loop-cells
invariant-loop-cells l = record {
  some : l.count ≤ length l.cells;
  same : take l.count l.cells ≡ take l.count l.fn.cells;
}

abbrev pub decreases-loop-cells : goal.decreases-loop-cells
decreases-loop-cells l = length l.cells
