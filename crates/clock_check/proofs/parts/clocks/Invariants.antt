use Rattle.std.proofs.Common.{◌≡◌, map, take}
use Rattle.clock_check.specs.private.Making.{clock_of_grid}
use Rattle.clock_check.proofs.parts.clocks.Given as goal

abbrev pub invariant-loop-grid : goal.invariant-loop-grid
invariant-loop-grid l = l.clocks ≡ map clock_of_grid (take l.grid-index l.fn.grids)
