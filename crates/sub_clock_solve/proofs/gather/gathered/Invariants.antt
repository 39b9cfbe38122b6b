use Rattle.std.proofs.Common.{◌≡◌, take}
use Rattle.sub_clock_solve.specs.private.Gathering.{kept_grids}
use Rattle.sub_clock_solve.proofs.gather.gathered.Given as goal

abbrev pub invariant-loop-class : goal.invariant-loop-class
invariant-loop-class l = l.grids ≡ kept_grids (take l.class l.fn.found) (take l.class l.fn.clocked)
