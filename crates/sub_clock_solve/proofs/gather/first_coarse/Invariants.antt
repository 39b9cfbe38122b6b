use Rattle.std.proofs.Common.{◌^◌, ◌<◌, take}
use Rattle.sub_clock_solve.specs.Grain.{denominators, IsGrain}
use Rattle.sub_clock_solve.specs.private.Gathering.{kept_grids}
use Rattle.sub_clock_solve.proofs.gather.first_coarse.Given as goal

abbrev pub invariant-loop-class : goal.invariant-loop-class
invariant-loop-class l = IsGrain (denominators (kept_grids (take l.class l.fn.found) (take l.class l.fn.clocked))) l.grain × (l.grain < 2 ^ 40)
