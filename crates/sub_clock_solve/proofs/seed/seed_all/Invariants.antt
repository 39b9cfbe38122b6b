use Rattle.std.proofs.Common.{◌≡◌, List, All, length, take}
use Rattle.clock_terms.specs.Source.{Source}
use Rattle.clock_spread.specs.Found.{IsFineFound, Agree, NoneLost}
use Rattle.sub_clock_solve.specs.private.Given.{AreSources}
use Rattle.sub_clock_solve.specs.private.Seeding.{start_of}
use Rattle.sub_clock_solve.proofs.seed.seed_all.Given as goal

abbrev pub invariant-loop-given : goal.invariant-loop-given
invariant-loop-given l = record {
  length : length l.found ≡ length l.fn.found;
  fine : All IsFineFound l.found;
  kept : NoneLost l.found;
  agree : (sources : List Source) → AreSources l.fn.givens sources → Agree l.found (start_of l.fn.class_of l.fn.clocked (take l.given-index sources));
}
