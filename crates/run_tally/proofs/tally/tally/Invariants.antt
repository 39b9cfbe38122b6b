use Rattle.std.proofs.Common.{◌≡◌}
use Rattle.flat_model.specs.Assignment.{Assignment}
use Rattle.flat_model.specs.Setting.{Setting}
use Rattle.fork_runner.specs.Runners.{StandsFor, flat_of}
use Rattle.stress_sums.specs.Sums.{AreBounded}
use Rattle.run_tally.proofs.Adding.{IsSoFar}
use Rattle.run_tally.proofs.tally.tally.Given as goal

abbrev pub invariant-rows : goal.invariant-rows
invariant-rows g l = record {
  so_far : (s : Setting) (S : Assignment) → StandsFor g.P.TickSource.planned l.fn.runner s S 0 → s.model ≡ flat_of l.fn.runner
      → IsSoFar (StandsFor g.P.TickSource.planned l.runner) s l.sums l._row;
  bounded : AreBounded l.sums;
}
