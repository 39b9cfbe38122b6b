use Rattle.std.proofs.Common.{◌≡◌, ◌≤◌, length}
use Rattle.flat_model.specs.Assignment.{Assignment}
use Rattle.flat_model.specs.Setting.{Setting}
use Rattle.flat_model.specs.Trace.{columns_of}
use Rattle.fork_runner.specs.Runners.{StandsFor, flat_of}
use Rattle.run_trace.specs.Printing.{written}
use Rattle.run_trace.proofs.Rowing.{IsSoFar}
use Rattle.run_trace.proofs.print.put_trace.Given as goal

abbrev pub invariant-rows : goal.invariant-rows
invariant-rows g l = record {
  so_far : (s : Setting) (S : Assignment) → StandsFor g.P.TickSource.planned l.fn.runner s S 0 → s.model ≡ flat_of l.fn.runner
      → IsSoFar (StandsFor g.P.TickSource.planned l.runner) s l.whole (written (g.O.Sink.text l.fn.out) (g.O.Sink.text l.out) (g.O.Sink.faults l.fn.out) (g.O.Sink.faults l.out)) l._row;
  columns : l.line.columns ≡ length (columns_of (flat_of l.fn.runner).names);
  counts : g.O.Sink.faults l.fn.out ≤ g.O.Sink.faults l.out;
}
