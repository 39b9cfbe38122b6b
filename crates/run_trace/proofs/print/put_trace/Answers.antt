use Rattle.std.proofs.Common.{ap, sym, ◌∙◌, ◌<◌, ◌^◌, arith}
use Rattle.trace_print.specs.Room.{Room}
use Rattle.fork_runner.specs.Runners.{StandsFor, flat_of, seen_of}
use Rattle.run_trace.specs.Printing.{written}
use Rattle.run_trace.proofs.Rowing.{row_so_far, end_reached, fault_reached, row_there, row_long, too_many}
use Rattle.run_trace.proofs.print.put_trace.Goals as goal

pub advance-requires-after_bounds : goal.advance-requires-after_bounds
advance-requires-after_bounds g c κs within =
    let start = c.requires.start in
    let so_far = c.rows.invariant.so_far start.setting start.assignment start.stands_for start.model_is in
    (start.setting, so_far.assignment, so_far.before, so_far.stands_for)

pub unreachable-requires : goal.unreachable-requires
unreachable-requires g c =
    let start = c.requires.start in
    let so_far = c.rows.invariant.so_far start.setting start.assignment start.stands_for start.model_is in
    let many : 2 ^ 63 < c.rows._row = omega (arith, c.rows-test.false) in
    too_many (StandsFor g.P.TickSource.planned c.rows.runner) start.setting c.rows.whole
    (written (g.O.Sink.text c.args.out.now) (g.O.Sink.text c.rows.out) (g.O.Sink.faults c.args.out.now) (g.O.Sink.faults c.rows.out)) c.rows._row (2 ^ 63) so_far (let few = start.few in omega (arith, few)) many

pub put_row-whole-requires-clause-row : goal.put_row-whole-requires-clause-row
put_row-whole-requires-clause-row g c =
    let start = c.requires.start in
    let so_far = c.rows.invariant.so_far start.setting start.assignment start.stands_for start.model_is in
    row_there (StandsFor g.P.TickSource.planned c.rows.runner) (StandsFor g.P.TickSource.planned c.advance.new.self) (flat_of c.args.runner.now) start.setting so_far.assignment so_far.before (seen_of c.advance.new.self) c.in-Row.ensures.advances so_far.stands_for

pub put_row-whole-requires-clause-columns : goal.put_row-whole-requires-clause-columns
put_row-whole-requires-clause-columns g c = λ values at.
    let start = c.requires.start in
    let so_far = c.rows.invariant.so_far start.setting start.assignment start.stands_for start.model_is in
    row_long (StandsFor g.P.TickSource.planned c.rows.runner) (StandsFor g.P.TickSource.planned c.advance.new.self) (flat_of c.args.runner.now) start.setting so_far.assignment so_far.before (seen_of c.advance.new.self) c.in-Row.ensures.advances so_far.stands_for
    start.model_is values at
    ∙ sym c.rows.invariant.columns

pub returns-in-Fault-clause-traces : goal.returns-in-Fault-clause-traces
returns-in-Fault-clause-traces g c = λ s S stands is. fault_reached (StandsFor g.P.TickSource.planned c.rows.runner) (StandsFor g.P.TickSource.planned c.advance.new.self) s c.rows.whole
    (written (g.O.Sink.text c.args.out.now) (g.O.Sink.text c.rows.out) (g.O.Sink.faults c.args.out.now) (g.O.Sink.faults c.rows.out)) c.rows._row (seen_of c.advance.new.self) c.in-Fault.fault
    (c.rows.invariant.so_far s S stands is) c.in-Fault.ensures.advances

pub returns-in-End-clause-traces : goal.returns-in-End-clause-traces
returns-in-End-clause-traces g c = λ s S stands is. end_reached (StandsFor g.P.TickSource.planned c.rows.runner) (StandsFor g.P.TickSource.planned c.advance.new.self) s c.rows.whole
    (written (g.O.Sink.text c.args.out.now) (g.O.Sink.text c.rows.out) (g.O.Sink.faults c.args.out.now) (g.O.Sink.faults c.rows.out)) c.rows._row (seen_of c.advance.new.self)
    (c.rows.invariant.so_far s S stands is) c.in-End.ensures.advances

pub rows-preserved : goal.rows-preserved
rows-preserved g c = record {
  so_far = λ s S stands is. row_so_far (StandsFor g.P.TickSource.planned c.rows.runner) (StandsFor g.P.TickSource.planned c.advance.new.self) s c.rows.whole c.put_row-whole.result
      (g.O.Sink.text c.args.out.now) (g.O.Sink.text c.rows.out) (g.O.Sink.text c.put_row-whole.new.out) (g.O.Sink.faults c.args.out.now) (g.O.Sink.faults c.rows.out) (g.O.Sink.faults c.put_row-whole.new.out)
      c.rows._row (seen_of c.advance.new.self) (c.rows.invariant.so_far s S stands is) c.in-Row.ensures.advances c.put_row-whole.ensures.puts;
  columns = ap (λ (line : Room). line.columns) c.put_row-whole.ensures.line ∙ c.rows.invariant.columns;
  counts = omega (arith, c.rows.invariant.counts, c.put_row-whole.ensures.counts);
}
