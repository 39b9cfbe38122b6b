use Rattle.std.proofs.Common.{refl}
use Rattle.run_trace.specs.Printing.{written}
use Rattle.run_trace.proofs.Ending.{run_ends, memory_ends}
use Rattle.run_trace.proofs.print.print_run.Goals as goal

pub returns-in-Ok-clause-prints : goal.returns-in-Ok-clause-prints
returns-in-Ok-clause-prints g c = λ s S stands is. run_ends s c.put_trace-end.result
    (written (g.O.Sink.text c.args.out.now) (g.O.Sink.text c.put_trace-end.new.out) (g.O.Sink.faults c.args.out.now) (g.O.Sink.faults c.put_trace-end.new.out))
    (written (g.E.Sink.text c.args.err.now) (g.E.Sink.text c.report.new.err) (g.E.Sink.faults c.args.err.now) (g.E.Sink.faults c.report.new.err))
    c.report.result (c.put_trace-end.ensures.traces s S stands is) c.report.ensures.reports

pub returns-in-Err-clause-prints : goal.returns-in-Err-clause-prints
returns-in-Err-clause-prints g c = λ s S stands is. memory_ends s
    (written (g.O.Sink.text c.args.out.now) (g.O.Sink.text c.args.out.now) (g.O.Sink.faults c.args.out.now) (g.O.Sink.faults c.args.out.now))
    (written (g.E.Sink.text c.args.err.now) (g.E.Sink.text c.put_last.new.err) (g.E.Sink.faults c.args.err.now) (g.E.Sink.faults c.put_last.new.err))
    c.put_last.result refl c.put_last.ensures.puts
