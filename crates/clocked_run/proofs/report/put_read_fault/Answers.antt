use Rattle.std.proofs.Common.{refl, ap, sym, ◌∙◌, inr, codes, arith}
use Rattle.outside_io.specs.Texts.{grown}
use Rattle.command_answer.specs.declared.status.Status.TheVariants.{ReadFault}
use Rattle.clocked_run.proofs.Pieces.{first_failed, second_failed, rose_later, last_put}
use Rattle.clocked_run.proofs.report.put_read_fault.Goals as goal

pub returns-in-Err-clause-puts : goal.returns-in-Err-clause-puts
returns-in-Err-clause-puts g c = inr (
  refl,
  c.in-Err.ensures.failed,
  first_failed (codes "read fault: ") c.args.name.now (codes "\n") (g.E.Sink.text c.args.err.now) (g.E.Sink.text c.put_all.new.sink) c.in-Err.ensures.err,
)

pub returns-in-Err-put_all-clause-puts : goal.returns-in-Err-put_all-clause-puts
returns-in-Err-put_all-clause-puts g c = inr (
  refl,
  rose_later (g.E.Sink.faults c.args.err.now) (g.E.Sink.faults c.put_all.new.sink) (g.E.Sink.faults c.put_all-2.new.sink) c.in-Ok.ensures.counts c.in-Err-put_all.ensures.failed,
  second_failed (codes "read fault: ") c.args.name.now (codes "\n") (g.E.Sink.text c.args.err.now) (g.E.Sink.text c.put_all.new.sink) (g.E.Sink.text c.put_all-2.new.sink)
      c.in-Ok.ensures.ok (rw (sym c.as_bytes.ensures.value) c.in-Err-put_all.ensures.err),
)

pub returns-clause-puts : goal.returns-clause-puts
returns-clause-puts g c =
    last_put ReadFault c.put_line.result (codes "read fault: ") c.args.name.now (codes "\n") (g.E.Sink.text c.args.err.now) (g.E.Sink.text c.put_all.new.sink) (g.E.Sink.text c.put_all-2.new.sink) (g.E.Sink.text c.put_line.new.err)
    (g.E.Sink.faults c.args.err.now) (g.E.Sink.faults c.put_all-2.new.sink) (g.E.Sink.faults c.put_line.new.err)
    c.in-Ok.ensures.ok (c.in-Ok-put_all.ensures.ok ∙ ap (λ b. grown b (g.E.Sink.text c.put_all.new.sink)) c.as_bytes.ensures.value)
    (omega (arith, c.in-Ok.ensures.counts, c.in-Ok-put_all.ensures.counts)) c.put_line.ensures.puts
