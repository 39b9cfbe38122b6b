use Rattle.std.proofs.Common.{refl, sym, subst, ◌∙◌, None}
use Rattle.tick_plan.specs.Seen.{grid_seen}
use Rattle.fork_runner.specs.Preparing.{IsPrepared}
use Rattle.run_trace.specs.Printing.{written}
use Rattle.run_trace.proofs.Ending.{memory_ends}
use Rattle.run_trace.proofs.Prepared.{is_prepared, few_moments}
use Rattle.run_trace.proofs.model.run_model.Goals as goal

pub print_run-requires-clause-start : goal.print_run-requires-clause-start
print_run-requires-clause-start g c κs within =
    let run = c.args.run in
    let some = c.requires.planned in
    let prepared = subst (λ order. IsPrepared some.0 run.flat run.clocking order run.table (grid_seen run.plan)) (sym c.as_slice-order.ensures) (is_prepared run some.0 some.1) in
    record {
      setting = some.0;
      assignment = λ x m. None;
      stands_for = c.in-Ok.ensures.stands some.0 prepared (λ x m. None);
      model_is = some.1.model ∙ sym c.in-Ok.ensures.model;
      few = few_moments run some.0 some.1;
    }

pub returns-in-Ok-clause-prints : goal.returns-in-Ok-clause-prints
returns-in-Ok-clause-prints g c = λ s planned.
    let run = c.args.run in
    let prepared = subst (λ order. IsPrepared s run.flat run.clocking order run.table (grid_seen run.plan)) (sym c.as_slice-order.ensures) (is_prepared run s planned) in
    c.print_run.ensures.prints s (λ x m. None) (c.in-Ok.ensures.stands s prepared (λ x m. None)) (planned.model ∙ sym c.in-Ok.ensures.model)

pub returns-clause-prints : goal.returns-clause-prints
returns-clause-prints g c = λ s planned. memory_ends s
    (written (g.O.Sink.text c.args.out.now) (g.O.Sink.text c.args.out.now) (g.O.Sink.faults c.args.out.now) (g.O.Sink.faults c.args.out.now))
    (written (g.E.Sink.text c.args.err.now) (g.E.Sink.text c.put_last.new.err) (g.E.Sink.faults c.args.err.now) (g.E.Sink.faults c.put_last.new.err))
    c.put_last.result refl c.put_last.ensures.puts
