use Rattle.std.proofs.Common.{refl, sym, subst, ◌∙◌, None}
use Rattle.flat_model.specs.declared.model.FlatModel.{FlatModel}
use Rattle.flat_model.specs.Models.{AreNames}
use Rattle.tick_plan.specs.Seen.{grid_seen}
use Rattle.fork_runner.specs.Preparing.{IsPrepared}
use Rattle.command_answer.specs.declared.status.Status.TheVariants.{Done, Faulted}
use Rattle.run_trace.specs.Printing.{written}
use Rattle.run_trace.specs.private.Putting.{PutsLast}
use Rattle.run_trace.proofs.Prepared.{is_prepared, few_moments, names_are}
use Rattle.run_tally.proofs.Telling.{sums_told, fault_told, memory_told}
use Rattle.run_tally.proofs.stress.run_stress.Goals as goal

pub tally-requires-clause-start : goal.tally-requires-clause-start
tally-requires-clause-start g c κs within =
    let run = c.args.run in
    let some = c.requires.planned in
    let prepared = subst (λ order. IsPrepared some.0 run.flat run.clocking order run.table (grid_seen run.plan)) (sym c.as_slice-order.ensures) (is_prepared run some.0 some.1) in
    record {
      setting = some.0;
      assignment = λ x m. None;
      stands_for = c.in-Ok.ensures.stands some.0 prepared (λ x m. None);
      model_is = some.1.model ∙ sym c.in-Ok.ensures.model;
      few = few_moments run some.0 some.1;
    }

pub returns-in-Ok-tally-clause-prints : goal.returns-in-Ok-tally-clause-prints
returns-in-Ok-tally-clause-prints g c = λ s planned.
    let run = c.args.run in
    let prepared = subst (λ order. IsPrepared s run.flat run.clocking order run.table (grid_seen run.plan)) (sym c.as_slice-order.ensures) (is_prepared run s planned) in
    let puts = subst (λ line. PutsLast Done line c.put_last.result (written (g.O.Sink.text c.args.out.now) (g.O.Sink.text c.put_last.new.err) (g.O.Sink.faults c.args.out.now) (g.O.Sink.faults c.put_last.new.err)))
    (c.bytes.ensures ∙ c.sums_text.ensures) c.put_last.ensures.puts in
    sums_told c.args.members s c.in-Ok-tally.sums _ _ c.put_last.result (c.in-Ok-tally.ensures s (λ x m. None) (c.in-Ok.ensures.stands s prepared (λ x m. None)) (planned.model ∙ sym c.in-Ok.ensures.model)) puts refl

pub returns-in-Ok-clause-prints : goal.returns-in-Ok-clause-prints
returns-in-Ok-clause-prints g c = λ s planned.
    let run = c.args.run in
    let prepared = subst (λ order. IsPrepared s run.flat run.clocking order run.table (grid_seen run.plan)) (sym c.as_slice-order.ensures) (is_prepared run s planned) in
    let puts = subst (λ line. PutsLast Faulted line c.put_last-in-Err-tally.result (written (g.E.Sink.text c.args.err.now) (g.E.Sink.text c.put_last-in-Err-tally.new.err) (g.E.Sink.faults c.args.err.now) (g.E.Sink.faults c.put_last-in-Err-tally.new.err)))
    (c.bytes-in-Err-tally.ensures ∙ c.fault.ensures) c.put_last-in-Err-tally.ensures.puts in
    fault_told c.args.members s c.in-Err-tally.ended (written (g.O.Sink.text c.args.out.now) (g.O.Sink.text c.args.out.now) (g.O.Sink.faults c.args.out.now) (g.O.Sink.faults c.args.out.now)) _ c.put_last-in-Err-tally.result (c.in-Err-tally.ensures s (λ x m. None) (c.in-Ok.ensures.stands s prepared (λ x m. None)) (planned.model ∙ sym c.in-Ok.ensures.model)) puts refl

pub returns-clause-prints : goal.returns-clause-prints
returns-clause-prints g c = λ s planned. memory_told c.args.members s
    (written (g.O.Sink.text c.args.out.now) (g.O.Sink.text c.args.out.now) (g.O.Sink.faults c.args.out.now) (g.O.Sink.faults c.args.out.now))
    (written (g.E.Sink.text c.args.err.now) (g.E.Sink.text c.put_last-in-Err.new.err) (g.E.Sink.faults c.args.err.now) (g.E.Sink.faults c.put_last-in-Err.new.err))
    c.put_last-in-Err.result refl c.put_last-in-Err.ensures.puts
