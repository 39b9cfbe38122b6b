use Rattle.std.proofs.Common.{◌≡◌, refl, subst, map, string_bytes, arith}
use Rattle.command_answer.specs.Actions.{actions}
use Rattle.command_answer.specs.Calls.{reads_in}
use Rattle.clocked_run.specs.private.Putting.{PrintsText}
use Rattle.clocked_run.specs.private.Tasks.{CanDo, Ends}
use Rattle.clocked_run.proofs.Calls.{early_call, text_call, run_call, stress_call}
use Rattle.clocked_run.proofs.top.clocked_run.Goals as goal

pub returns-in-Ok-Print : goal.returns-in-Ok-Print
returns-in-Ok-Print g c =
    let same : c.as_slice.result.now ≡ c.in-Ok-Print.text.items = c.as_slice.ensures.value in
    text_call _ _ c.print.result c.in-Ok-Print.ensures.shelf (c.print.ensures.counts, omega arith) c.in-Ok-Print.text.items
    (λ p step. subst (Ends (actions (reads_in p) (map string_bytes c.args.words.now))) c.in-Ok-Print.field-0-is (c.in-Ok-Print.ensures.made p step))
    (subst (λ t. PrintsText t c.print.result (record { old = g.O.Sink.text c.args.out.now; new = g.O.Sink.text c.print.new.out; before = g.O.Sink.faults c.args.out.now; after = g.O.Sink.faults c.print.new.out })) same c.print.ensures.prints) refl

pub returns-in-Ok-Run : goal.returns-in-Ok-Run
returns-in-Ok-Run g c =
    run_call _ _ c.run_model.result c.in-Ok-Run.ensures.shelf c.run_model.ensures.counts c.in-Ok-Run.run'
    (λ p step. subst (Ends (actions (reads_in p) (map string_bytes c.args.words.now))) c.in-Ok-Run.field-0-is (c.in-Ok-Run.ensures.made p step))
    (subst CanDo c.in-Ok-Run.field-0-is c.in-Ok-Run.ensures.can) c.run_model.ensures.prints

pub returns-in-Err : goal.returns-in-Err
returns-in-Err g c = early_call _ _ c.report.result c.in-Err.ensures.shelf (omega arith, c.report.ensures.counts) c.in-Err.end c.in-Err.ensures.ended c.report.ensures.puts refl

pub returns-in-Ok-Stress : goal.returns-in-Ok-Stress
returns-in-Ok-Stress g c =
    stress_call _ _ c.run_stress.result c.in-Ok-Stress.ensures.shelf c.run_stress.ensures.counts c.in-Ok-Stress.members c.in-Ok-Stress.run'
    (λ p step. subst (Ends (actions (reads_in p) (map string_bytes c.args.words.now))) c.in-Ok-Stress.field-0-is (c.in-Ok-Stress.ensures.made p step))
    (subst CanDo c.in-Ok-Stress.field-0-is c.in-Ok-Stress.ensures.can) c.run_stress.ensures.prints
