use Rattle.std.proofs.Common.{rules, ◌≡◌, ◌∙◌, ap, subst, sym, [], ◌∷◌, ◌++◌, ◌-◌, length, take, drop}
use Rattle.step_lines.specs.Stretches.{lines_of, IsStretch}
use Rattle.part_layout.specs.Keyed.{keyed_cells}
use Rattle.part_stretches.specs.declared.running.ClassStretch.{ClassStretch}
use Rattle.part_code.specs.private.Stretching.{IsCodedRun, AreCodedTo, clock_in}
use Rattle.part_code.specs.private.Refused.{HaveNoCode, IsRefusedRun}
use Rattle.part_code.proofs.Refusing.{due_err, refused_due}
use Rattle.part_code.proofs.Runs.{coded_push}
use Rattle.part_code.proofs.Whole.{some_at}
use Rattle.part_code.proofs.stretching.stretches_for.Goals as goal

pub loop-start-preserved : goal.loop-start-preserved
loop-start-preserved c =
    let one : ClassStretch = record { class = c.clock_at-clock.result; stretch = c.in_ok-stretch.stretch } in
    let pushed : c.push.new.self.items ≡ c.loop-start.stretches.items ++ one ∷ [] = search rules in
    let (first, found) = some_at c.args.entries.now c.loop-start.start c.loop-start-test.true in
    let run : IsCodedRun c.args.names.now c.args.keys.now c.args.entries.now c.args.lines.now c.loop-start.start c.end_of-end.result one = record {
      first = first;
      found = found;
      class = c.clock_at-clock.ensures ∙ ap clock_in found;
      run = c.end_of-end.ensures;
      stretch = subst (λ t. IsStretch (keyed_cells c.args.keys.now c.args.names.now one.class) t (lines_of (take (c.end_of-end.result - c.loop-start.start) (drop c.loop-start.start c.args.lines.now))) c.in_ok-stretch.stretch) c.len.ensures c.in_ok-stretch.ensures;
    } in
    record {
      coded = subst (AreCodedTo c.args.names.now c.args.keys.now c.args.entries.now c.args.lines.now c.end_of-end.result) (sym pushed)
          (coded_push c.args.names.now c.args.keys.now c.args.entries.now c.args.lines.now 0 c.loop-start.start c.end_of-end.result c.loop-start.stretches.items one c.loop-start.invariant.coded run);
      within = c.end_of-end.ensures.within;
    }

pub returns-in_err-stretch-clause-refused : goal.returns-in_err-stretch-clause-refused
returns-in_err-stretch-clause-refused c =
    let lines = lines_of (take (c.end_of-end.result - c.loop-start.start) (drop c.loop-start.start c.args.lines.now)) in
    let (first, found) = some_at c.args.entries.now c.loop-start.start c.loop-start-test.true in
    let class : c.clock_at-clock.result ≡ first.clock = c.clock_at-clock.ensures ∙ ap clock_in found in
    let run : HaveNoCode (keyed_cells c.args.keys.now c.args.names.now c.clock_at-clock.result) c.len.result lines → IsRefusedRun c.args.names.now c.args.keys.now c.args.entries.now c.args.lines.now = λ refused. record {
      start = c.loop-start.start;
      end = c.end_of-end.result;
      first = first;
      found = found;
      run = c.end_of-end.ensures;
      refused = subst (λ k. HaveNoCode (keyed_cells c.args.keys.now c.args.names.now k) (length c.args.keys.now) lines) class
          (subst (λ t. HaveNoCode (keyed_cells c.args.keys.now c.args.names.now c.clock_at-clock.result) t lines) c.len.ensures refused);
    } in
    due_err run c.from_residual.result c.in_err-stretch.field-0.0 c.from_residual.ensures.1
    (refused_due (keyed_cells c.args.keys.now c.args.names.now c.clock_at-clock.result) c.len.result lines c.in_err-stretch.field-0.0 c.in_err-stretch.ensures)
