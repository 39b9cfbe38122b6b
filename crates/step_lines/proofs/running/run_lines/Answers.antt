use Rattle.std.proofs.Common.{◌≡◌, ap, ◌∙◌, sym, subst, Some, None}
use Rattle.step_code.specs.Machine.{ran}
use Rattle.step_lines.specs.Stretches.{RunsLines, place_in}
use Rattle.step_lines.proofs.Ending.{runs_lines}
use Rattle.step_lines.proofs.running.run_lines.Goals as goal

pub returns-in-None-clause-runs : goal.returns-in-None-clause-runs
returns-in-None-clause-runs c =
    runs_lines c.args.stretch.now c.args.cells.now c.run.new.cells None c.requires (ap (λ code. ran code 0 c.args.cells.now) (sym c.deref.ensures.value) ∙ c.in-None.ensures.ran)

pub returns-in-Some-clause-runs : goal.returns-in-Some-clause-runs
returns-in-Some-clause-runs c =
    let runs = runs_lines c.args.stretch.now c.args.cells.now c.run.new.cells (Some c.in-Some.stop) c.requires (ap (λ code. ran code 0 c.args.cells.now) (sym c.deref.ensures.value) ∙ c.in-Some.ensures.ran) in
    subst (λ p. RunsLines c.args.stretch.now c.args.cells.now c.run.new.cells (Some (record { place = p; kind = c.in-Some.stop.kind }))) (sym (c.place_of.ensures ∙ place_same c)) runs
  where
    place_same : (c : goal.After-place_of) → place_in c.deref-in-Some.result.now c.in-Some.stop.left ≡ place_in c.args.stretch.now.marks.items c.in-Some.stop.left
    place_same c = ap (λ marks. place_in marks c.in-Some.stop.left) c.deref-in-Some.ensures.value
