use Rattle.std.proofs.Common.{◌∙◌, ap, sym, subst, map}
use Rattle.parameter_values.specs.Values.{AreValues}
use Rattle.parameter_values.specs.Givens.{valued}
use Rattle.parameter_values.specs.Slots.{seen}
use Rattle.flat_instances.specs.Instances.{variables}
use Rattle.flat_instances.specs.Kept as kept
use Rattle.value_rules.specs.Needs.{needed}
use Rattle.value_rules.specs.Faults.{Answers}
use Rattle.model_values.proofs.values.model_values.Goals as goal

pub returns-clause-are : goal.returns-clause-are
returns-clause-are c =
    let text = c.args.file.now.text.now in
    let classes = c.args.file.now.classes.now in
    let all = variables text classes (map (kept.seen text classes) c.args.items.now) in
    c.in_ok-found.ensures classes all (c.in_ok-table.ensures text classes) (ap (map valued) c.as_slice.ensures.value ∙ c.in_ok-own.ensures)

pub returns-clause-fault : goal.returns-clause-fault
returns-clause-fault c =
    let text = c.args.file.now.text.now in
    let classes = c.args.file.now.classes.now in
    let all = variables text classes (map (kept.seen text classes) c.args.items.now) in
    let are = c.in_ok-found.ensures classes all (c.in_ok-table.ensures text classes) (ap (map valued) c.as_slice.ensures.value ∙ c.in_ok-own.ensures) in
    subst (λ slots. Answers text c.in_ok-table.table slots classes all c.in_ok-fault.fault) c.as_slice-3.ensures.value
    (c.in_ok-fault.ensures classes all (c.in_ok-table.ensures text classes) (ap (map valued) c.as_slice-2.ensures.value ∙ c.in_ok-own.ensures)
    (ap (map needed) c.as_slice-4.ensures.value ∙ c.in_ok-wanted.ensures) (subst (λ slots. AreValues text classes all (seen c.in_ok-table.table slots)) (sym c.as_slice-3.ensures.value) are))
