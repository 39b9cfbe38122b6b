use Rattle.std.proofs.Common.{◌≡◌, ap, ◌∙◌, sym, subst, length, List, ℕ}
use Rattle.sync_values.specs.declared.value.Value.{Value}
use Rattle.tree_step.specs.declared.cell.Standing.TheVariants.{Ticks}
use Rattle.tree_step.specs.Changed.{CanStartChanged}
use Rattle.tree_step.specs.Takes.{TakesUses}
use Rattle.moment_body.proofs.Written.{whole_back}
use Rattle.partition_step.specs.Writing.{IsWritten}
use Rattle.moment_steps.specs.Opening.{opened_by}
use Rattle.moment_steps.proofs.Pure.{can_take_pure, takes_pure}
use Rattle.moment_steps.proofs.staged.StagedSteps.take_pure.Goals as goal

pub take_unclocked-requires : goal.take_unclocked-requires
take_unclocked-requires c =
    let w = c.args.self.now in
    let numbers : c.as_slice-numbers.result.now ≡ w.numbers = c.as_slice-numbers.ensures in
    let opens : IsWritten (opened_by w.numbers w.left.last c.args.now.now (λ x. Ticks)) w.cells.items c.open_plain.new.cells =
    subst (λ old. IsWritten (opened_by w.numbers w.left.last c.args.now.now (λ x. Ticks)) old c.open_plain.new.cells) c.as_mut_slice-cells.ensures.value
    (subst (λ l. IsWritten (opened_by w.numbers l c.args.now.now (λ x. Ticks)) c.as_mut_slice-cells.result.now c.open_plain.new.cells) c.as_slice.ensures
    (subst (λ ns. IsWritten (opened_by ns c.as_slice.result.now c.args.now.now (λ x. Ticks)) c.as_mut_slice-cells.result.now c.open_plain.new.cells) numbers c.open_plain.ensures)) in
    subst (λ ns. CanStartChanged (record { equations = c.args.model.now.flat.equations; places = ns; left = w.left; clocks = c.as_slice-2.result.now }) c.as_slice-3.result.now c.as_slice-4.result.now c.open_plain.new.cells) (sym numbers)
    (subst (λ cs. CanStartChanged (record { equations = c.args.model.now.flat.equations; places = w.numbers; left = w.left; clocks = cs }) c.as_slice-3.result.now c.as_slice-4.result.now c.open_plain.new.cells) (sym c.as_slice-2.ensures)
    (subst (λ es. CanStartChanged (record { equations = c.args.model.now.flat.equations; places = w.numbers; left = w.left; clocks = w.always }) es c.as_slice-4.result.now c.open_plain.new.cells) (sym c.as_slice-3.ensures)
    (subst (λ rs. CanStartChanged (record { equations = c.args.model.now.flat.equations; places = w.numbers; left = w.left; clocks = w.always }) w.pure rs c.open_plain.new.cells) (sym c.as_slice-4.ensures)
    (can_take_pure w.pure w.waiting w.reads w.always w.numbers w.cells.items w.ticks.items w.places w.slots.items w.left c.args.model.now c.args.now.now c.open_plain.new.cells opens c.requires))))

pub returns-clause-takes : goal.returns-clause-takes
returns-clause-takes c =
    let w = c.args.self.now in
    let taken = c.take_unclocked.new.cells in
    let numbers : c.as_slice-numbers.result.now ≡ w.numbers = c.as_slice-numbers.ensures in
    let opens : IsWritten (opened_by w.numbers w.left.last c.args.now.now (λ x. Ticks)) w.cells.items c.open_plain.new.cells =
    subst (λ old. IsWritten (opened_by w.numbers w.left.last c.args.now.now (λ x. Ticks)) old c.open_plain.new.cells) c.as_mut_slice-cells.ensures.value
    (subst (λ l. IsWritten (opened_by w.numbers l c.args.now.now (λ x. Ticks)) c.as_mut_slice-cells.result.now c.open_plain.new.cells) c.as_slice.ensures
    (subst (λ ns. IsWritten (opened_by ns c.as_slice.result.now c.args.now.now (λ x. Ticks)) c.as_mut_slice-cells.result.now c.open_plain.new.cells) numbers c.open_plain.ensures)) in
    let takes : TakesUses (record { equations = c.args.model.now.flat.equations; places = w.numbers; left = w.left; clocks = w.always }) w.pure c.open_plain.new.cells taken c.take_unclocked.result =
    subst (λ es. TakesUses (record { equations = c.args.model.now.flat.equations; places = w.numbers; left = w.left; clocks = w.always }) es c.open_plain.new.cells taken c.take_unclocked.result) c.as_slice-3.ensures
    (subst (λ cs. TakesUses (record { equations = c.args.model.now.flat.equations; places = w.numbers; left = w.left; clocks = cs }) c.as_slice-3.result.now c.open_plain.new.cells taken c.take_unclocked.result) c.as_slice-2.ensures
    (subst (λ ns. TakesUses (record { equations = c.args.model.now.flat.equations; places = ns; left = w.left; clocks = c.as_slice-2.result.now }) c.as_slice-3.result.now c.open_plain.new.cells taken c.take_unclocked.result) numbers c.take_unclocked.ensures.takes)) in
    let long : length taken ≡ length w.cells.items = c.take_unclocked.ensures.size ∙ opens.size in
    takes_pure w.pure w.waiting w.reads w.always w.numbers w.cells.items w.ticks.items w.places w.slots.items w.left c.args.model.now c.args.now.now c.open_plain.new.cells opens
    taken c.take_unclocked.result takes c.take_unclocked.ensures.size c.take_unclocked.new.now c.take_unclocked.ensures.values _ (ap length (whole_back w.cells.len w.cells.items taken w.cells.ok.0 long))
