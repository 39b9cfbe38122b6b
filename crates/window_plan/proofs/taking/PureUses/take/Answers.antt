use Rattle.std.proofs.Common.{sym, subst}
use Rattle.tree_step.specs.Starts.{CanStart}
use Rattle.tree_step.specs.Takes.{TakesUses}
use Rattle.partition_step.specs.Writing.{IsWritten}
use Rattle.window_plan.specs.private.Cells.{shown_by}
use Rattle.window_plan.proofs.Shown.{may_start, takes_pure}
use Rattle.window_plan.proofs.taking.PureUses.take.Goals as goal

pub take_shown-requires : goal.take_shown-requires
take_shown-requires c =
    let w = c.args.self.now in
    let flat = c.args.flat.now in
    let cells = c.show.new.cells in
    let shows : IsWritten (shown_by w.numbers c.args.now.now) w.cells.items cells =
    subst (λ old. IsWritten (shown_by w.numbers c.args.now.now) old cells) c.as_mut_slice-cells.ensures.value
    (subst (λ ns. IsWritten (shown_by ns c.args.now.now) c.as_mut_slice-cells.result.now cells) c.as_slice-numbers.ensures c.show.ensures) in
    subst (λ ns. CanStart (record { equations = flat.equations; places = ns; left = w.left; clocks = c.as_slice.result.now }) c.as_slice-2.result.now cells) (sym c.as_slice-numbers.ensures)
    (subst (λ cs. CanStart (record { equations = flat.equations; places = w.numbers; left = w.left; clocks = cs }) c.as_slice-2.result.now cells) (sym c.as_slice.ensures)
    (subst (λ es. CanStart (record { equations = flat.equations; places = w.numbers; left = w.left; clocks = w.always }) es cells) (sym c.as_slice-2.ensures)
    (may_start w c.args.now.now cells shows flat c.requires)))

pub returns-clause-takes : goal.returns-clause-takes
returns-clause-takes c =
    let w = c.args.self.now in
    let flat = c.args.flat.now in
    let cells = c.show.new.cells in
    let taken = c.take_shown.new.cells in
    let shows : IsWritten (shown_by w.numbers c.args.now.now) w.cells.items cells =
    subst (λ old. IsWritten (shown_by w.numbers c.args.now.now) old cells) c.as_mut_slice-cells.ensures.value
    (subst (λ ns. IsWritten (shown_by ns c.args.now.now) c.as_mut_slice-cells.result.now cells) c.as_slice-numbers.ensures c.show.ensures) in
    let takes : TakesUses (record { equations = flat.equations; places = w.numbers; left = w.left; clocks = w.always }) w.entries cells taken c.take_shown.result =
    subst (λ es. TakesUses (record { equations = flat.equations; places = w.numbers; left = w.left; clocks = w.always }) es cells taken c.take_shown.result) c.as_slice-2.ensures
    (subst (λ cs. TakesUses (record { equations = flat.equations; places = w.numbers; left = w.left; clocks = cs }) c.as_slice-2.result.now cells taken c.take_shown.result) c.as_slice.ensures
    (subst (λ ns. TakesUses (record { equations = flat.equations; places = ns; left = w.left; clocks = c.as_slice.result.now }) c.as_slice-2.result.now cells taken c.take_shown.result) c.as_slice-numbers.ensures c.take_shown.ensures.takes)) in
    takes_pure w c.args.now.now cells shows flat taken c.take_shown.result takes c.take_shown.new.now c.take_shown.ensures.values
