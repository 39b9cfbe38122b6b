use Rattle.std.proofs.Common.{rules, arith, ◌≡◌, ap, ◌∙◌, sym, subst, length, List, ◌∷◌, ℕ, ◌<◌, ◌^◌, slice_get, map, Option, Some}
use Rattle.std.specs.Vec.{with_items}
use Rattle.moment_body.specs.Stepping.{TakesRest}
use Rattle.fork_steps.specs.declared.slot.Slot.{Slot}
use Rattle.tree_step.specs.Changed.{CanStartChanged}
use Rattle.tree_step.specs.Takes.{TakesUses}
use Rattle.first_failure.specs.declared.least.EquationFailing.{EquationFailing}
use Rattle.moment_join.specs.Told.{earlier, earliest}
use Rattle.moment_body.proofs.Written.{whole_back}
use Rattle.partition_step.specs.Steps.{Showing, CanStep}
use Rattle.partition_step.specs.Writing.{IsWritten}
use Rattle.moment_steps.specs.declared.piece.Piece.{Piece}
use Rattle.moment_steps.specs.Gathered.{told_in, gathered_at}
use Rattle.moment_steps.specs.Stepped.{AreSteppedAt}
use Rattle.moment_steps.specs.Ticked.{row_ticks}
use Rattle.moment_steps.specs.Opening.{opened_by, standing}
use Rattle.moment_steps.specs.Settled.{stages_in}
use Rattle.moment_steps.specs.Standing.{HasEnded}
use Rattle.moment_steps.specs.Steps.{stages_of, based_of}
use Rattle.moment_steps.proofs.Rest.{can_step_all, can_take_rest, takes_rest, may_tell, same_stages}
use Rattle.moment_steps.proofs.staged.StagedSteps.take_rest.Goals as goal

pub ask_ticks-requires : goal.ask_ticks-requires
ask_ticks-requires g c =
    let w = c.args.self.now in
    let few = may_tell w.pure w.waiting w.reads w.always w.numbers w.cells.items w.ticks.items w.places w.slots.items w.left c.args.model.now c.args.at (g.P.Ticking.ticks c.args.plan.now) c.args.answers.now c.args.now.now c.requires in
    let same = ap length c.as_mut_slice-ticks.ensures.value in
    omega (arith, few, same)

pub step_parts-requires : goal.step_parts-requires
step_parts-requires g c =
    let w = c.args.self.now in
    let ticks = g.P.Ticking.ticks c.args.plan.now in
    let told = c.ask_ticks.new.ticks in
    let tells : IsWritten (λ class old. ticks class) w.ticks.items told = subst (λ old. IsWritten (λ class was. ticks class) old told) c.as_mut_slice-ticks.ensures.value c.ask_ticks.ensures in
    let can : (i : ℕ) (slot : Slot Piece) → slice_get c.as_mut_slice-slots.result.now i ≡ Some slot
    → CanStep (record { equations = c.args.model.now.flat.equations; places = c.as_slice-places.result.now; moment = c.args.at; ticks = row_ticks told; answers = c.args.answers.now; left = w.left }) slot.piece.part =
    λ i slot found. subst (λ ps. CanStep (record { equations = c.args.model.now.flat.equations; places = ps; moment = c.args.at; ticks = row_ticks told; answers = c.args.answers.now; left = w.left }) slot.piece.part) (sym c.as_slice-places.ensures)
    (can_step_all w.pure w.waiting w.reads w.always w.numbers w.cells.items w.ticks.items w.places w.slots.items w.left c.args.model.now c.args.at ticks c.args.answers.now c.args.now.now told tells c.requires i slot
    (ap (λ l. slice_get l i) (sym c.as_mut_slice-slots.ensures.value) ∙ found)) in
    (search rules, (search rules, can))

pub take_unclocked-behind-requires : goal.take_unclocked-behind-requires
take_unclocked-behind-requires g c =
    let w = c.args.self.now in
    let m = c.args.model.now in
    let ticks = g.P.Ticking.ticks c.args.plan.now in
    let told = c.ask_ticks.new.ticks in
    let new = c.step_parts.new.slots in
    let gathered = c.gather.new.now in
    let shown = c.open_ticking.new.cells in
    let tells : IsWritten (λ class old. ticks class) w.ticks.items told = subst (λ old. IsWritten (λ class was. ticks class) old told) c.as_mut_slice-ticks.ensures.value c.ask_ticks.ensures in
    let showing : Showing = record { equations = m.flat.equations; places = w.places; moment = c.args.at; ticks = row_ticks told; answers = c.args.answers.now; left = w.left } in
    let stepped : AreSteppedAt showing m.clocking.partitions w.slots.items new =
    subst (λ old. AreSteppedAt showing m.clocking.partitions old new) c.as_mut_slice-slots.ensures.value
    (subst (λ ps. AreSteppedAt showing ps c.as_mut_slice-slots.result.now new) c.as_slice-partitions.ensures
    (subst (λ ps. AreSteppedAt (record { equations = m.flat.equations; places = ps; moment = c.args.at; ticks = row_ticks told; answers = c.args.answers.now; left = w.left }) c.as_slice-partitions.result.now c.as_mut_slice-slots.result.now new) c.as_slice-places.ensures c.step_parts.ensures)) in
    let gathers : IsWritten (gathered_at m.clocking w.numbers w.places new) c.args.now.now gathered =
    subst (λ ps. IsWritten (gathered_at m.clocking w.numbers ps new) c.args.now.now gathered) c.as_slice-places.ensures
    (subst (λ ns. IsWritten (gathered_at m.clocking ns c.as_slice-places.result.now new) c.args.now.now gathered) c.as_slice-numbers.ensures c.gather.ensures) in
    let opens : IsWritten (opened_by w.numbers w.left.last gathered (standing m.clocking (row_ticks told) c.args.answers.now)) w.cells.items shown =
    subst (λ old. IsWritten (opened_by w.numbers w.left.last gathered (standing m.clocking (row_ticks told) c.args.answers.now)) old shown) c.as_mut_slice-cells.ensures.value
    (subst (λ l. IsWritten (opened_by w.numbers l gathered (standing m.clocking (row_ticks told) c.args.answers.now)) c.as_mut_slice-cells.result.now shown) c.as_slice-last.ensures
    (subst (λ ns. IsWritten (opened_by ns c.as_slice-last.result.now gathered (standing m.clocking (row_ticks told) c.args.answers.now)) c.as_mut_slice-cells.result.now shown) c.as_slice-numbers.ensures c.open_ticking.ensures)) in
    subst (λ ns. CanStartChanged (record { equations = m.flat.equations; places = ns; left = w.left; clocks = c.as_slice.result.now }) c.as_slice-2.result.now c.as_slice-3.result.now shown) (sym c.as_slice-numbers.ensures)
    (subst (λ cs. CanStartChanged (record { equations = m.flat.equations; places = w.numbers; left = w.left; clocks = cs }) c.as_slice-2.result.now c.as_slice-3.result.now shown) (sym c.as_slice.ensures)
    (subst (λ es. CanStartChanged (record { equations = m.flat.equations; places = w.numbers; left = w.left; clocks = w.always }) es c.as_slice-3.result.now shown) (sym c.as_slice-2.ensures)
    (subst (λ rs. CanStartChanged (record { equations = m.flat.equations; places = w.numbers; left = w.left; clocks = w.always }) w.waiting rs shown) (sym c.as_slice-3.ensures)
    (can_take_rest w.pure w.waiting w.reads w.always w.numbers w.cells.items w.ticks.items w.places w.slots.items w.left m c.args.at ticks c.args.answers.now c.args.now.now told tells new stepped gathered gathers shown opens c.requires))))

pub returns-clause-same : goal.returns-clause-same
returns-clause-same g c =
    let w = c.args.self.now in
    let m = c.args.model.now in
    let ticks = g.P.Ticking.ticks c.args.plan.now in
    let told = c.ask_ticks.new.ticks in
    let new = c.step_parts.new.slots in
    let gathered = c.gather.new.now in
    let shown = c.open_ticking.new.cells in
    let tells : IsWritten (λ class old. ticks class) w.ticks.items told = subst (λ old. IsWritten (λ class was. ticks class) old told) c.as_mut_slice-ticks.ensures.value c.ask_ticks.ensures in
    let showing : Showing = record { equations = m.flat.equations; places = w.places; moment = c.args.at; ticks = row_ticks told; answers = c.args.answers.now; left = w.left } in
    let stepped : AreSteppedAt showing m.clocking.partitions w.slots.items new =
    subst (λ old. AreSteppedAt showing m.clocking.partitions old new) c.as_mut_slice-slots.ensures.value
    (subst (λ ps. AreSteppedAt showing ps c.as_mut_slice-slots.result.now new) c.as_slice-partitions.ensures
    (subst (λ ps. AreSteppedAt (record { equations = m.flat.equations; places = ps; moment = c.args.at; ticks = row_ticks told; answers = c.args.answers.now; left = w.left }) c.as_slice-partitions.result.now c.as_mut_slice-slots.result.now new) c.as_slice-places.ensures c.step_parts.ensures)) in
    let gathers : IsWritten (gathered_at m.clocking w.numbers w.places new) c.args.now.now gathered =
    subst (λ ps. IsWritten (gathered_at m.clocking w.numbers ps new) c.args.now.now gathered) c.as_slice-places.ensures
    (subst (λ ns. IsWritten (gathered_at m.clocking ns c.as_slice-places.result.now new) c.args.now.now gathered) c.as_slice-numbers.ensures c.gather.ensures) in
    let opens : IsWritten (opened_by w.numbers w.left.last gathered (standing m.clocking (row_ticks told) c.args.answers.now)) w.cells.items shown =
    subst (λ old. IsWritten (opened_by w.numbers w.left.last gathered (standing m.clocking (row_ticks told) c.args.answers.now)) old shown) c.as_mut_slice-cells.ensures.value
    (subst (λ l. IsWritten (opened_by w.numbers l gathered (standing m.clocking (row_ticks told) c.args.answers.now)) c.as_mut_slice-cells.result.now shown) c.as_slice-last.ensures
    (subst (λ ns. IsWritten (opened_by ns c.as_slice-last.result.now gathered (standing m.clocking (row_ticks told) c.args.answers.now)) c.as_mut_slice-cells.result.now shown) c.as_slice-numbers.ensures c.open_ticking.ensures)) in
    let size : length new ≡ length w.slots.items = stepped.long in
    subst (λ sl. stages_in w.pure w.waiting sl ≡ stages_in w.pure w.waiting w.slots.items) (sym (whole_back w.slots.len w.slots.items new w.slots.ok.0 size))
    (same_stages showing m.clocking.partitions w.pure w.waiting w.slots.items new stepped)

pub returns-clause-takes : goal.returns-clause-takes
returns-clause-takes g c =
    let w = c.args.self.now in
    let m = c.args.model.now in
    let ticks = g.P.Ticking.ticks c.args.plan.now in
    let told = c.ask_ticks.new.ticks in
    let new = c.step_parts.new.slots in
    let gathered = c.gather.new.now in
    let shown = c.open_ticking.new.cells in
    let tells : IsWritten (λ class old. ticks class) w.ticks.items told = subst (λ old. IsWritten (λ class was. ticks class) old told) c.as_mut_slice-ticks.ensures.value c.ask_ticks.ensures in
    let showing : Showing = record { equations = m.flat.equations; places = w.places; moment = c.args.at; ticks = row_ticks told; answers = c.args.answers.now; left = w.left } in
    let stepped : AreSteppedAt showing m.clocking.partitions w.slots.items new =
    subst (λ old. AreSteppedAt showing m.clocking.partitions old new) c.as_mut_slice-slots.ensures.value
    (subst (λ ps. AreSteppedAt showing ps c.as_mut_slice-slots.result.now new) c.as_slice-partitions.ensures
    (subst (λ ps. AreSteppedAt (record { equations = m.flat.equations; places = ps; moment = c.args.at; ticks = row_ticks told; answers = c.args.answers.now; left = w.left }) c.as_slice-partitions.result.now c.as_mut_slice-slots.result.now new) c.as_slice-places.ensures c.step_parts.ensures)) in
    let gathers : IsWritten (gathered_at m.clocking w.numbers w.places new) c.args.now.now gathered =
    subst (λ ps. IsWritten (gathered_at m.clocking w.numbers ps new) c.args.now.now gathered) c.as_slice-places.ensures
    (subst (λ ns. IsWritten (gathered_at m.clocking ns c.as_slice-places.result.now new) c.args.now.now gathered) c.as_slice-numbers.ensures c.gather.ensures) in
    let opens : IsWritten (opened_by w.numbers w.left.last gathered (standing m.clocking (row_ticks told) c.args.answers.now)) w.cells.items shown =
    subst (λ old. IsWritten (opened_by w.numbers w.left.last gathered (standing m.clocking (row_ticks told) c.args.answers.now)) old shown) c.as_mut_slice-cells.ensures.value
    (subst (λ l. IsWritten (opened_by w.numbers l gathered (standing m.clocking (row_ticks told) c.args.answers.now)) c.as_mut_slice-cells.result.now shown) c.as_slice-last.ensures
    (subst (λ ns. IsWritten (opened_by ns c.as_slice-last.result.now gathered (standing m.clocking (row_ticks told) c.args.answers.now)) c.as_mut_slice-cells.result.now shown) c.as_slice-numbers.ensures c.open_ticking.ensures)) in
    let taken = c.take_unclocked-behind.new.cells in
    let behind = c.take_unclocked-behind.result in
    let takes : TakesUses (record { equations = m.flat.equations; places = w.numbers; left = w.left; clocks = w.always }) w.waiting shown taken behind =
    subst (λ es. TakesUses (record { equations = m.flat.equations; places = w.numbers; left = w.left; clocks = w.always }) es shown taken behind) c.as_slice-2.ensures
    (subst (λ cs. TakesUses (record { equations = m.flat.equations; places = w.numbers; left = w.left; clocks = cs }) c.as_slice-2.result.now shown taken behind) c.as_slice.ensures
    (subst (λ ns. TakesUses (record { equations = m.flat.equations; places = ns; left = w.left; clocks = c.as_slice.result.now }) c.as_slice-2.result.now shown taken behind) c.as_slice-numbers.ensures c.take_unclocked-behind.ensures.takes)) in
    let size : length new ≡ length w.slots.items = stepped.long in
    let long : length taken ≡ length w.cells.items = c.take_unclocked-behind.ensures.size ∙ opens.size in
    let result_is : c.earlier.result ≡ earliest (behind ∷ map told_in new) = c.earlier.ensures ∙ ap (earlier behind) c.least_told-told.ensures in
    subst (λ sl. TakesRest (stages_in w.pure w.waiting w.slots.items) (based_of w) m c.args.at ticks c.args.answers.now c.args.now.now
    (λ s A n base end. HasEnded s A n end w.pure w.waiting w.reads w.always w.numbers (with_items w.cells taken).items (with_items w.ticks told).items w.places sl w.left) c.take_unclocked-behind.new.now c.earlier.result)
    (sym (whole_back w.slots.len w.slots.items new w.slots.ok.0 size))
    (takes_rest w.pure w.waiting w.reads w.always w.numbers w.cells.items w.ticks.items w.places w.slots.items w.left m c.args.at ticks c.args.answers.now c.args.now.now told tells new stepped gathered gathers shown opens
    taken behind takes c.take_unclocked-behind.ensures.size c.take_unclocked-behind.new.now c.take_unclocked-behind.ensures.values
    (with_items w.cells taken).items (ap length (whole_back w.cells.len w.cells.items taken w.cells.ok.0 long)) (with_items w.ticks told).items (ap length (whole_back w.ticks.len w.ticks.items told w.ticks.ok.0 tells.size))
    c.earlier.result result_is)
