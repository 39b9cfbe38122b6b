use Rattle.std.proofs.Common.{ap, ◌∙◌, sym, subst}
use Rattle.moment_join.specs.Told.{earlier}
use Rattle.moment_steps.specs.Stepped.{AreSteppedAt}
use Rattle.moment_steps.specs.Ticked.{row_ticks}
use Rattle.moment_steps.specs.Opening.{opened_by, standing}
use Rattle.partition_step.specs.Steps.{CanStep}
use Rattle.partition_step.specs.Writing.{IsWritten}
use Rattle.share_run.specs.Standing.{Holding}
use Rattle.share_run.specs.Taking.{Plan}
use Rattle.share_run.proofs.Starts.{showing, can_step}
use Rattle.share_run.proofs.Waiting.{can_start, takes_share}
use Rattle.share_run.proofs.taking.take_moment.Goals as goal

pub step_parts-requires-after_bounds : goal.step_parts-requires-after_bounds
step_parts-requires-after_bounds g c κs within = λ i slot found.
    let u = c.args.uses.now in
    let m = c.args.model.now in
    let p = c.args.moment.now in
    let h : Holding = record { classes = u.classes.now; owners = u.owners.now; waiting = u.waiting.now; always = u.always.now; numbers = u.numbers.now; places = u.places.now; slots = c.args.slots.now; cells = c.args.cells.now; left = c.args.left.now } in
    let plan : Plan = record { at = p.at; ticks = row_ticks p.ticks.items; answers = p.answers.items } in
    subst (λ ts. CanStep (record { equations = m.flat.equations; places = u.places.now; moment = p.at; ticks = row_ticks ts; answers = c.deref-2.result.now; left = c.args.left.now }) slot.piece.part) (sym c.deref.ensures.value)
    (subst (λ xs. CanStep (record { equations = m.flat.equations; places = u.places.now; moment = p.at; ticks = row_ticks p.ticks.items; answers = xs; left = c.args.left.now }) slot.piece.part) (sym c.deref-2.ensures.value)
    (can_step h m plan c.args.now.now c.requires i slot found))

pub take_opened-behind-requires : goal.take_opened-behind-requires
take_opened-behind-requires g c =
    let u = c.args.uses.now in
    let m = c.args.model.now in
    let p = c.args.moment.now in
    let h : Holding = record { classes = u.classes.now; owners = u.owners.now; waiting = u.waiting.now; always = u.always.now; numbers = u.numbers.now; places = u.places.now; slots = c.args.slots.now; cells = c.args.cells.now; left = c.args.left.now } in
    let plan : Plan = record { at = p.at; ticks = row_ticks p.ticks.items; answers = p.answers.items } in
    let new = c.step_parts.new.slots in
    let stepped : AreSteppedAt (showing h m plan c.args.now.now) h.classes h.slots new =
    subst (λ xs. AreSteppedAt (record { equations = m.flat.equations; places = u.places.now; moment = p.at; ticks = row_ticks p.ticks.items; answers = xs; left = c.args.left.now }) h.classes h.slots new) c.deref-2.ensures.value
    (subst (λ ts. AreSteppedAt (record { equations = m.flat.equations; places = u.places.now; moment = p.at; ticks = row_ticks ts; answers = c.deref-2.result.now; left = c.args.left.now }) h.classes h.slots new) c.deref.ensures.value c.step_parts.ensures) in
    let gathered = c.gather.new.now in
    let shown = c.open_ticking.new.cells in
    let opens : IsWritten (opened_by h.numbers h.left.last gathered (standing m.clocking plan.ticks plan.answers)) h.cells shown =
    subst (λ ls. IsWritten (opened_by h.numbers ls gathered (standing m.clocking plan.ticks plan.answers)) h.cells shown) c.as_slice.ensures
    (subst (λ xs. IsWritten (opened_by h.numbers c.as_slice.result.now gathered (standing m.clocking plan.ticks xs)) h.cells shown) c.deref-4.ensures.value
    (subst (λ ts. IsWritten (opened_by h.numbers c.as_slice.result.now gathered (standing m.clocking (row_ticks ts) c.deref-4.result.now)) h.cells shown) c.deref-3.ensures.value c.open_ticking.ensures)) in
    can_start h m plan c.args.now.now new stepped gathered c.gather.ensures shown opens c.requires

pub returns-clause-takes : goal.returns-clause-takes
returns-clause-takes g c =
    let u = c.args.uses.now in
    let m = c.args.model.now in
    let p = c.args.moment.now in
    let h : Holding = record { classes = u.classes.now; owners = u.owners.now; waiting = u.waiting.now; always = u.always.now; numbers = u.numbers.now; places = u.places.now; slots = c.args.slots.now; cells = c.args.cells.now; left = c.args.left.now } in
    let plan : Plan = record { at = p.at; ticks = row_ticks p.ticks.items; answers = p.answers.items } in
    let new = c.step_parts.new.slots in
    let stepped : AreSteppedAt (showing h m plan c.args.now.now) h.classes h.slots new =
    subst (λ xs. AreSteppedAt (record { equations = m.flat.equations; places = u.places.now; moment = p.at; ticks = row_ticks p.ticks.items; answers = xs; left = c.args.left.now }) h.classes h.slots new) c.deref-2.ensures.value
    (subst (λ ts. AreSteppedAt (record { equations = m.flat.equations; places = u.places.now; moment = p.at; ticks = row_ticks ts; answers = c.deref-2.result.now; left = c.args.left.now }) h.classes h.slots new) c.deref.ensures.value c.step_parts.ensures) in
    let gathered = c.gather.new.now in
    let shown = c.open_ticking.new.cells in
    let opens : IsWritten (opened_by h.numbers h.left.last gathered (standing m.clocking plan.ticks plan.answers)) h.cells shown =
    subst (λ ls. IsWritten (opened_by h.numbers ls gathered (standing m.clocking plan.ticks plan.answers)) h.cells shown) c.as_slice.ensures
    (subst (λ xs. IsWritten (opened_by h.numbers c.as_slice.result.now gathered (standing m.clocking plan.ticks xs)) h.cells shown) c.deref-4.ensures.value
    (subst (λ ts. IsWritten (opened_by h.numbers c.as_slice.result.now gathered (standing m.clocking (row_ticks ts) c.deref-4.result.now)) h.cells shown) c.deref-3.ensures.value c.open_ticking.ensures)) in
    let taken = c.take_opened-behind in
    takes_share h m plan c.args.now.now new stepped gathered c.gather.ensures shown opens taken.new.cells taken.result taken.ensures.takes taken.new.now taken.ensures.values
    c.earlier.result (c.earlier.ensures ∙ ap (earlier taken.result) c.least_told-told.ensures)
