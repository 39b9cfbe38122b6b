use Rattle.std.proofs.Common.{rules, refl}
use Rattle.std.proofs.lemmas.Option.{slice_get-get_or}
use Rattle.moment_steps.proofs.Marked.{same_first, same_set, marked_set, marked_past}
use Rattle.moment_steps.proofs.marking.mark_one.Goals as goal

pub returns-then-place-slots-clause-same : goal.returns-then-place-slots-clause-same
returns-then-place-slots-clause-same g c =
    same_set c.args.slots.now c.args.slots.now c.args.place _ _ (same_first c.args.slots.now) c.if-place-slots.true (slice_get-get_or c.args.slots.now c.args.place c.index-slots-place.result c.if-place-slots.true) refl

pub returns-then-place-slots-clause-marks : goal.returns-then-place-slots-clause-marks
returns-then-place-slots-clause-marks g c = marked_set c.args.slots.now c.args.place _ c.if-place-slots.true refl

pub returns-else-place-slots-clause-marks : goal.returns-else-place-slots-clause-marks
returns-else-place-slots-clause-marks g c = marked_past c.args.slots.now c.args.place c.if-place-slots.false
