use Rattle.std.proofs.Common.{rules, refl}
use Rattle.std.proofs.lemmas.Option.{slice_get-get_or}
use Rattle.moment_steps.proofs.Marked.{same_set}
use Rattle.moment_steps.proofs.marking.clear.Goals as goal

pub loop-place-preserved : goal.loop-place-preserved
loop-place-preserved g c =
    same_set c.args.slots.now c.loop-place.slots c.loop-place.place _ _ c.loop-place.invariant (search rules) (slice_get-get_or c.loop-place.slots c.loop-place.place c.index-slots-place.result (search rules)) refl
