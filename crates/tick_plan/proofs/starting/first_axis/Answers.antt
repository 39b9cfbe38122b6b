use Rattle.std.proofs.Common.{◌∙◌, ap, length}
use Rattle.tick_plan.proofs.FirstPlaces.{first_placed}
use Rattle.tick_plan.proofs.starting.first_axis.Goals as goal

pub returns-clause-sound : goal.returns-clause-sound
returns-clause-sound c = ∣ first_placed c.args.course c.args.den c.args.limit c.in_ok-nodes.nodes.items c.args.units.now.firsts.items c.args.units.now.steps.items c.in_ok-leaves-2.leaves.firsts.items c.in_ok-leaves-2.leaves.steps.items
    c.in_ok-leaves.leaves.items c.requires.first c.requires.times c.requires.grain c.requires.limit c.requires.units
    (rw (c.as_slice.ensures, c.as_slice-2.ensures.value, c.as_slice-3.ensures.value) at c.in_ok-leaves.ensures.each)
    (rw (c.as_slice.ensures, c.as_slice-2.ensures.value, c.as_slice-3.ensures.value) at c.in_ok-leaves.ensures.all)
    (c.in_ok-leaves-2.ensures.firsts ∙ ap length c.as_slice-4.ensures.value) (c.in_ok-leaves-2.ensures.steps ∙ ap length c.as_slice-4.ensures.value)
    (rw c.as_slice-4.ensures.value at c.in_ok-leaves-2.ensures.each)
    c.in_ok-nodes.ensures.tree (rw c.as_slice-5.ensures.value at c.in_ok-nodes.ensures.long) (rw c.as_slice-5.ensures.value at c.in_ok-nodes.ensures.leaves) ∣₁
