use Rattle.partition_step.specs.Steps.{Showing}
use Rattle.moment_steps.specs.Ticked.{row_ticks}
use Rattle.moment_steps.proofs.Side.{stepped_at}
use Rattle.moment_steps.proofs.stepping.step_parts.Goals as goal

pub returns : goal.returns
returns g c =
    let scene = c.args.scene.now in
    let showing : Showing = record { equations = scene.flat.now.equations; places = scene.places.now; moment = scene.at; ticks = row_ticks scene.ticks.now; answers = scene.answers.now; left = scene.left.now } in
    stepped_at showing c.args.partitions.now c.args.slots.now c.mark.new.slots c.step_slots.new.slots c.mark.ensures.same c.mark.ensures.marked c.step_slots.ensures
