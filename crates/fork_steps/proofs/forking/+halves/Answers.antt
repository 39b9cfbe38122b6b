use Rattle.std.proofs.Common.{rules, arith, refl, ◌-◌, ◌/◌, ◌<◌, ◌≤◌}
use Rattle.fork_steps.proofs.Stepped.{stepped_both, ready_front, ready_back}
use Rattle.fork_steps.proofs.forking.+halves.Goals as goal

pub step_among-step_both-requires : goal.step_among-step_both-requires
step_among-step_both-requires g t c κs within =
    let few : c.min-parts.result ≤ c.args.workers = omega (arith, c.min-parts.ensures) in
    let two : 2 ≤ c.min-parts.result = c.if-parts-lt2.false in
    let some : (0 < c.min-parts.result / 2) × (0 < c.min-parts.result - c.min-parts.result / 2) = (omega arith, omega arith) in
    let cut = c.split_at_mut-front in
    let front = ready_front (λ piece. g.T.Step.can_step piece c.args.scene.now) c.args.slots.now cut.result.0.now cut.result.1.now cut.ensures.value c.requires in
    let back = ready_back (λ piece. g.T.Step.can_step piece c.args.scene.now) c.args.slots.now cut.result.0.now cut.result.1.now cut.ensures.value c.requires in
    (search rules, (within.0, (within.1.0, (within.1.1.0, (within.1.1.1, (search rules, (search rules, (search rules, (search rules, (some, (front, back)))))))))))

pub step_among-returns : goal.step_among-returns
step_among-returns g t c =
    let cut = c.split_at_mut-front in
    stepped_both (λ old new. g.T.Step.steps old c.args.scene.now new) c.args.slots.now _ cut.result.0.now cut.result.1.now c.step_both.new.front c.step_both.new.back cut.ensures.value refl c.step_both.ensures.front c.step_both.ensures.back
