use Rattle.std.proofs.Common.{◌∙◌, refl, ap, true, [], ◌∷◌, ◌++◌, slice_get}
use Rattle.flat_model.specs.declared.clock.Elapsed.TheVariants.{Period}
use Rattle.tree_step.specs.declared.frame.ClockNow.{ClockNow}
use Rattle.steps_ready.proofs.starting.always.Goals as goal

pub returns : goal.returns
returns c =
    let clock : ClockNow = record { ticks = true; first = true; interval = Period c.make.result } in record {
      clock = clock;
      found = ap (λ all. slice_get all 0) (c.in_ok-push.ensures.ok ∙ ap (λ front. front ++ clock ∷ []) c.in_ok-always.ensures);
      ticks = refl;
      measured = tt;
    }
