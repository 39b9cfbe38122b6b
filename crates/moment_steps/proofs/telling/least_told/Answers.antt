use Rattle.std.proofs.Common.{arith, ap, ◌∙◌, ◌≤◌, ◌-◌}
use Rattle.moment_steps.specs.Gathered.{told_in}
use Rattle.moment_steps.proofs.Told.{told_back}
use Rattle.moment_steps.proofs.telling.least_told.Goals as goal

pub loop-place-preserved : goal.loop-place-preserved
loop-place-preserved c = record {
  within = let le = c.loop-place.invariant.within in omega (arith, le);
  told = told_back c.args.slots.now c.loop-place.place c.loop-place.told c.told_in.result c.earlier-told.result c.index-slots-place.result c.loop-place-test.true c.loop-place.invariant.within c.loop-place.invariant.told (c.told_in.ensures ∙ ap told_in c.index-slots-place.is) c.earlier-told.ensures;
}
