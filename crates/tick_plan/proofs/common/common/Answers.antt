use Rattle.std.proofs.Props.{props}
use Rattle.tick_plan.proofs.Untold.{known}
use Rattle.rational_time.proofs.Multiples.{lcm_fits}
use Rattle.tick_plan.proofs.common.common.Goals as goal

pub unwrap-requires : goal.unwrap-requires
unwrap-requires c = known (hlevel props) (λ h. lcm_fits c.args.a c.args.b c.lcm.result h c.lcm.ensures.none) c.requires.within
