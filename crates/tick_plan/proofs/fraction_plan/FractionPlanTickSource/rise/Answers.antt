use Rattle.std.proofs.Common.{◌∙◌, sym}
use Rattle.std.proofs.lemmas.List.{length-set}
use Rattle.tick_plan.proofs.Planning.{risen}
use Rattle.tick_plan.proofs.fraction_plan.FractionPlanTickSource.rise.Goals as goal

pub invariant_of-self : goal.invariant_of-self
invariant_of-self c = let p = c.args.self.now in record { whole = p.whole; left = p.left; long = p.long ∙ sym (length-set p.noted.items c.args.site _); few = p.few }

pub returns : goal.returns
returns c = let p = c.args.self.now in risen p.course p.left c.self-2-1.given.1.0 p.risings.items p.noted.items c.args.site
