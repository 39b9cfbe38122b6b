use Rattle.std.proofs.Common.{sym, subst}
use Rattle.tick_plan.specs.private.Course.{IsWithin}
use Rattle.tick_plan.specs.Left.{HasLeft}
use Rattle.tick_plan.proofs.Gridded.{scaled_still, least_still}
use Rattle.tick_plan.proofs.Planning.{left_after, few_after, few_still, room_before, goes_on, long_after}
use Rattle.tick_plan.proofs.grid_plan.GridPlanTickSource.next.Goals as goal

pub invariant_of-self : goal.invariant_of-self
invariant_of-self c = let p = c.args.self.now in let s = rw c.in-None.is at (c.step.ensures.steps p.left.0 p.left.1) in
    let left = subst HasLeft (sym s.1) p.left in
    record {
      scaled = scaled_still p.axis c.step.new.axis p.firsts.items p.steps.items c.step.ensures.same p.scaled;
      least = least_still p.axis c.step.new.axis c.step.ensures.same p.least;
      within = subst (λ a. ∥ IsWithin a.given a.stop ∥₁) (sym s.1) p.within;
      placed = c.step.ensures.sound;
      left = left;
      long = p.long;
      few = few_still p.axis.course c.step.new.axis.course p.left.0 s.1 left p.left.1 p.risings.items p.few;
    }

pub invariant_of-self-in-Some : goal.invariant_of-self-in-Some
invariant_of-self-in-Some c = let p = c.args.self.now in let s = rw c.in-Some.is at (c.step.ensures.steps p.left.0 p.left.1) in
    let left = left_after p.axis.course c.step.new.axis.course p.left.0 c.in-Some.moment s in
    record {
      scaled = scaled_still p.axis c.step.new.axis p.firsts.items p.steps.items c.step.ensures.same p.scaled;
      least = least_still p.axis c.step.new.axis c.step.ensures.same p.least;
      within = s.4;
      placed = c.step.ensures.sound;
      left = left;
      long = long_after p.risings.items p.noted.items _ _ p.long c.count_all.ensures.risings c.count_all.ensures.noted;
      few = few_after p.axis.course c.step.new.axis.course p.left.0 c.in-Some.moment s left p.risings.items _ p.noted.items p.long c.count_all.ensures.risings p.few;
    }

pub count_all-requires-clause-few : goal.count_all-requires-clause-few
count_all-requires-clause-few c = let p = c.args.self.now in let s = rw c.in-Some.is at (c.step.ensures.steps p.left.0 p.left.1) in room_before p.axis.course c.step.new.axis.course p.left.0 c.in-Some.moment s p.risings.items p.few

pub returns-in-Some : goal.returns-in-Some
returns-in-Some c = let p = c.args.self.now in let s = rw c.in-Some.is at (c.step.ensures.steps p.left.0 p.left.1) in
    goes_on p.axis.course c.step.new.axis.course p.left.0 c.in-Some.moment s c.self-in-Some-1.given.1.1.1.1.0 p.risings.items _ p.noted.items _ c.count_all.ensures.risings c.count_all.ensures.noted
