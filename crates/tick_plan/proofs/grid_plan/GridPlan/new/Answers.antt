use Rattle.std.proofs.Common.{◌≡◌, ◌∙◌, sym, ap, subst, length, replicate, false}
use Rattle.std.proofs.lemmas.List.{length-replicate}
use Rattle.tick_plan.specs.private.Grid.{HaveFactors}
use Rattle.tick_plan.specs.Making.{IsCommonOf, AreCountable}
use Rattle.tick_plan.specs.NewPlan.{IsFirstCourse}
use Rattle.tick_plan.proofs.NewPlans.{new_left, new_seen, first_within}
use Rattle.tick_plan.proofs.Premises.{countable, have_factors, on_one_grid}
use Rattle.tick_plan.proofs.grid_plan.GridPlan.new.Goals as goal

pub counted-requires-clause-clocks : goal.counted-requires-clause-clocks
counted-requires-clause-clocks c = subst AreCountable (sym c.as_slice-clocks.ensures) (countable c.args.clocking.now c.requires.clocks)

pub common_den-den-requires : goal.common_den-den-requires
common_den-den-requires c = subst IsCommonOf (sym c.as_slice-clocks.ensures) (on_one_grid c.args.clocking.now c.requires.clocks)

pub scaled-requires-clause-countable : goal.scaled-requires-clause-countable
scaled-requires-clause-countable c = subst AreCountable (sym c.as_slice-clocks.ensures) (countable c.args.clocking.now c.requires.clocks)

pub scaled-requires-clause-factors : goal.scaled-requires-clause-factors
scaled-requires-clause-factors c = subst HaveFactors (sym c.as_slice-clocks.ensures) (have_factors c.args.clocking.now c.requires.clocks)

pub invariant_of-result : goal.invariant_of-result
invariant_of-result c =
    let clocks = c.as_slice-clocks.result.now in
    let axis = c.in_ok-axis.axis in
    let first : IsFirstCourse clocks c.as_slice-times.result.now c.args.stop axis.course = subst (IsFirstCourse clocks c.as_slice-times.result.now c.args.stop) (sym c.in_ok-axis.ensures.course) c.in_ok-course.ensures in
    let none : c.in_ok-risings.risings.items ≡ replicate c.len-sites.result 0 = c.in_ok-risings.ensures.items_if_clones_equal (λ y h. h) in
    let silent : c.in_ok-noted.noted.items ≡ replicate c.len-sites.result false = c.in_ok-noted.ensures.items_if_clones_equal (λ y h. h) in
    let left = new_left clocks c.as_slice-times.result.now c.args.stop c.len-sites.result c.in_ok-counted.ensures axis.course first c.in_ok-risings.risings.items none in
    record {
      scaled = ∣ rw (first.clocks_are, c.in_ok-axis.ensures.den, c.in_ok-axis.ensures.limit) c.in_ok-units.ensures ∣₁;
      least = ∣ rw (first.clocks_are, c.in_ok-axis.ensures.den) c.common_den-den.ensures.least ∣₁;
      within = first_within clocks c.as_slice-times.result.now c.args.stop axis.course first;
      placed = c.in_ok-axis.ensures.sound;
      left = left.0;
      long = ap length none ∙ length-replicate c.len-sites.result 0 ∙ sym (length-replicate c.len-sites.result false) ∙ sym (ap length silent);
      few = left.1;
    }

pub returns : goal.returns
returns c =
    let clocks = c.as_slice-clocks.result.now in
    let axis = c.in_ok-axis.axis in
    let first : IsFirstCourse clocks c.as_slice-times.result.now c.args.stop axis.course = subst (IsFirstCourse clocks c.as_slice-times.result.now c.args.stop) (sym c.in_ok-axis.ensures.course) c.in_ok-course.ensures in
    let none : c.in_ok-risings.risings.items ≡ replicate c.len-sites.result 0 = c.in_ok-risings.ensures.items_if_clones_equal (λ y h. h) in
    let silent : c.in_ok-noted.noted.items ≡ replicate c.len-sites.result false = c.in_ok-noted.ensures.items_if_clones_equal (λ y h. h) in
    rw (sym c.as_slice-clocks.ensures, sym c.as_slice-times.ensures, sym c.len-sites.ensures)
    (c.in_ok-counted.ensures, new_seen clocks c.as_slice-times.result.now c.args.stop c.len-sites.result c.in_ok-counted.ensures axis.course first c.result-1.given.1.1.1.1.0 c.in_ok-risings.risings.items c.in_ok-noted.noted.items none silent)
