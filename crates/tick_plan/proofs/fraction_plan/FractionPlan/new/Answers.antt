use Rattle.std.proofs.Common.{◌≡◌, ◌∙◌, sym, ap, subst, length, replicate, false}
use Rattle.std.proofs.lemmas.List.{length-replicate}
use Rattle.tick_plan.specs.Making.{AreCountable}
use Rattle.tick_plan.proofs.FirstPlaces.{first_whole}
use Rattle.tick_plan.proofs.NewPlans.{new_left, new_seen}
use Rattle.tick_plan.proofs.Premises.{countable, have_factors, on_one_grid}
use Rattle.tick_plan.proofs.fraction_plan.FractionPlan.new.Goals as goal

pub counted-requires-clause-clocks : goal.counted-requires-clause-clocks
counted-requires-clause-clocks c = subst AreCountable (sym c.as_slice-clocks.ensures) (countable c.args.clocking.now c.requires.clocks)

pub invariant_of-result : goal.invariant_of-result
invariant_of-result c =
    let clocks = c.as_slice-clocks.result.now in
    let course = c.in_ok-course.course in
    let first = c.in_ok-course.ensures in
    let none : c.in_ok-risings.risings.items ≡ replicate c.len-sites.result 0 = c.in_ok-risings.ensures.items_if_clones_equal (λ y h. h) in
    let silent : c.in_ok-noted.noted.items ≡ replicate c.len-sites.result false = c.in_ok-noted.ensures.items_if_clones_equal (λ y h. h) in
    let left = new_left clocks c.as_slice-times.result.now c.args.stop c.len-sites.result c.in_ok-counted.ensures course first c.in_ok-risings.risings.items none in
    record {
      whole = ∣ first_whole clocks c.as_slice-times.result.now c.args.stop course first (rw (sym c.as_slice-times.ensures) at c.requires.table.times)
          (rw (sym c.as_slice-clocks.ensures) at (countable c.args.clocking.now c.requires.clocks)) (rw (sym c.as_slice-clocks.ensures) at (have_factors c.args.clocking.now c.requires.clocks))
          (rw (sym c.as_slice-clocks.ensures) at (on_one_grid c.args.clocking.now c.requires.clocks)) c.requires.stop ∣₁;
      left = left.0;
      long = ap length none ∙ length-replicate c.len-sites.result 0 ∙ sym (length-replicate c.len-sites.result false) ∙ sym (ap length silent);
      few = left.1;
    }

pub returns : goal.returns
returns c =
    let clocks = c.as_slice-clocks.result.now in
    let none : c.in_ok-risings.risings.items ≡ replicate c.len-sites.result 0 = c.in_ok-risings.ensures.items_if_clones_equal (λ y h. h) in
    let silent : c.in_ok-noted.noted.items ≡ replicate c.len-sites.result false = c.in_ok-noted.ensures.items_if_clones_equal (λ y h. h) in
    rw (sym c.as_slice-clocks.ensures, sym c.as_slice-times.ensures, sym c.len-sites.ensures)
    (c.in_ok-counted.ensures, new_seen clocks c.as_slice-times.result.now c.args.stop c.len-sites.result c.in_ok-counted.ensures c.in_ok-course.course c.in_ok-course.ensures c.result-1.given.1.0 c.in_ok-risings.risings.items c.in_ok-noted.noted.items none silent)
