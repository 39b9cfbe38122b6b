use Rattle.std.proofs.Common.{rules, ◌≡◌}
use Rattle.clock_check.specs.Checking.{HaveFactors, StartInTime, AreShiftsWhole}
use Rattle.clock_check.proofs.checking.broken_rule.Goals as goal

pub missing_factor-requires-clause-ends : goal.missing_factor-requires-clause-ends
missing_factor-requires-clause-ends c =
    let class_of : c.as_slice-class_of.result.now ≡ c.args.classes.now.class_of = search rules in
    let relations : c.as_slice.result.now ≡ c.args.terms.now.relations = search rules in
    rw (class_of, relations) (λ k d lt. let both = c.requires.fit.ends k d lt in (both.0.within, both.1.within))

pub returns-in-Some : goal.returns-in-Some
returns-in-Some c =
    let class_of : c.as_slice-class_of.result.now ≡ c.args.classes.now.class_of = search rules in
    let relations : c.as_slice.result.now ≡ c.args.terms.now.relations = search rules in
    let least = c.in-Some.ensures {u = tt} c.args.classes.now.clocked c.requires.numbers in
    rw (class_of, relations) at least

pub returns-in-Some-first_with : goal.returns-in-Some-first_with
returns-in-Some-first_with c =
    let class_of : c.as_slice-class_of.result.now ≡ c.args.classes.now.class_of = search rules in
    let relations : c.as_slice.result.now ≡ c.args.terms.now.relations = search rules in
    let none = c.in_default.ensures {u = tt} c.args.classes.now.clocked c.requires.numbers in
    let factors : HaveFactors c.args.terms.now c.args.classes.now c.args.grids.now = rw (class_of, relations) at none in
    (factors, c.in-Some-first_with.ensures {u = tt} c.args.classes.now.clocked c.requires.numbers)

pub returns-in-Some-first_with-2 : goal.returns-in-Some-first_with-2
returns-in-Some-first_with-2 c =
    let class_of : c.as_slice-class_of.result.now ≡ c.args.classes.now.class_of = search rules in
    let relations : c.as_slice.result.now ≡ c.args.terms.now.relations = search rules in
    let none = c.in_default.ensures {u = tt} c.args.classes.now.clocked c.requires.numbers in
    let factors : HaveFactors c.args.terms.now c.args.classes.now c.args.grids.now = rw (class_of, relations) at none in
    let in_time : StartInTime c.args.terms.now c.args.classes.now c.args.grids.now = (factors, c.in_default-first_with.ensures {u = tt} c.args.classes.now.clocked c.requires.numbers) in
    (in_time, c.in-Some-first_with-2.ensures {u = tt} c.args.classes.now.clocked c.requires.numbers)

pub returns-in-Some-first_with-3 : goal.returns-in-Some-first_with-3
returns-in-Some-first_with-3 c =
    let class_of : c.as_slice-class_of.result.now ≡ c.args.classes.now.class_of = search rules in
    let relations : c.as_slice.result.now ≡ c.args.terms.now.relations = search rules in
    let none = c.in_default.ensures {u = tt} c.args.classes.now.clocked c.requires.numbers in
    let factors : HaveFactors c.args.terms.now c.args.classes.now c.args.grids.now = rw (class_of, relations) at none in
    let in_time : StartInTime c.args.terms.now c.args.classes.now c.args.grids.now = (factors, c.in_default-first_with.ensures {u = tt} c.args.classes.now.clocked c.requires.numbers) in
    let shifts : AreShiftsWhole c.args.terms.now c.args.classes.now c.args.grids.now = (in_time, c.in_default-first_with-2.ensures {u = tt} c.args.classes.now.clocked c.requires.numbers) in
    (shifts, c.in-Some-first_with-3.ensures {u = tt} c.args.classes.now.clocked c.requires.numbers)

pub returns : goal.returns
returns c =
    let class_of : c.as_slice-class_of.result.now ≡ c.args.classes.now.class_of = search rules in
    let relations : c.as_slice.result.now ≡ c.args.terms.now.relations = search rules in
    let none = c.in_default.ensures {u = tt} c.args.classes.now.clocked c.requires.numbers in
    let factors : HaveFactors c.args.terms.now c.args.classes.now c.args.grids.now = rw (class_of, relations) at none in
    let in_time : StartInTime c.args.terms.now c.args.classes.now c.args.grids.now = (factors, c.in_default-first_with.ensures {u = tt} c.args.classes.now.clocked c.requires.numbers) in
    let shifts : AreShiftsWhole c.args.terms.now c.args.classes.now c.args.grids.now = (in_time, c.in_default-first_with-2.ensures {u = tt} c.args.classes.now.clocked c.requires.numbers) in
    (shifts, c.in_default-first_with-3.ensures {u = tt} c.args.classes.now.clocked c.requires.numbers)
