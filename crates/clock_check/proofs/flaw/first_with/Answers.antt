use Rattle.std.proofs.Common.{rules, arith, ◌∙◌, ◌≤◌, refl, sym, length}
use Rattle.clock_check.specs.private.Flaws.{IsFlawAt}
use Rattle.clock_check.proofs.Counting.{flaw_more, flaw_none}
use Rattle.clock_check.proofs.flaw.first_with.Goals as goal

pub loop-class-preserved : goal.loop-class-preserved
loop-class-preserved c = λ clocked are.
    flaw_more (IsFlawAt c.args.flaw clocked c.args.grids.now) c.loop-class.class (c.loop-class.invariant clocked are)
    (λ (g, at, flaw). absurd (search (rules, c.is_flawed.ensures.1 (g, c.grid_of_class.ensures.grid clocked are ∙ at, flaw))))

pub returns-then-is_flawed : goal.returns-then-is_flawed
returns-then-is_flawed c = λ clocked are.
    let (g, at, flaw) = c.if-is_flawed.ensures.0 refl in
    ((g, sym (c.grid_of_class.ensures.grid clocked are) ∙ at, flaw), c.loop-class.invariant clocked are)

pub returns : goal.returns
returns c = λ clocked are.
    let past : length c.args.numbers.now ≤ c.loop-class.class = omega arith in
    let size = are.same_length in
    flaw_none c.args.flaw clocked c.args.grids.now c.loop-class.class (omega (arith, size, past)) (c.loop-class.invariant clocked are)
