use Rattle.std.proofs.Common.{arith, Ok, Err, sym, subst, drop, add-one}
use Rattle.flat_model.specs.Meaning.{answers}
use Rattle.eq_orient.specs.private.Undoing.{ChecksAll}
use Rattle.eq_orient.proofs.Checking.{present_at, step_on, step_out, step_end}
use Rattle.eq_orient.proofs.solving.check_all.Goals as goal

pub eval-requires-clause-present : goal.eval-requires-clause-present
eval-requires-clause-present g c =
    present_at c.args.parts.now (g.V.Lookup.views c.args.values.now) c.loop-i.i c.index-parts-i.result c.requires.present (omega (arith, c.loop-i-test.true)) c.index-parts-i.is

pub loop-i-preserved : goal.loop-i-preserved
loop-i-preserved g c = λ r checks. c.loop-i.invariant r
    (step_on c.args.parts.now (g.V.Lookup.views c.args.values.now) c.loop-i.i c.index-parts-i.result _ r (omega (arith, c.loop-i-test.true)) c.index-parts-i.is (sym c.in-Ok.ensures)
    (subst (λ k. ChecksAll (answers (drop k c.args.parts.now) (g.V.Lookup.views c.args.values.now)) r) (add-one c.loop-i.i) checks))

pub returns-in-Err : goal.returns-in-Err
returns-in-Err g c = c.loop-i.invariant (Err c.in-Err.kind)
    (step_out c.args.parts.now (g.V.Lookup.views c.args.values.now) c.loop-i.i c.index-parts-i.result c.in-Err.kind (omega (arith, c.loop-i-test.true)) c.index-parts-i.is (sym c.in-Err.ensures))

pub returns : goal.returns
returns g c = c.loop-i.invariant (Ok tt) (step_end c.args.parts.now (g.V.Lookup.views c.args.values.now) c.loop-i.i (omega (arith, c.loop-i-test.false)))
