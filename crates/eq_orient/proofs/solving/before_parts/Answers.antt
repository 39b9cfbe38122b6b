use Rattle.std.proofs.Common.{arith, ◌≡◌, ◌<◌, ◌-◌, Ok, Err, length, get_or, sym, ap, subst, ◌∙◌}
use Rattle.std.proofs.lemmas.List.{get_or-map, length-map}
use Rattle.flat_model.specs.Meaning.{value_of, answers}
use Rattle.eq_orient.specs.private.Undoing.{HasValue}
use Rattle.eq_orient.proofs.Undoing.{nothing_undone, step_back, step_none, any_default}
use Rattle.eq_orient.proofs.solving.before_parts.Goals as goal

pub eval-requires-clause-present : goal.eval-requires-clause-present
eval-requires-clause-present g c =
    let h : HasValue (g.V.Lookup.views c.args.values.now) c.index-parts-i.result =
    subst (HasValue (g.V.Lookup.views c.args.values.now)) (sym c.index-parts-i.is) (c.requires.values (c.loop-i.i - 1) c.index-parts-i.result (omega (arith, c.loop-i.invariant.within, c.loop-i-test.true, c.requires.long))) in
    λ absent. cc (absent, h.1)

pub unreachable-requires : goal.unreachable-requires
unreachable-requires g c =
    let h : HasValue (g.V.Lookup.views c.args.values.now) c.index-parts-i.result =
    subst (HasValue (g.V.Lookup.views c.args.values.now)) (sym c.index-parts-i.is) (c.requires.values (c.loop-i.i - 1) c.index-parts-i.result (omega (arith, c.loop-i.invariant.within, c.loop-i-test.true, c.requires.long))) in
    cc (c.in_default.ensures, h.1)

pub loop-i-preserved : goal.loop-i-preserved
loop-i-preserved g c =
    let v = g.V.Lookup.views c.args.values.now in
    let j = c.loop-i.i - 1 in
    let part = c.index-parts-i.result in
    let inside : j < length c.args.ops.now = omega (arith, c.loop-i.invariant.within, c.loop-i-test.true) in
    let within : j < length (answers c.args.parts.now v) = omega (arith, inside, c.requires.long, length-map c.args.parts.now (λ it. value_of it v)) in
    let is : value_of part v ≡ get_or (answers c.args.parts.now v) j (value_of part v) =
    ap (λ it. value_of it v) c.index-parts-i.is ∙ sym (get_or-map (λ it. value_of it v) c.args.parts.now j part (value_of part v) (omega (arith, inside, c.requires.long))) in
    record {
      within = omega (arith, inside);
      fits = c.in-Ok-before_part.ensures.0;
      back = λ r undone. c.loop-i.invariant.back r
          (step_back c.args.ops.now (answers c.args.parts.now v) c.loop-i.i j (omega (arith, c.loop-i-test.true)) c.requires.sums
          _ c.in-Ok.right (value_of part v) inside within (any_default c.args.ops.now j _ _ inside) is (sym c.in-Ok.ensures)
          c.loop-i.total c.in-Ok-before_part.before r c.in-Ok-before_part.ensures undone);
    }

pub returns-in-Err : goal.returns-in-Err
returns-in-Err g c =
    let v = g.V.Lookup.views c.args.values.now in
    let j = c.loop-i.i - 1 in
    let part = c.index-parts-i.result in
    let inside : j < length c.args.ops.now = omega (arith, c.loop-i.invariant.within, c.loop-i-test.true) in
    let within : j < length (answers c.args.parts.now v) = omega (arith, inside, c.requires.long, length-map c.args.parts.now (λ it. value_of it v)) in
    let is : value_of part v ≡ get_or (answers c.args.parts.now v) j (value_of part v) =
    ap (λ it. value_of it v) c.index-parts-i.is ∙ sym (get_or-map (λ it. value_of it v) c.args.parts.now j part (value_of part v) (omega (arith, inside, c.requires.long))) in
    c.loop-i.invariant.back (Err c.in-Err.kind)
    (step_none c.args.ops.now (answers c.args.parts.now v) c.loop-i.i j (omega (arith, c.loop-i-test.true)) c.requires.sums
    _ c.in-Ok.right (value_of part v) inside within (any_default c.args.ops.now j _ _ inside) is (sym c.in-Ok.ensures)
    c.loop-i.total c.in-Err.kind c.in-Err.ensures)

pub returns : goal.returns
returns g c =
    c.loop-i.invariant.back (Ok c.loop-i.total)
    (nothing_undone c.args.ops.now (answers c.args.parts.now (g.V.Lookup.views c.args.values.now)) c.loop-i.i c.loop-i.total (omega (arith, c.loop-i-test.false)) c.loop-i.invariant.fits)
