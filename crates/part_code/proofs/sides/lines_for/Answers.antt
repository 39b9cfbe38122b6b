use Rattle.std.proofs.Common.{rules, ◌≡◌, refl, true, ap, ◌∙◌, ◌<◌, length, arith}
use Rattle.std.specs.Result.{is_ok}
use Rattle.part_code.specs.private.Lines.{expr_of}
use Rattle.part_code.proofs.Growing.{joined_next}
use Rattle.part_code.proofs.sides.lines_for.Goals as goal

pub loop-i-preserved : goal.loop-i-preserved
loop-i-preserved c =
    let inside : c.loop-i.i < length c.args.sides.now = omega (arith, c.requires, c.loop-i-test.true) in
    let good : is_ok c.push.result ≡ true = search rules in
    let pushed = rw good at c.push.ensures.items in (
      joined_next c.args.entries.now c.args.sides.now c.loop-i.i c.loop-i.lines.items c.push.new.self.items _ c.index-sides-i.result _ c.loop-i.invariant.0 c.loop-i-test.true inside refl refl
          (c.expression.ensures ∙ ap expr_of c.index-sides-i.is) pushed,
      omega (arith, c.loop-i-test.true),
    )
