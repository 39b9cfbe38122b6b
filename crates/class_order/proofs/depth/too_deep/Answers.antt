use Rattle.std.proofs.Common.{◌∙◌, ap, sym, subst, ◌<◌, ◌≤◌, Some, arith}
use Rattle.class_scopes.specs.Faults.{IsFirstOf}
use Rattle.class_order.specs.N11 as N11
use Rattle.class_order.specs.private.Depths.{depth_of}
use Rattle.class_order.proofs.Depthing.{none_deep, first_deep}
use Rattle.class_order.proofs.depth.too_deep.Goals as goal

pub returns-then-depth_of-lt-TOO_DEEP : goal.returns-then-depth_of-lt-TOO_DEEP
returns-then-depth_of-lt-TOO_DEEP c =
    let same = c.depth_of.ensures ∙ ap (λ d. depth_of d c.args.named.now.chosen) c.as_slice.ensures.value in
    let less : depth_of c.in_ok-depths.depths.items c.args.named.now.chosen < 33 = omega (arith, same) in
    none_deep c.args.named.now.file.text.now c.args.named.now.file.classes.now c.args.named.now.chosen c.args.order.now c.requires.order c.in_ok-depths.depths.items c.in_ok-depths.ensures less

pub returns : goal.returns
returns c =
    let text = c.args.named.now.file.text.now in
    let classes = c.args.named.now.file.classes.now in
    let same = c.depth_of.ensures ∙ ap (λ d. depth_of d c.args.named.now.chosen) c.as_slice.ensures.value in
    let low : 33 ≤ depth_of c.in_ok-depths.depths.items c.args.named.now.chosen = omega (arith, same) in
    subst (IsFirstOf (N11.Breaks text classes (Some c.args.named.now.chosen))) (sym c.name_at.ensures)
    (first_deep text classes c.args.named.now.chosen c.args.order.now c.requires.order c.in_ok-depths.depths.items c.in_ok-depths.ensures low)
