use Rattle.std.proofs.Common.{◌∙◌, ap, sym, subst, slice_set, slice_index_or, ◌+◌, arith}
use Rattle.std.proofs.lemmas.Option.{slice_get-get_or}
use Rattle.class_order.specs.private.Depths.{AreDepths, deepest}
use Rattle.class_order.proofs.Depthing.{ordered_below, one_depth}
use Rattle.class_order.proofs.depth.depths.Goals as goal

pub index_mut-requires : goal.index_mut-requires
index_mut-requires c =
    let i = c.loop-class.class-index in
    let order = c.args.order.now in
    let at = slice_get-get_or order i 0 (omega arith) in
    let below = ordered_below c.args.named.now.file.text.now c.args.named.now.file.classes.now c.args.named.now.chosen c.args.named.now.reached.items order c.requires.reached c.requires.order i (slice_index_or order i 0) at in
    let size = c.loop-class.invariant.size in
    omega (arith, below, size)

pub loop-class-preserved : goal.loop-class-preserved
loop-class-preserved c =
    let text = c.args.named.now.file.text.now in
    let classes = c.args.named.now.file.classes.now in
    let i = c.loop-class.class-index in
    let order = c.args.order.now in
    let x = slice_index_or order i 0 in
    let at = slice_get-get_or order i 0 (omega arith) in
    let below = ordered_below text classes c.args.named.now.chosen c.args.named.now.reached.items order c.requires.reached c.requires.order i x at in
    let same = c.deepest-depth.ensures ∙ ap (λ d. deepest text classes d x) c.as_slice.ensures.value in
    subst (λ d. AreDepths text classes order (i + 1) (slice_set c.loop-class.depths.items x d)) (sym same)
    (one_depth text classes c.args.named.now.chosen order c.requires.order i x c.loop-class.depths.items c.loop-class.invariant at below)
