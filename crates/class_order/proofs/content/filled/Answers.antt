use Rattle.std.proofs.Common.{◌≡◌, ◌∙◌, ap, sym, subst, slice_set, slice_index_or, length, ◌+◌, arith}
use Rattle.std.proofs.lemmas.Option.{slice_get-get_or}
use Rattle.class_order.specs.private.Contents.{AreMarks, is_filled}
use Rattle.class_order.proofs.Depthing.{ordered_below}
use Rattle.class_order.proofs.Filling.{one_mark, all_filled}
use Rattle.class_order.proofs.content.filled.Goals as goal

pub index_mut-requires : goal.index_mut-requires
index_mut-requires c =
    let i = c.loop-class.class-index in
    let order = c.args.order.now in
    let at = slice_get-get_or order i 0 (omega arith) in
    let below = ordered_below c.args.named.now.file.text.now c.args.named.now.file.classes.now c.args.named.now.chosen c.args.named.now.reached.items order c.requires.reached c.requires.order i (slice_index_or order i 0) at in
    let size = c.loop-class.invariant.size in
    omega (arith, below, size)

pub loop-class-preserved : goal.loop-class-preserved
loop-class-preserved c =
    let text = c.args.named.now.file.text.now in
    let classes = c.args.named.now.file.classes.now in
    let i = c.loop-class.class-index in
    let order = c.args.order.now in
    let own = c.args.own.now in
    let x = slice_index_or order i 0 in
    let at = slice_get-get_or order i 0 (omega arith) in
    let below = ordered_below text classes c.args.named.now.chosen c.args.named.now.reached.items order c.requires.reached c.requires.order i x at in
    let same = c.is_filled-mark.ensures ∙ ap (λ m. is_filled text classes own m x) c.as_slice.ensures.value in
    subst (λ b. AreMarks text classes own order (i + 1) (slice_set c.loop-class.marks.items x b)) (sym same)
    (one_mark text classes c.args.named.now.chosen own order c.requires.order i x c.loop-class.marks.items c.loop-class.invariant at below)

pub returns : goal.returns
returns c =
    let text = c.args.named.now.file.text.now in
    let classes = c.args.named.now.file.classes.now in
    let order = c.args.order.now in
    let end : c.loop-class.class-index ≡ length order = omega arith in
    all_filled text classes c.args.named.now.chosen c.args.own.now order c.requires.order c.loop-class.marks.items
    (subst (λ n. AreMarks text classes c.args.own.now order n c.loop-class.marks.items) end c.loop-class.invariant)
