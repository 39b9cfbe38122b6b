use Rattle.std.proofs.Common.{rules, ◌≡◌, ◌∙◌, ◌<◌, length, slice_index_or, subst, []}
use Rattle.std.proofs.lemmas.List.{get_or_default}
use Rattle.base_partition.specs.private.First.{Marks, AllMarked}
use Rattle.base_partition.proofs.Least.{classes_more}
use Rattle.base_partition.proofs.first.mark_all.Goals as goal

pub loop-class-preserved : goal.loop-class-preserved
loop-class-preserved c =
    let within : c.loop-class.class-index < length c.args.classes.now = search rules in
    let list : c.as_slice.result.now ≡ slice_index_or c.args.classes.now c.loop-class.class-index [] =
    c.as_slice.ensures ∙ c.class-item.is ∙ get_or_default c.args.classes.now c.loop-class.class-index c.class-item.result [] within in (
      c.mark.ensures.length ∙ c.loop-class.invariant.0,
      classes_more c.loop-class.class-index c.args.classes.now c.args.first.now c.loop-class.first c.mark.new.first within c.loop-class.invariant.1
          (subst (λ l. Marks l c.loop-class.first c.mark.new.first) list c.mark.ensures.marks),
    )

pub returns-clause-marks : goal.returns-clause-marks
returns-clause-marks c =
    let all : c.loop-class.class-index ≡ length c.args.classes.now = search rules in
    subst (λ n. AllMarked n c.args.classes.now c.args.first.now c.loop-class.first) all c.loop-class.invariant.1
