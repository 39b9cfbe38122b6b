use Rattle.std.proofs.Common.{◌∙◌, ap, arith, ◌+◌, length, get_or}
use Rattle.tick_plan.specs.declared.leaves.Leaf.{Leaf}
use Rattle.std.proofs.lemmas.Option.{slice_get-get_or, slice_get_within}
use Rattle.tick_plan.proofs.Growing.{grown}
use Rattle.tick_plan.proofs.LeafLaws.{parts_more}
use Rattle.tick_plan.proofs.leaves.parts.Goals as goal

none : Leaf
none = record { first = 0; step = 0 }

pub loop-leaf-preserved : goal.loop-leaf-preserved
unfolding none
loop-leaf-preserved c =
    let inv = c.loop-leaf.invariant in
    let leaf = get_or c.args.leaves.now c.loop-leaf.leaf-index none in
    record {
      long = ap length c.in_ok-push.ensures.items ∙ grown c.loop-leaf.firsts.items leaf.first ∙ ap (λ n. n + 1) inv.long;
      wide = ap length c.in_ok-push-2.ensures.items ∙ grown c.loop-leaf.steps.items leaf.step ∙ ap (λ n. n + 1) inv.wide;
      each = rw (c.in_ok-push.ensures.items, c.in_ok-push-2.ensures.items) (parts_more c.args.leaves.now c.loop-leaf.leaf-index leaf c.loop-leaf.firsts.items c.loop-leaf.steps.items
          (slice_get-get_or c.args.leaves.now c.loop-leaf.leaf-index none c.loop-leaf-test.true) inv.long inv.wide inv.each);
    }

pub returns-clause-each : goal.returns-clause-each
returns-clause-each c j leaf is = c.loop-leaf.invariant.each j leaf (omega (arith, slice_get_within c.args.leaves.now j _ is, c.loop-leaf-test.false)) is
