use Rattle.std.proofs.Common.{◌∙◌, ap, refl, arith, Some}
use Rattle.std.proofs.lemmas.List.Filters.{dedup_is}
use Rattle.std.proofs.lemmas.List.Kept.{Contains-from_dedup}
use Rattle.std.proofs.lemmas.List.Sorted.{Contains-permutation, IsPermutation-sym}
use Rattle.std.proofs.lemmas.Option.{slice_get-get_or, slice_get_within}
use Rattle.tick_plan.proofs.Growing.{grown}
use Rattle.tick_plan.proofs.LeafLaws.{kept_once, leaf_more, all_more, all_still}
use Rattle.tick_plan.specs.private.Leaves.{leaf_at}
use Rattle.tick_plan.proofs.leaves.leaves.Goals as goal
use Rattle.tick_plan.proofs.leaves.leaves.Goals.{in-Periodic+in_ok-push, in_default}

pub returns-clause-each : goal.returns-clause-each
returns-clause-each c leaf h =
    let is = dedup_is _ _ _ c.dedup.ensures.filtered in
    c.loop-class.invariant.each leaf (Contains-permutation _ _ leaf (IsPermutation-sym _ _ c.sort_unstable.ensures.permutation) (Contains-from_dedup _ _ leaf (rw is at h)))

pub returns-clause-all : goal.returns-clause-all
returns-clause-all c i p s is =
    let one = dedup_is _ _ _ c.dedup.ensures.filtered in
    rw one (kept_once _ (λ x y. refl) _ _ (Contains-permutation _ _ _ c.sort_unstable.ensures.permutation
    (c.loop-class.invariant.all i p s (omega (arith, slice_get_within c.args.clocks.now i _ is, c.loop-class-test.false)) is)))

pub loop-class-preserved : goal.loop-class-preserved
loop-class-preserved c = let inv = c.loop-class.invariant in let lt = c.loop-class-test.true in elim c.match-clocks-class.branch [
  | in-Periodic+in_ok-push w ↦
      let at = slice_get-get_or c.args.clocks.now c.loop-class.class _ lt ∙ ap Some w.in-Periodic.is in
      rw (w.leaves-is, w.in_ok-push.ensures.items) record {
        short = omega (arith, inv.short, grown c.loop-class.leaves.items (leaf_at c.args.firsts.now c.args.steps.now c.loop-class.class));
        each = leaf_more c.args.clocks.now c.args.firsts.now c.args.steps.now c.loop-class.class w.in-Periodic.period w.in-Periodic.start c.loop-class.leaves.items at inv.each;
        all = all_more c.args.clocks.now c.args.firsts.now c.args.steps.now c.loop-class.class c.loop-class.leaves.items inv.all;
      }
  | in_default w ↦
      rw w.leaves-is record {
        short = omega (arith, inv.short);
        each = inv.each;
        all = all_still c.args.clocks.now c.args.firsts.now c.args.steps.now c.loop-class.class _ c.loop-class.leaves.items
            (slice_get-get_or c.args.clocks.now c.loop-class.class _ lt) w.in_default.not-Periodic inv.all;
      }
]

pub returns-clause-short : goal.returns-clause-short
returns-clause-short c = let moved = c.sort_unstable.ensures.len in let fewer = c.dedup.ensures.bound in let inv = c.loop-class.invariant.short in omega (arith, moved, fewer, inv, c.loop-class-test.false)
