use Rattle.std.proofs.Common.{◌≢◌, arith, ◌∙◌, get_or}
use Rattle.std.proofs.lemmas.List.{length-set}
use Rattle.mo_connect.specs.Chain.{stay}
use Rattle.mo_connect.specs.private.Links.{parent_of}
use Rattle.mo_connect.proofs.Links.{kept_all, reads, climb_keeps, climb_links}
use Rattle.mo_connect.proofs.forest.find_root.Goals as goal

pub loop-at-init : goal.loop-at-init
loop-at-init c = record {
  below = omega arith;
  within = c.requires.within;
  kept = kept_all c.args.parents.now c.requires.falls;
  linked = stay c.args.start;
}

pub bounds-parents-parent : goal.bounds-parents-parent
bounds-parents-parent c =
    let low = c.loop-at.invariant.kept.falls c.loop-at.at in
    let is = reads c.loop-at.parents c.loop-at.at c.loop-at.invariant.kept.falls c.loop-at.invariant.within in
    omega (arith, is.0, low, c.loop-at.invariant.within)

pub loop-at-smaller : goal.loop-at-smaller
loop-at-smaller c =
    let low = c.loop-at.invariant.kept.falls c.loop-at.at in
    let lower = c.loop-at.invariant.kept.falls (parent_of c.loop-at.parents c.loop-at.at) in
    let is = reads c.loop-at.parents c.loop-at.at c.loop-at.invariant.kept.falls c.loop-at.invariant.within in
    let other : parent_of c.loop-at.parents c.loop-at.at ≢ c.loop-at.at = λ same. c.if-parent-at.false (is.0 ∙ same) in
    omega (arith, is.1, low, lower, other)

pub loop-at-preserved : goal.loop-at-preserved
loop-at-preserved c =
    let low = c.loop-at.invariant.kept.falls c.loop-at.at in
    let lower = c.loop-at.invariant.kept.falls (parent_of c.loop-at.parents c.loop-at.at) in
    let is = reads c.loop-at.parents c.loop-at.at c.loop-at.invariant.kept.falls c.loop-at.invariant.within in
    let longer = length-set c.loop-at.parents c.loop-at.at (get_or c.loop-at.parents (get_or c.loop-at.parents c.loop-at.at 0) 0) in
    record {
      below = omega (arith, is.1, low, lower, c.loop-at.invariant.below);
      within = omega (arith, is.1, low, lower, longer, c.loop-at.invariant.within);
      kept = climb_keeps c.args.parents.now c.loop-at.parents c.loop-at.at _ c.loop-at.invariant.within is.1 c.loop-at.invariant.kept;
      linked = climb_links c.loop-at.parents c.args.start c.loop-at.at _ c.loop-at.invariant.kept.falls c.loop-at.invariant.within is.1 c.loop-at.invariant.linked;
    }
