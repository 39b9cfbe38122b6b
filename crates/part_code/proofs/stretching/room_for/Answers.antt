use Rattle.std.proofs.Common.{rules, subst, length, ◌≤◌, arith}
use Rattle.step_code.specs.Machine.{AreWithin}
use Rattle.part_code.proofs.Runs.{within_next, within_all}
use Rattle.part_code.proofs.stretching.room_for.Goals as goal

pub loop-one-preserved : goal.loop-one-preserved
loop-one-preserved c = record {
  least = let le = c.loop-one.invariant.least in let more = c.larger-count.ensures.first in omega (arith, le, more);
  within = within_next c.args.stretches.now c.loop-one.one-index c.loop-one.count c.larger-count.result _ c.one-item.result c.loop-one.invariant.within c.loop-one-test.true c.one-item.is c.larger-count.ensures.first
      (subst (AreWithin c.larger-count.result) c.deref.ensures.value ((c.cells_of.ensures c.larger-count.result).0 c.larger-count.ensures.second));
}

pub returns-clause-within : goal.returns-clause-within
returns-clause-within c =
    let all : length c.args.stretches.now ≤ c.loop-one.one-index = search rules in
    within_all c.args.stretches.now c.loop-one.one-index c.loop-one.count c.loop-one.invariant.within all
