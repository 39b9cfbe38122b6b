use Rattle.std.proofs.Common.{◌<◌, ◌≤◌, length, arith}
use Rattle.first_failure.specs.Careful.{IsLoneWithin}
use Rattle.failure_tests.proofs.Steps.{all_more, all_done}
use Rattle.failure_tests.proofs.careful.are_within.Goals as goal

pub loop-one-preserved : goal.loop-one-preserved
loop-one-preserved c =
    let within : c.loop-one.one-index < length c.args.lines.now = omega (arith, c.loop-one-test.true) in
    all_more (IsLoneWithin c.args.count) c.args.lines.now c.loop-one.one-index c.one-item.result within c.one-item.is (c.is_within.ensures c.if-not-is_within.false) c.loop-one.invariant

pub returns : goal.returns
returns c = λ _.
    let past : length c.args.lines.now ≤ c.loop-one.one-index = omega (arith, c.loop-one-test.false) in
    all_done (IsLoneWithin c.args.count) c.args.lines.now c.loop-one.one-index past c.loop-one.invariant
