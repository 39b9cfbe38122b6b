use Rattle.std.proofs.Common.{◌≢◌, ◌<◌, ◌≤◌, length, arith}
use Rattle.clock_tests.proofs.Steps.{all_more, all_done}
use Rattle.clock_tests.proofs.names.is_new.Goals as goal

pub loop-name-preserved : goal.loop-name-preserved
loop-name-preserved c =
    let within : c.loop-name.name-index < length c.args.names.now = omega (arith, c.loop-name-test.true) in
    all_more (λ name. name.text ≢ c.args.text.now) c.args.names.now c.loop-name.name-index c.name-item.result within c.name-item.is
    (λ same. absurd (cc (c.has_text.ensures.1 same, c.if-has_text.false))) c.loop-name.invariant

pub returns : goal.returns
returns c = λ _.
    let past : length c.args.names.now ≤ c.loop-name.name-index = omega (arith, c.loop-name-test.false) in
    all_done (λ name. name.text ≢ c.args.text.now) c.args.names.now c.loop-name.name-index past c.loop-name.invariant
