use Rattle.std.proofs.Common.{◌<◌, ◌≤◌, length, arith}
use Rattle.flat_model.specs.RawModels.{HasClauseBelow}
use Rattle.clock_tests.proofs.Steps.{all_more, all_done}
use Rattle.clock_tests.proofs.equations.are_below.Goals as goal

pub loop-equation-preserved : goal.loop-equation-preserved
loop-equation-preserved c =
    let within : c.loop-equation.equation-index < length c.args.equations.now = omega (arith, c.loop-equation-test.true) in
    all_more (HasClauseBelow c.args.count) c.args.equations.now c.loop-equation.equation-index c.equation-item.result within c.equation-item.is
    (c.is_below.ensures c.if-not-is_below.false) c.loop-equation.invariant

pub returns : goal.returns
returns c = λ _.
    let past : length c.args.equations.now ≤ c.loop-equation.equation-index = omega (arith, c.loop-equation-test.false) in
    all_done (HasClauseBelow c.args.count) c.args.equations.now c.loop-equation.equation-index past c.loop-equation.invariant
