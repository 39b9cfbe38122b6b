use Rattle.std.proofs.Common.{◌<◌, refl, length, arith}
use Rattle.std.proofs.lemmas.Option.{slice_get_read}
use Rattle.clock_tests.proofs.equations.is_used.Goals as goal

pub returns-then-stands_in : goal.returns-then-stands_in
returns-then-stands_in c = λ _.
    let within : c.loop-equation.equation-index < length c.args.equations.now = omega (arith, c.loop-equation-test.true) in (
      c.loop-equation.equation-index,
      c.equation-item.result,
      slice_get_read c.args.equations.now (length c.args.equations.now) c.loop-equation.equation-index c.equation-item.result refl within c.equation-item.is,
      c.stands_in.ensures c.if-stands_in.true,
    )
