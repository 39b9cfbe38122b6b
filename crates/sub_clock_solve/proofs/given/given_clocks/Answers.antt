use Rattle.std.proofs.Common.{rules, ◌<◌, length}
use Rattle.clock_terms.specs.Source.{sources_of}
use Rattle.sub_clock_solve.proofs.Giving.{constructor_step, constructors_end}
use Rattle.sub_clock_solve.proofs.given.given_clocks.Goals as goal

pub loop-constructor-preserved : goal.loop-constructor-preserved
loop-constructor-preserved c =
    let within : c.loop-constructor.constructor-index < length c.args.constructors.now = search rules in
    constructor_step c.args.constructors.now c.loop-constructor.constructor-index c.constructor-item.result c.loop-constructor.site c.in_ok-site.site c.loop-constructor.givens.items c.add.new.givens.items
    (sources_of c.args.constructors.now) within c.constructor-item.is (c.in_ok-site.ensures {u = tt}) c.loop-constructor.invariant

pub returns : goal.returns
returns c = constructors_end c.args.constructors.now c.loop-constructor.constructor-index c.loop-constructor.site c.loop-constructor.givens.items (sources_of c.args.constructors.now) c.loop-constructor-test.false c.loop-constructor.invariant
