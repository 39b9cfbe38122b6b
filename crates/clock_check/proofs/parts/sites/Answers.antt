use Rattle.std.proofs.Common.{rules, ◌<◌, length}
use Rattle.clock_check.proofs.Sites.{site_step, sites_end}
use Rattle.clock_check.proofs.parts.sites.Goals as goal

pub loop-constructor-preserved : goal.loop-constructor-preserved
loop-constructor-preserved c =
    let within : c.loop-constructor.constructor-index < length c.args.constructors.now = search rules in
    site_step c.args.constructors.now c.loop-constructor.constructor-index c.constructor-item.result c.loop-constructor.sites c.add_site.new.sites within c.constructor-item.is c.in_ok-add_site.ensures c.loop-constructor.invariant

pub returns : goal.returns
returns c = sites_end c.args.constructors.now c.loop-constructor.constructor-index c.loop-constructor.sites c.loop-constructor-test.false c.loop-constructor.invariant
