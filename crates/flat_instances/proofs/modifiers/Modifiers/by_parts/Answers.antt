use Rattle.std.proofs.Common.{arith}
use Rattle.flat_instances.proofs.Forces.{offers_none, offers_more, offers_all}
use Rattle.flat_instances.proofs.modifiers.Modifiers.by_parts.Goals as goal

pub loop-modifier-init : goal.loop-modifier-init
loop-modifier-init c = offers_none c.args.text.now c.none-all.result c.none-all.ensures

pub loop-modifier-preserved : goal.loop-modifier-preserved
loop-modifier-preserved c =
    offers_more c.args.text.now c.args.modifiers.now c.loop-modifier.modifier-index c.modifier-item.result c.loop-modifier.all c.add_modifier.new.self (omega arith) c.modifier-item.is
    c.loop-modifier.invariant c.in_ok-add_modifier.ensures

pub returns : goal.returns
returns c = offers_all c.args.text.now c.args.modifiers.now c.loop-modifier.modifier-index c.loop-modifier.all (omega arith) c.loop-modifier.invariant
