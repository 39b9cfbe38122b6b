use Rattle.std.proofs.Common.{rules, ◌≡◌, ◌<◌, length, map, None, arith}
use Rattle.flat_instances.proofs.Forces.{ended, gave, missed}
use Rattle.flat_instances.proofs.modifier.given_to.Goals as goal

pub returns-in-Some : goal.returns-in-Some
returns-in-Some c =
    let i = c.loop-modifier.modifier-index in
    let within : i < length c.args.modifiers.now = omega arith in
    gave c.args.text.now (map (λ part. part.now) c.args.path.now) c.args.modifiers.now i c.modifier-item.result within c.modifier-item.is c.loop-modifier.invariant c.gives.result c.gives.ensures c.in-Some.expr c.in-Some.is

pub loop-modifier-preserved : goal.loop-modifier-preserved
loop-modifier-preserved c =
    let i = c.loop-modifier.modifier-index in
    let within : i < length c.args.modifiers.now = omega arith in
    let none : c.gives.result ≡ None = search rules in
    missed c.args.text.now (map (λ part. part.now) c.args.path.now) c.args.modifiers.now i c.modifier-item.result within c.modifier-item.is c.loop-modifier.invariant c.gives.result c.gives.ensures none

pub returns : goal.returns
returns c = ended c.args.text.now (map (λ part. part.now) c.args.path.now) c.args.modifiers.now c.loop-modifier.modifier-index (omega arith) c.loop-modifier.invariant
