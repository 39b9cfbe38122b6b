use Rattle.std.proofs.Common.{rules, arith, ◌+◌, ◌<◌, ◌≤◌, refl, sym, subst, length, take}
use Rattle.std.proofs.lemmas.List.{take_all}
use Rattle.clock_spread.specs.Least.{IsLeastOf, IsNumberIn}
use Rattle.clock_spread.proofs.Leasts.{least_more}
use Rattle.sub_clock_solve.specs.private.Failing.{FailsGiven}
use Rattle.sub_clock_solve.proofs.conflict.relation_conflict.Goals as goal

pub loop-relation-preserved : goal.loop-relation-preserved
loop-relation-preserved c = λ held agree proper.
    let i = c.loop-relation.relation-index in
    let within : c.loop-relation.relation-index < length c.args.relations.now = search rules in
    let test = c.fails.ensures held agree proper in
    subst (λ o. IsLeastOf (IsNumberIn (λ r. r.equation) (FailsGiven c.args.class_of.now held) (take (i + 1) c.args.relations.now)) o) (sym c.lesser-least.ensures)
    (least_more (λ r. r.equation) (FailsGiven c.args.class_of.now held) c.args.relations.now i _ c.loop-relation.least _ c.fails.result within refl test.0 test.1 (c.loop-relation.invariant held agree proper))

pub returns : goal.returns
returns c = λ held agree proper.
    let past : length c.args.relations.now ≤ c.loop-relation.relation-index = omega arith in
    subst (λ l. IsLeastOf (IsNumberIn (λ r. r.equation) (FailsGiven c.args.class_of.now held) l) c.loop-relation.least)
    (take_all c.loop-relation.relation-index c.args.relations.now past) (c.loop-relation.invariant held agree proper)
