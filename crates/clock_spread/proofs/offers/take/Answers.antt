use Rattle.std.proofs.Common.{rules, ◌≡◌, ◌∙◌, ◌<◌, length}
use Rattle.clock_spread.specs.declared.offers.Found.TheVariants.{Not}
use Rattle.clock_spread.specs.Found.{class_in}
use Rattle.clock_spread.proofs.Spreading.{take_more}
use Rattle.clock_spread.proofs.offers.take.Goals as goal
use Rattle.clock_spread.proofs.offers.take.Goals.{in-Not, in_default}

pub loop-relation-preserved : goal.loop-relation-preserved
loop-relation-preserved c = λ held agree.
    let none : c.offer_of-offer.result ≡ Not = elim c.match-matches.branch [ in-Not w ↦ w.in-Not.is | in_default w ↦ absurd (search rules) ] in
    let within : c.loop-relation.relation-index < length c.args.touching.now = search rules in
    take_more c.offer_of-offer.result (class_in c.args.class_of.now) held c.args.touching.now c.loop-relation.relation-index c.args.class _ none within (c.offer_of-offer.ensures.agrees held agree)
    ∙ c.loop-relation.invariant held agree
