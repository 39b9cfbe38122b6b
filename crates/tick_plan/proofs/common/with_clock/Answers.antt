use Rattle.std.proofs.Common.{arith}
use Rattle.rational_time.proofs.Multiples.{IsLcm-positive}
use Rattle.std.proofs.Props.{props}
use Rattle.std.proofs.lemmas.Nat.Gcd.{le_of_dvd}
use Rattle.tick_plan.proofs.Untold.{lift, known}
use Rattle.tick_plan.proofs.Commons.{first_two, with_third, three_lcm}
use Rattle.tick_plan.proofs.common.with_clock.Goals as goal

pub common-requires-clause-within : goal.common-requires-clause-within
common-requires-clause-within c = rw c.den.ensures (lift (first_two c.args.den c.args.period.den c.args.start.den) c.requires.within)

pub common-requires-2-clause-first : goal.common-requires-2-clause-first
common-requires-2-clause-first c = IsLcm-positive c.args.den c.den.result c.common.result c.requires.some (rw c.den.ensures c.args.period.positive) c.common.ensures

pub common-requires-2-clause-within : goal.common-requires-2-clause-within
common-requires-2-clause-within c = rw c.den-2.ensures (lift (λ h. with_third c.args.den c.args.period.den c.args.start.den c.common.result h (rw c.den.ensures at c.common.ensures)) c.requires.within)

pub returns-clause-some : goal.returns-clause-some
returns-clause-some c = IsLcm-positive c.common.result c.den-2.result c.common-2.result
    (IsLcm-positive c.args.den c.den.result c.common.result c.requires.some (rw c.den.ensures c.args.period.positive) c.common.ensures) (rw c.den-2.ensures c.args.start.positive) c.common-2.ensures

pub returns-clause-own : goal.returns-clause-own
returns-clause-own c = (three_lcm c.args.den c.args.period.den c.args.start.den c.common.result c.common-2.result (rw c.den.ensures at c.common.ensures) (rw c.den-2.ensures at c.common-2.ensures)).0

pub returns-clause-period : goal.returns-clause-period
returns-clause-period c = (three_lcm c.args.den c.args.period.den c.args.start.den c.common.result c.common-2.result (rw c.den.ensures at c.common.ensures) (rw c.den-2.ensures at c.common-2.ensures)).1

pub returns-clause-start : goal.returns-clause-start
returns-clause-start c = (three_lcm c.args.den c.args.period.den c.args.start.den c.common.result c.common-2.result (rw c.den.ensures at c.common.ensures) (rw c.den-2.ensures at c.common-2.ensures)).2

pub returns-clause-least : goal.returns-clause-least
returns-clause-least c = (three_lcm c.args.den c.args.period.den c.args.start.den c.common.result c.common-2.result (rw c.den.ensures at c.common.ensures) (rw c.den-2.ensures at c.common-2.ensures)).3

pub returns-clause-small : goal.returns-clause-small
returns-clause-small c =
    let least = (three_lcm c.args.den c.args.period.den c.args.start.den c.common.result c.common-2.result (rw c.den.ensures at c.common.ensures) (rw c.den-2.ensures at c.common-2.ensures)).3 in
    known (hlevel props) (λ h. let le = le_of_dvd h.positive (least h.multiple h.divided.0 h.divided.1.0 h.divided.1.1.0) in let below = h.below in omega (arith, le, below)) c.requires.within
