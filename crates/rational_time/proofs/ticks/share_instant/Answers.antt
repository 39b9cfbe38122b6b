use Rattle.std.proofs.Math.Nat.{dvd_trans, pos_of_dvd_of_pos}
use Rattle.rational_time.proofs.Multiples.{IsLcm-positive, common_positive}
use Rattle.rational_time.proofs.Meetings.{units_positive, share_decided}
use Rattle.rational_time.proofs.ticks.share_instant.Goals as goal

pub common_multiple-grain-requires-clause-second : goal.common_multiple-grain-requires-clause-second
common_multiple-grain-requires-clause-second c = IsLcm-positive c.args.q.den c.args.r.den _ c.args.q.positive c.args.r.positive c.common_multiple-2.ensures

pub units-first-requires : goal.units-first-requires
units-first-requires c = dvd_trans c.args.s.den c.common_multiple.ensures.second c.common_multiple-grain.ensures.first

pub units-step-requires : goal.units-step-requires
units-step-requires c = dvd_trans c.args.p.den c.common_multiple.ensures.first c.common_multiple-grain.ensures.first

pub units-other-requires : goal.units-other-requires
units-other-requires c = dvd_trans c.args.r.den c.common_multiple-2.ensures.second c.common_multiple-grain.ensures.second

pub units-other_step-requires : goal.units-other_step-requires
units-other_step-requires c = dvd_trans c.args.q.den c.common_multiple-2.ensures.first c.common_multiple-grain.ensures.second

pub nonzero_rem-rest : goal.nonzero_rem-rest
nonzero_rem-rest c =
    let grain = common_positive _ _ _ _ _ _ _ c.args.p.positive c.args.s.positive c.args.q.positive c.args.r.positive c.common_multiple.ensures c.common_multiple-2.ensures c.common_multiple-grain.ensures in
    pos_of_dvd_of_pos c.wide_gcd-divisor.ensures.0 (units_positive _ c.args.p.num c.args.p.den _ c.requires.first_rising grain c.units-step.ensures)

pub returns : goal.returns
returns c =
    let grain = common_positive _ _ _ _ _ _ _ c.args.p.positive c.args.s.positive c.args.q.positive c.args.r.positive c.common_multiple.ensures c.common_multiple-2.ensures c.common_multiple-grain.ensures in
    share_decided c.common_multiple-grain.result c.args.s.num c.args.s.den c.args.p.num c.args.p.den c.units-first.result c.units-step.result
    c.args.r.num c.args.r.den c.args.q.num c.args.q.den c.units-other.result c.units-other_step.result c.wide_gcd-divisor.result c.abs_diff.result
    grain c.args.s.positive c.args.p.positive c.args.r.positive c.args.q.positive c.requires.first_rising c.requires.second_rising
    c.units-first.ensures c.units-step.ensures c.units-other.ensures c.units-other_step.ensures c.wide_gcd-divisor.ensures c.abs_diff.ensures

pub common_multiple-requires-clause-first : goal.common_multiple-requires-clause-first
common_multiple-requires-clause-first c = c.args.p.positive

pub common_multiple-requires-clause-second : goal.common_multiple-requires-clause-second
common_multiple-requires-clause-second c = c.args.s.positive

pub common_multiple-requires-clause-within : goal.common_multiple-requires-clause-within
common_multiple-requires-clause-within c =
    let m = c.requires.grain in
    record { multiple = m.multiple; positive = m.positive; below = m.below; divided = (m.divided.0, (m.divided.1.0, tt)) }

pub common_multiple-requires-2-clause-first : goal.common_multiple-requires-2-clause-first
common_multiple-requires-2-clause-first c = c.args.q.positive

pub common_multiple-requires-2-clause-second : goal.common_multiple-requires-2-clause-second
common_multiple-requires-2-clause-second c = c.args.r.positive

pub common_multiple-requires-2-clause-within : goal.common_multiple-requires-2-clause-within
common_multiple-requires-2-clause-within c =
    let m = c.requires.grain in
    record { multiple = m.multiple; positive = m.positive; below = m.below; divided = m.divided.1.1 }

pub common_multiple-grain-requires-clause-first : goal.common_multiple-grain-requires-clause-first
common_multiple-grain-requires-clause-first c = IsLcm-positive c.args.p.den c.args.s.den _ c.args.p.positive c.args.s.positive c.common_multiple.ensures

pub common_multiple-grain-requires-clause-within : goal.common_multiple-grain-requires-clause-within
common_multiple-grain-requires-clause-within c =
    let m = c.requires.grain in
    record {
      multiple = m.multiple;
      positive = m.positive;
      below = m.below;
      divided = (
        c.common_multiple.ensures.least m.multiple m.divided.0 m.divided.1.0,
        (c.common_multiple-2.ensures.least m.multiple m.divided.1.1.0 m.divided.1.1.1.0, tt),
      );
    }
