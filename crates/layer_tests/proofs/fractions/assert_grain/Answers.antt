use Rattle.std.proofs.Common.{rules}
use Rattle.std.proofs.Math.Nat.{dvd_trans}
use Rattle.rational_time.specs.Multiple.{IsLcm}
use Rattle.layer_tests.proofs.fractions.assert_grain.Goals as goal

pub returns : goal.returns
returns g c =
    let first : IsLcm c.args.p.den c.args.s.den c.expect-first.result = search rules in
    let second : IsLcm c.args.q.den c.args.r.den c.expect-second.result = search rules in
    let whole : IsLcm c.expect-first.result c.expect-second.result c.expect-grain.result = search rules in
    record {
      multiple = c.expect-grain.result;
      positive = search rules;
      below = search rules;
      divided = (
        dvd_trans c.args.p.den first.first whole.first,
        (
          dvd_trans c.args.s.den first.second whole.first,
          (
            dvd_trans c.args.q.den second.first whole.second,
            (dvd_trans c.args.r.den second.second whole.second, tt),
          ),
        ),
      );
    }
