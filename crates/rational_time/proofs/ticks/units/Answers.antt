use Rattle.std.proofs.Common.{arith, ap, ◌*◌, ◌≡◌, ◌/◌}
use Rattle.std.proofs.Math.Nat.{div-mul_cancel}
use Rattle.rational_time.proofs.ticks.units.Goals as goal

pub returns : goal.returns
returns c =
    let whole : c.args.grain / c.args.a.den * c.args.a.den ≡ c.args.grain = div-mul_cancel c.args.a.den c.requires in
    rw (c.from.ensures, c.from-2.ensures) (omega (arith, ap (λ z. c.args.a.num * z) whole))
