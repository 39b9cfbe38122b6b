use Rattle.std.proofs.Common.{refl, arith, rules, ◌<◌, ◌*◌, ◌+◌, ◌/◌, ◌%◌, ◌^◌}
use Rattle.rational_time.proofs.Floors.{IsFloor-product, floor_below}
use Rattle.rational_time.proofs.floor.floor_of_product.Goals as goal

pub overflow_mul-result : goal.overflow_mul-result
overflow_mul-result c =
    let whole : c.args.num / c.args.den * c.args.times + c.args.num % c.args.den * c.args.times / c.args.den < 2 ^ 128 =
    floor_below _ c.args.den _ _ (IsFloor-product c.args.num c.args.den c.args.times _ c.requires.divisor refl) c.requires.fits in
    let small : c.args.num / c.args.den * c.args.times < 2 ^ 128 = omega arith in
    search rules

pub overflow_add-result : goal.overflow_add-result
overflow_add-result c =
    let whole : c.args.num / c.args.den * c.args.times + c.args.num % c.args.den * c.args.times / c.args.den < 2 ^ 128 =
    floor_below _ c.args.den _ _ (IsFloor-product c.args.num c.args.den c.args.times _ c.requires.divisor refl) c.requires.fits in
    search rules

pub returns : goal.returns
returns c = IsFloor-product c.args.num c.args.den c.args.times _ c.requires.divisor refl
