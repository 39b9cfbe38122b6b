use Rattle.std.proofs.Common.{rules, ◌≡◌, ◌<◌, ◌++◌, [], ◌∷◌, length, sym, subst, get_or, take}
use Rattle.std.proofs.lemmas.List.{take_more}
use Rattle.clock_terms.specs.Classing.{IsPlaceOf}
use Rattle.base_partition.specs.private.Placed.{ArePlaces}
use Rattle.base_partition.proofs.FirstPlaces.{places_push}
use Rattle.base_partition.proofs.placing.places.Goals as goal

pub loop-first-preserved : goal.loop-first-preserved
loop-first-preserved c =
    let model = c.args.flat.now in
    let i = c.loop-first.first-index in
    let x = get_or c.args.firsts.now c.loop-first.first-index 0 in
    let p = c.in_ok-place.field-0 in
    let within : c.loop-first.first-index < length c.args.firsts.now = search rules in
    let placed : IsPlaceOf c.args.flat.now (get_or c.args.firsts.now c.loop-first.first-index 0) c.in_ok-place.field-0 = search rules in
    let e : c.push.new.self ≡ c.loop-first.places ++ c.in_ok-place.field-0 ∷ [] = search rules in
    let more = take_more c.args.firsts.now i 0 within in
    subst (λ fs. ArePlaces model fs c.push.new.self) (sym more)
    (subst (λ ps. ArePlaces model (take i c.args.firsts.now ++ x ∷ []) ps) (sym e) (places_push model (take i c.args.firsts.now) c.loop-first.places x p placed c.loop-first.invariant))
