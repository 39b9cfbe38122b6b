use Rattle.std.proofs.Common.{rules, ◌≡◌, ◌-◌, length, sym, subst, get_or, slice_get, None}
use Rattle.flat_model.specs.declared.place.Place.TheVariants as place
use Rattle.clock_terms.specs.declared.data.NodeOf.{NodeOf}
use Rattle.clock_terms.specs.Classing.{IsPlaceOf}
use Rattle.base_partition.proofs.FirstPlaces.{none_behind, node_place}
use Rattle.base_partition.proofs.placing.place.Goals as goal

pub returns-in-None : goal.returns-in-None
returns-in-None c =
    let none : NodeOf = record { equation = 0; cause = None; clause = None } in
    let past : slice_get c.args.flat.now.names c.args.first ≡ None = search rules in
    let behind = none_behind c.args.flat.now.names c.args.first past in
    let size : c.len.result ≡ length c.args.flat.now.names = search rules in
    subst (λ n. IsPlaceOf c.args.flat.now c.args.first (place.Equation (get_or c.args.nodes.now (c.args.first - n) none).equation)) (sym size)
    (node_place c.args.flat.now c.args.nodes.now c.args.first none c.requires.nodes behind c.requires.within)
