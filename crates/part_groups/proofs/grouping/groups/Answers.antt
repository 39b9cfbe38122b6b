use Rattle.std.proofs.Common.{rules, ◌≡◌, sym, subst, ◌∙◌, length, map}
use Rattle.eq_order.specs.Order.{use_of}
use Rattle.part_groups.specs.Groups.{AreGroups}
use Rattle.part_groups.specs.Units.{AreDistinct}
use Rattle.part_groups.specs.private.Owners.{AreOwners}
use Rattle.part_groups.specs.private.Joining.{ArePairs}
use Rattle.part_groups.proofs.Pairing.{pairs_below}
use Rattle.part_groups.proofs.Grouped.{are_groups}
use Rattle.part_groups.proofs.grouping.groups.Goals as goal

pub firsts-requires : goal.firsts-requires
firsts-requires c =
    let flat = c.args.flat.now in
    let order = c.args.order.now in
    let units = c.in_ok-units.units.of_use in
    let owners = c.in_ok-owners.owners.items in
    let shown : c.as_slice-of_use.result.now ≡ units = search rules in
    let owned : c.deref.result.now ≡ owners = search rules in
    let list : c.as_slice.result.now ≡ flat.equations = search rules in
    let names : c.len.result ≡ length flat.names = search rules in
    let are_owners : AreOwners (length flat.names) order units (length order) owners = subst (λ us. AreOwners (length flat.names) order us (length order) owners) shown
    (subst (λ n. AreOwners n order c.as_slice-of_use.result.now (length order) owners) names c.in_ok-owners.ensures) in
    let are : ArePairs flat.equations owners order units (length order) c.in_ok-pairs.pairs =
    subst (λ es. ArePairs es owners order units (length order) c.in_ok-pairs.pairs) list
    (subst (λ os. ArePairs c.as_slice.result.now os order units (length order) c.in_ok-pairs.pairs) owned
    (subst (λ us. ArePairs c.as_slice.result.now c.deref.result.now order us (length order) c.in_ok-pairs.pairs) shown c.in_ok-pairs.ensures)) in
    pairs_below flat c.args.count c.in_ok-units.units.count c.args.stages.now order units owners c.in_ok-pairs.pairs c.in_ok-units.ensures are_owners are

pub returns : goal.returns
returns c =
    let flat = c.args.flat.now in
    let order = c.args.order.now in
    let units = c.in_ok-units.units.of_use in
    let owners = c.in_ok-owners.owners.items in
    let shown : c.as_slice-of_use.result.now ≡ units = search rules in
    let owned : c.deref.result.now ≡ owners = search rules in
    let list : c.as_slice.result.now ≡ flat.equations = search rules in
    let names : c.len.result ≡ length flat.names = search rules in
    let are_owners : AreOwners (length flat.names) order units (length order) owners = subst (λ us. AreOwners (length flat.names) order us (length order) owners) shown
    (subst (λ n. AreOwners n order c.as_slice-of_use.result.now (length order) owners) names c.in_ok-owners.ensures) in
    let are : ArePairs flat.equations owners order units (length order) c.in_ok-pairs.pairs =
    subst (λ es. ArePairs es owners order units (length order) c.in_ok-pairs.pairs) list
    (subst (λ os. ArePairs c.as_slice.result.now os order units (length order) c.in_ok-pairs.pairs) owned
    (subst (λ us. ArePairs c.as_slice.result.now c.deref.result.now order us (length order) c.in_ok-pairs.pairs) shown c.in_ok-pairs.ensures)) in
    let made : c.from_vec.result ≡ c.in_ok-first.first.items = search rules in
    subst (λ first. AreDistinct flat (map use_of order) → AreGroups flat.equations c.args.count c.args.stages.now (map use_of order) first) (sym made)
    (are_groups flat c.args.count c.in_ok-units.units.count c.args.stages.now order units owners c.in_ok-pairs.pairs c.in_ok-units.ensures are_owners are c.in_ok-first.first.items
    (sym c.in_ok-first.first.ok.0 ∙ c.in_ok-first.ensures.length) c.in_ok-first.ensures.firsts)
