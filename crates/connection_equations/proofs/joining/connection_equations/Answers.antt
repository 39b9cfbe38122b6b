use Rattle.std.proofs.Common.{◌≡◌, ◌∙◌, ap, sym, subst, flat_map, map}
use Rattle.class_scopes.specs.Tables.{number_of}
use Rattle.flat_instances.specs.Kept.{seen}
use Rattle.mo_connect.specs.Chain.{AreBelow}
use Rattle.mo_connect.specs.Classes.{AreClasses}
use Rattle.connection_equations.specs.Sets.{equations_of_set}
use Rattle.connection_equations.proofs.Belows.{pairs_below}
use Rattle.connection_equations.proofs.joining.connection_equations.Goals as goal

pub sets-requires : goal.sets-requires
sets-requires c =
    let text = c.args.joiner.now.scopes.now.named.file.text.now in
    let classes = c.args.joiner.now.scopes.now.named.file.classes.now in
    let number = number_of c.args.joiner.now.names.now in
    subst (AreBelow c.args.joiner.now.count) (sym c.in_ok-pairs.ensures)
    (pairs_below text classes number c.args.joiner.now.count c.args.joiner.now.below (map (seen text classes) c.args.items.now))

pub returns-clause-only : goal.returns-clause-only
returns-clause-only c others are =
    let same : are.sets ≡ c.in_ok-classes.classes =
    c.in_ok-classes.ensures.only are.sets (subst (λ pairs. AreClasses c.args.joiner.now.count pairs are.sets) (sym c.in_ok-pairs.ensures) are.classes) in
    are.are ∙ ap (flat_map equations_of_set) (same ∙ sym c.as_slice.ensures) ∙ sym c.in_ok-equations_of.ensures
