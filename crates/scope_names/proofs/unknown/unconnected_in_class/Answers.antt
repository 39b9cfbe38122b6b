use Rattle.std.proofs.Common.{◌∙◌, ap, flat_map, map}
use Rattle.class_scopes.specs.Places.{least}
use Rattle.scope_names.specs.N3.{unconnected_name}
use Rattle.scope_names.specs.Written.{joined, connected_in}
use Rattle.scope_names.proofs.Lent.{lent, added_all}
use Rattle.scope_names.proofs.WrittenNodes.{joined_map}
use Rattle.scope_names.proofs.unknown.unconnected_in_class.Goals as goal

pub returns : goal.returns
returns c =
    let f = unconnected_name c.args.scopes.now.named.file.text.now c.args.scopes.now.named.file.classes.now c.args.class in
    let all = added_all c.new-found.result.items c.connected_in_all.new.found.items _ c.new-found.ensures.items c.in_ok-connected_in_all.ensures in
    c.unconnected_among.ensures ∙ ap (λ ps. least (flat_map f (lent ps))) c.as_slice-2.ensures.value
    ∙ ap (λ ps. least (flat_map f ps)) (all ∙ ap (λ es. joined (map connected_in es)) c.as_slice.ensures ∙ joined_map connected_in c.args.definition.now.equations)
