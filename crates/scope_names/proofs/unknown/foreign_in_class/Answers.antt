use Rattle.std.proofs.Common.{◌∙◌, ap, sym, flat_map, map}
use Rattle.class_scopes.specs.Places.{least, in_option}
use Rattle.scope_names.specs.N3.{foreign_name}
use Rattle.scope_names.specs.Written.{joined, names_in_arg, names_of_short}
use Rattle.scope_names.proofs.Lent.{lent, added_all}
use Rattle.scope_names.proofs.WrittenNodes.{joined_map}
use Rattle.scope_names.proofs.unknown.foreign_in_class.Goals as goal

pub returns : goal.returns
returns c =
    let f = foreign_name c.args.text.now in
    let all = added_all c.new-found.result.items c.names_in_args.new.found.items _ c.new-found.ensures.items c.in_ok-names_in_args.ensures in
    c.foreign_among.ensures ∙ ap (λ ps. least (flat_map f (lent ps))) c.as_slice-2.ensures.value
    ∙ ap (λ ps. least (flat_map f ps)) (all ∙ ap (λ args. joined (map names_in_arg args)) c.as_slice.ensures ∙ joined_map names_in_arg c.in-Some.short.args)
    ∙ ap (λ o. least (flat_map f (in_option names_of_short o))) (sym c.in-Some.is)
