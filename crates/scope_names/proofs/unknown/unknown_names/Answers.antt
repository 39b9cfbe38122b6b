use Rattle.std.proofs.Common.{◌≡◌, ◌∙◌, ap, sym, refl, ◌++◌, ◌<◌, length, flat_map, slice_get, Some}
use Rattle.std.proofs.lemmas.Bool.{ltb-true}
use Rattle.std.proofs.lemmas.Option.{slice_get_read}
use Rattle.class_scopes.specs.Places.{least, in_option}
use Rattle.class_scopes.proofs.Leasts.{least_both}
use Rattle.scope_names.specs.N3.{unknown_name, unconnected_name, foreign_name, unknown_names_in}
use Rattle.scope_names.specs.Written.{names_of_class, connected_in_class, names_of_short}
use Rattle.scope_names.proofs.unknown.unknown_names.Goals as goal

pub returns : goal.returns
returns c =
    let text = c.args.scopes.now.named.file.text.now in
    let classes = c.args.scopes.now.named.file.classes.now in
    let definition = c.in-Some.definition.now in
    let within : c.args.class < length classes = ltb-true _ _ (sym c.in-Some.ensures.lookup.0) in
    let at : slice_get classes c.args.class ≡ Some definition = slice_get_read classes (length classes) c.args.class definition refl within c.in-Some.ensures.lookup.1 in
    let one = flat_map (unknown_name text classes c.args.class) (names_of_class definition) in
    let two = flat_map (unconnected_name text classes c.args.class) (connected_in_class definition) in
    let three = flat_map (foreign_name text) (in_option names_of_short definition.short) in
    let first = least_both c.in_ok-unknown.unknown c.lesser.result c.in_ok-unconnected.unconnected one two c.in_ok-unknown.ensures c.lesser.ensures c.in_ok-unconnected.ensures in
    least_both c.lesser.result c.lesser-2.result c.in_ok-foreign.foreign (one ++ two) three first c.lesser-2.ensures c.in_ok-foreign.ensures
    ∙ ap (λ o. least (in_option (unknown_names_in text classes c.args.class) o)) (sym at)
