use Rattle.std.proofs.Common.{◌≡◌, ◌∙◌, sym, ap, is_some, map, arith}
use Rattle.class_scopes.specs.Places.{least, unless}
use Rattle.class_scopes.specs.Spelled.{place_of, idents, spelled}
use Rattle.scope_names.specs.N3.{unconnected_name}
use Rattle.scope_names.specs.Scopes.{element_along}
use Rattle.scope_names.proofs.Lent.{least_lent, copied_some}
use Rattle.scope_names.proofs.unknown.unconnected_among.Goals as goal

pub loop-path-preserved : goal.loop-path-preserved
loop-path-preserved c =
    let text = c.args.scopes.now.named.file.text.now in
    let classes = c.args.scopes.now.named.file.classes.now in
    let known : c.is_some-known.result ≡ is_some (element_along text classes (idents text c.path-item.result.now) c.args.class) =
    c.is_some-known.ensures ∙ sym (copied_some c.element_along.result) ∙ ap is_some c.element_along.ensures
    ∙ ap (λ ps. is_some (element_along text classes (map (spelled text) ps) c.args.class)) c.as_slice.ensures in
    least_lent (unconnected_name text classes c.args.class) c.args.paths.now c.loop-path.path-index c.path-item.result
    (omega arith) c.path-item.is c.loop-path.least c.lesser-least.result c.unless.result c.loop-path.invariant c.lesser-least.ensures
    (c.unless.ensures ∙ ap (λ known. least (unless known (place_of c.path-item.result.now))) known)
