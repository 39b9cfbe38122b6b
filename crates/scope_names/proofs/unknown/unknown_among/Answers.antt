use Rattle.std.proofs.Common.{◌∙◌, ap, arith}
use Rattle.class_scopes.specs.Places.{least, unless}
use Rattle.class_scopes.specs.Spelled.{place_of}
use Rattle.scope_names.specs.N3.{unknown_name}
use Rattle.scope_names.proofs.Lent.{least_lent}
use Rattle.scope_names.proofs.unknown.unknown_among.Goals as goal

pub loop-path-preserved : goal.loop-path-preserved
loop-path-preserved c =
    least_lent (unknown_name c.args.scopes.now.named.file.text.now c.args.scopes.now.named.file.classes.now c.args.class) c.args.paths.now c.loop-path.path-index c.path-item.result
    (omega arith) c.path-item.is c.loop-path.least c.lesser-least.result c.unless.result c.loop-path.invariant c.lesser-least.ensures
    (c.unless.ensures ∙ ap (λ known. least (unless known (place_of c.path-item.result.now))) c.is_known_name.ensures)
