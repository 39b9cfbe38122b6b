use Rattle.std.proofs.Common.{◌≡◌, flat_map, map, take}
use Rattle.class_scopes.specs.Places.{least}
use Rattle.scope_names.specs.N3.{unconnected_name}
use Rattle.scope_names.proofs.unknown.unconnected_among.Given as goal

abbrev pub invariant-loop-path : goal.invariant-loop-path
invariant-loop-path l = l.least ≡ least (flat_map (unconnected_name l.scopes.named.file.text.now l.scopes.named.file.classes.now l.class) (map (λ path. path.now) (take l.path-index l.paths)))
