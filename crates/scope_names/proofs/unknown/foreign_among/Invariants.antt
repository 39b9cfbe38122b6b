use Rattle.std.proofs.Common.{◌≡◌, flat_map, map, take}
use Rattle.class_scopes.specs.Places.{least}
use Rattle.scope_names.specs.N3.{foreign_name}
use Rattle.scope_names.proofs.unknown.foreign_among.Given as goal

abbrev pub invariant-loop-path : goal.invariant-loop-path
invariant-loop-path l = l.least ≡ least (flat_map (foreign_name l.text) (map (λ path. path.now) (take l.path-index l.paths)))
