use Rattle.std.proofs.Common.{◌≡◌, map, drop}
use Rattle.class_scopes.specs.Spelled.{spelled}
use Rattle.argument_rules.specs.Paths.{along}
use Rattle.argument_rules.proofs.paths.along.Given as goal

abbrev pub invariant-loop-part : goal.invariant-loop-part
invariant-loop-part l = along l.path.items (map (spelled l.text) (drop l.part-index l.parts)) ≡ along l.prefix (map (spelled l.text) l.parts)
