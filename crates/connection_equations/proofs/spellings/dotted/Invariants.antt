use Rattle.std.proofs.Common.{◌≡◌, ◌++◌, map, drop}
use Rattle.class_scopes.specs.Spelled.{spelled, dotted, idents}
use Rattle.connection_equations.proofs.Dots.{behind}
use Rattle.connection_equations.proofs.spellings.dotted.Given as goal

abbrev pub invariant-loop-part : goal.invariant-loop-part
invariant-loop-part l = l.name.items ++ behind (map (spelled l.text) (drop l.part-index l.rest)) ≡ dotted (idents l.text l.path)
