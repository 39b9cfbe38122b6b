use Rattle.std.proofs.Common.{◌≡◌, ◌++◌, map, drop}
use Rattle.class_scopes.specs.Spelled.{spelled, dotted, idents}
use Rattle.flat_expressions.proofs.Dots.{behind}
use Rattle.flat_expressions.proofs.spellings.dotted.Given as goal

abbrev pub invariant-loop-part : goal.invariant-loop-part
invariant-loop-part l = l.name.items ++ behind (map (spelled l.text) (drop l.part-index l.rest)) ≡ dotted (idents l.text l.path)
