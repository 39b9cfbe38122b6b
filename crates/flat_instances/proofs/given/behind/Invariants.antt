use Rattle.std.proofs.Common.{◌≡◌, map, drop}
use Rattle.class_scopes.specs.Spelled.{spelled}
use Rattle.flat_instances.specs.Modifications.{behind}
use Rattle.flat_instances.proofs.given.behind.Given as goal

abbrev pub invariant-loop-part : goal.invariant-loop-part
invariant-loop-part l = behind (map (spelled l.text) (drop l.part-index l.parts)) (map (λ name. name.now) l.rest) ≡ behind (map (spelled l.text) l.parts) (map (λ name. name.now) l.path)
