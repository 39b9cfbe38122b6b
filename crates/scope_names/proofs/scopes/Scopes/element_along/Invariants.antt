use Rattle.std.proofs.Common.{◌≡◌, map, drop}
use Rattle.class_scopes.specs.Spelled.{spelled}
use Rattle.scope_names.specs.Scopes.{element_along}
use Rattle.scope_names.proofs.scopes.Scopes.element_along.Given as goal

abbrev pub invariant-loop-number : goal.invariant-loop-number
invariant-loop-number l =
    let text = l.self.named.file.text.now in
    let classes = l.self.named.file.classes.now in
    element_along text classes (map (spelled text) (drop l.number l.parts)) l.class ≡ element_along text classes (map (spelled text) l.parts) l.initial.class
