use Rattle.std.proofs.Common.{◌≡◌, map, drop}
use Rattle.class_scopes.specs.Spelled.{spelled}
use Rattle.argument_rules.specs.Targets.{target}
use Rattle.argument_rules.proofs.target.target_along.Given as goal

abbrev pub invariant-loop-number : goal.invariant-loop-number
invariant-loop-number l =
    let text = l.scopes.named.file.text.now in
    let classes = l.scopes.named.file.classes.now in
    target text classes (map (spelled text) (drop l.number l.parts)) l.type_name ≡ target text classes (map (spelled text) l.parts) l.initial.type_name
