use Rattle.std.proofs.Common.{◌≡◌, map, take}
use Rattle.class_scopes.proofs.file.name_spans.Given as goal

abbrev pub invariant-loop-class : goal.invariant-loop-class
invariant-loop-class l = l.spans.items ≡ map (λ class. class.name) (take l.class-index l.classes)
