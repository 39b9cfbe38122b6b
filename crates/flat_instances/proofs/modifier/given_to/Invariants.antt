use Rattle.std.proofs.Common.{map}
use Rattle.flat_instances.proofs.Forces.{Passes}
use Rattle.flat_instances.proofs.modifier.given_to.Given as goal

abbrev pub invariant-loop-modifier : goal.invariant-loop-modifier
invariant-loop-modifier l = Passes l.text (map (λ part. part.now) l.path) l.modifiers l.modifier-index
