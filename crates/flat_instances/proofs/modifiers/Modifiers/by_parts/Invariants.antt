use Rattle.std.proofs.Common.{take}
use Rattle.flat_instances.proofs.Forces.{Offers}
use Rattle.flat_instances.proofs.modifiers.Modifiers.by_parts.Given as goal

abbrev pub invariant-loop-modifier : goal.invariant-loop-modifier
invariant-loop-modifier l = Offers l.text (take l.modifier-index l.modifiers) l.all
