use Rattle.std.proofs.Common.{◌≡◌, take}
use Rattle.flat_model.proofs.copy.+copy.Given as goal

abbrev pub invariant-copied_exprs-loop-part : goal.invariant-copied_exprs-loop-part
invariant-copied_exprs-loop-part l = l.copies ≡ take l.part-index l.fn.parts
