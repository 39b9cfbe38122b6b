use Rattle.part_code.specs.private.Lines.{AreSidesTo}
use Rattle.part_code.proofs.sides.sides_for.Given as goal

abbrev pub invariant-loop-entry : goal.invariant-loop-entry
invariant-loop-entry l = AreSidesTo l.flat.equations l.entries l.entry-index l.sides.items
