use Rattle.part_code.specs.private.Lines.{AreLandedTo}
use Rattle.part_code.proofs.laying.landings_for.Given as goal

abbrev pub invariant-loop-line : goal.invariant-loop-line
invariant-loop-line l = AreLandedTo l.names l.keys l.lines l.line-index l.landings.items
