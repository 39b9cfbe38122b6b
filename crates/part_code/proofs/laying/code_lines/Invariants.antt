use Rattle.part_code.specs.private.Lines.{AreCodeLines}
use Rattle.part_code.proofs.laying.code_lines.Given as goal

abbrev pub invariant-loop-line : goal.invariant-loop-line
invariant-loop-line l = AreCodeLines l.keys l.lines l.line-index l.coded.items
