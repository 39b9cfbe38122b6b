use Rattle.keyed_code.specs.Table.{table_of}
use Rattle.step_lines.proofs.Preparing.{Prepared}
use Rattle.keyed_code.proofs.stretch.prepare_stretch.Given as goal

abbrev pub invariant-loop-i : goal.invariant-loop-i
invariant-loop-i l = Prepared (table_of l.table) l.free l.lines l.i l.out l.marks.items

abbrev pub decreases-loop-i : goal.decreases-loop-i
decreases-loop-i l = l.i
