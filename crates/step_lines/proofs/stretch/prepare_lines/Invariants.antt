use Rattle.step_code.specs.Code.{places_of}
use Rattle.step_lines.proofs.Preparing.{Prepared}
use Rattle.step_lines.proofs.stretch.prepare_lines.Given as goal

abbrev pub invariant-loop-i : goal.invariant-loop-i
invariant-loop-i l = Prepared (places_of l.places) l.free l.lines l.i l.out l.marks.items

abbrev pub decreases-loop-i : goal.decreases-loop-i
decreases-loop-i l = l.i
