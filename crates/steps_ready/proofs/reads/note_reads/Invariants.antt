use Rattle.std.proofs.Common.{◌≡◌, length}
use Rattle.tree_step.specs.Changed.{AreReadsOf}
use Rattle.steps_ready.proofs.reads.note_reads.Given as goal

abbrev pub invariant-loop-entry : goal.invariant-loop-entry
invariant-loop-entry l = record {
  long : length l.reads ≡ l.entry-index;
  are : AreReadsOf l.flat.equations l.entries l.reads;
}
