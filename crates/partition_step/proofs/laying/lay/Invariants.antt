use Rattle.std.proofs.Common.{◌≤◌, vec_len}
use Rattle.partition_step.specs.private.Laying.{AreLaidOut}
use Rattle.partition_step.proofs.laying.lay.Given as goal

abbrev pub invariant-loop-entry : goal.invariant-loop-entry
invariant-loop-entry l = record {
  laid : AreLaidOut l.clocking l.uses l.entry-index l.entries l.classes.items;
  few : vec_len l.classes ≤ l.entry-index;
}
