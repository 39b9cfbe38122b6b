use Rattle.flat_model.specs.declared.clock.Moment.TheVariants.{At}
use Rattle.partition_step.specs.private.Stepping.{ticked_at}
use Rattle.partition_step.proofs.Lists.{WrittenTo}
use Rattle.partition_step.proofs.keeping.note_at.Given as goal

abbrev pub invariant-loop-j : goal.invariant-loop-j
invariant-loop-j l = WrittenTo (ticked_at (At l.at) l.clocks) l.fn.classes l.j l.classes
