use Rattle.partition_step.proofs.Lists.{WrittenTo}
use Rattle.share_window.specs.private.Owning.{own_by}
use Rattle.share_window.proofs.window.copy_own.Given as goal

abbrev pub invariant-loop-at : goal.invariant-loop-at
invariant-loop-at l = WrittenTo (own_by l.own l.now) l.fn.row l.at l.row
