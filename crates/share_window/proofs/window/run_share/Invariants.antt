use Rattle.std.proofs.Common.{slice_get}
use Rattle.share_run.specs.Standing.{holding_of}
use Rattle.share_window.specs.Windows.{AreAsWide, row_from}
use Rattle.share_window.proofs.Windowed.{RunsSoFar}
use Rattle.share_window.proofs.window.run_share.Given as goal

abbrev pub invariant-loop-done : goal.invariant-loop-done
invariant-loop-done g l = record {
  far : RunsSoFar (holding_of l.uses l.fn.slots l.fn.cells l.fn.left) (holding_of l.uses l.slots l.cells l.left) l.model l.moments l.fn.now l.own (λ j. row_from (slice_get l.rows j)) l.done;
  columns : AreAsWide l.fn.rows l.rows;
}
