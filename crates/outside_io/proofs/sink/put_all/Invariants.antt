use Rattle.std.proofs.Common.{◌≡◌, ◌≤◌, ◌-◌, length, take}
use Rattle.outside_io.specs.Texts.{grown}
use Rattle.outside_io.proofs.sink.put_all.Given as goal

abbrev pub invariant-loop-done : goal.invariant-loop-done
invariant-loop-done g l = record {
  within : l.done ≤ length l.piece;
  text : g.O.Sink.text l.sink ≡ grown (take l.done l.piece) (g.O.Sink.text l.initial.sink);
  counts : g.O.Sink.faults l.initial.sink ≤ g.O.Sink.faults l.sink;
  quiet : g.O.Sink.faults l.sink ≡ g.O.Sink.faults l.initial.sink;
  untouched : l.done ≡ 0 → l.sink ≡ l.initial.sink;
}

abbrev pub decreases-loop-done : goal.decreases-loop-done
decreases-loop-done g l = length l.piece - l.done
