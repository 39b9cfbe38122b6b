use Rattle.std.proofs.Common.{◌≡◌, ◌≤◌, ◌+◌, ◌-◌, ℕ, List, vec_len}
use Rattle.outside_io.specs.Files.{known}
use Rattle.outside_io.proofs.Fronts.{IsFront}
use Rattle.outside_io.proofs.whole.read_whole.Given as goal

abbrev pub invariant-loop-part : goal.invariant-loop-part
invariant-loop-part g l = record {
  front : IsFront (known (g.S.Shelf.held l.initial.shelf) (g.S.Shelf.gives_empty l.initial.shelf) l.name) l.bytes.items;
  counts : (other : List ℕ) → g.S.Shelf.faults l.initial.shelf other ≤ g.S.Shelf.faults l.shelf other;
  quiet : (other : List ℕ) → g.S.Shelf.faults l.shelf other ≡ g.S.Shelf.faults l.initial.shelf other;
  holds : g.S.Shelf.held l.shelf ≡ g.S.Shelf.held l.initial.shelf;
  flag : g.S.Shelf.gives_empty l.shelf ≡ g.S.Shelf.gives_empty l.initial.shelf;
}

abbrev pub decreases-loop-part : goal.decreases-loop-part
decreases-loop-part g l = l.limit + 1 - vec_len l.bytes
