use Rattle.std.proofs.Common.{◌≡◌, ℕ, ◌+◌, ◌<◌, All, List, length, min, None}
use Rattle.clock_terms.specs.declared.data.Relation.{Relation}
use Rattle.clock_terms.specs.Clocking.{Held}
use Rattle.clock_spread.specs.Found.{IsFineFound, NoneLost}
use Rattle.clock_spread.specs.Queue.{unmarked}
use Rattle.clock_spread.specs.Turn.{AreTouching, AreProper, Stands, said_by, after_more, IsFirstLost}
use Rattle.clock_spread.proofs.turn.spread_from.Given as goal

abbrev pub invariant-rounds : goal.invariant-rounds
invariant-rounds l = record {
  found : length l.found ≡ length l.fn.found;
  marks : length l.marks ≡ length l.fn.marks;
  fine : All IsFineFound l.found;
  last : All (λ c. c < length l.fn.lists) l.last.items;
  stands : (relations : List Relation) (held : Held) → AreTouching l.fn.class_of relations l.fn.lists
      → Stands l.fn.class_of l.fn.clocked relations l.fn.lists held l.fn.found l.fn.marks l.fn.first.items → AreProper held → NoneLost l.fn.found
      → (n : ℕ) × Stands l.fn.class_of l.fn.clocked relations l.fn.lists (after_more (said_by l.fn.class_of l.fn.clocked relations) held n) l.found l.marks l.last.items
      × IsFirstLost (said_by l.fn.class_of l.fn.clocked relations) held n l.lost × (l.lost ≡ None → NoneLost l.found);
}

abbrev pub decreases-rounds : goal.decreases-rounds
decreases-rounds l = unmarked l.marks + min 1 (length l.last.items)
