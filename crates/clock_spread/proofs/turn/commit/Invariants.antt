use Rattle.std.proofs.Common.{◌≡◌, All, length}
use Rattle.clock_spread.specs.Found.{IsFineFound}
use Rattle.clock_spread.specs.Turn.{Commits}
use Rattle.clock_spread.proofs.turn.commit.Given as goal

abbrev pub invariant-loop-i : goal.invariant-loop-i
invariant-loop-i l = (length l.found ≡ length l.fn.found) × All IsFineFound l.found × Commits l.i l.fn.next l.fn.news l.fn.found l.found
