use Rattle.std.proofs.Common.{◌≡◌, length}
use Rattle.class_order.specs.private.Ranks.{AreRanks}
use Rattle.class_order.proofs.ranks.ranks_of.Given as goal

abbrev pub invariant-loop-rank : goal.invariant-loop-rank
invariant-loop-rank l = record {
  size : length l.ranks.items ≡ l.classes;
  are : AreRanks l.placed l.rank l.ranks.items;
}
