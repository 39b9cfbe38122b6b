use Rattle.std.proofs.Common.{◌≡◌, ℕ, [], vec_len}
use Rattle.eq_order.specs.private.Reaching.{list_at}
use Rattle.eq_order.proofs.mirror.empty_lists.Given as goal

abbrev pub invariant-loop-turn : goal.invariant-loop-turn
invariant-loop-turn l = record {
  long : vec_len l.lists ≡ l._turn;
  empty : (y : ℕ) → list_at l.lists.items y ≡ [];
}
