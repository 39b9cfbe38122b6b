use Rattle.std.proofs.Common.{◌≡◌, ℕ, ◌<◌, ◌≤◌, vec_len}
use Rattle.eq_orient.specs.Gathered.{count_of}
use Rattle.eq_order.specs.private.Reaching.{list_at}
use Rattle.eq_order.proofs.mirror.mirrored.Given as goal

abbrev pub invariant-loop-i : goal.invariant-loop-i
invariant-loop-i l = record {
  long : vec_len l.readers ≡ l.count;
  done : (j y : ℕ) → j < l.i → count_of j (list_at l.readers.items y) ≡ count_of y (list_at l.reads j);
  later : (j y : ℕ) → l.i ≤ j → count_of j (list_at l.readers.items y) ≡ 0;
}
