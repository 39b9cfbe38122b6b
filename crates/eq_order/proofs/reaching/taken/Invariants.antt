use Rattle.std.proofs.Common.{◌≡◌, ℕ, ◌<◌, ◌+◌, ◌++◌, true, sum, get_or, length, List, vec_len}
use Rattle.std.specs.Ordering.{nat_cmp}
use Rattle.std.specs.BTreeSet.{contains, btree_set_len}
use Rattle.eq_order.specs.private.Reaching.{CanTake, AreTaken, flags_after, AreLeft}
use Rattle.eq_order.specs.declared.uses.Use.{Use}
use Rattle.eq_order.proofs.reaching.taken.Given as goal

abbrev pub invariant-loop-i : goal.invariant-loop-i
invariant-loop-i l = record {
  within : (i : ℕ) → contains nat_cmp l.ready i ≡ true → i < l.i;
  ready : (i : ℕ) → i < l.i → get_or l.left.items i 0 ≡ 1 → contains nat_cmp l.ready i ≡ true;
}

abbrev pub invariant-loop-i-2 : goal.invariant-loop-i-2
invariant-loop-i-2 l = record {
  long : length l.reached ≡ length l.fn.reached;
  counted : vec_len l.left ≡ length l.equations;
  within : (i : ℕ) → contains nat_cmp l.ready i ≡ true → i < length l.equations;
  left : AreLeft l.reads l.reached l.left.items;
  ready : (i x : ℕ) → CanTake l.equations l.reads l.reached i x → contains nat_cmp l.ready i ≡ true;
  taken : (rest : List Use) → AreTaken l.equations l.reads l.reached rest → AreTaken l.equations l.reads l.fn.reached (l.uses ++ rest);
  flags : flags_after l.fn.reached l.uses ≡ l.reached;
}

abbrev pub decreases-loop-i-2 : goal.decreases-loop-i-2
decreases-loop-i-2 l = btree_set_len l.ready + sum l.left.items
