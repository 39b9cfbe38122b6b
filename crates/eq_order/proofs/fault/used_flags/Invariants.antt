use Rattle.std.proofs.Common.{◌≡◌, map, length}
use Rattle.eq_order.proofs.Marks.{AreMarks}
use Rattle.eq_order.proofs.fault.used_flags.Given as goal

abbrev pub invariant-loop-entry : goal.invariant-loop-entry
invariant-loop-entry l = record {
  long : length l.used.items ≡ l.count;
  flags : AreMarks (map (λ entry. entry.equation) l.uses) l.count l.entry-index l.used.items;
}
