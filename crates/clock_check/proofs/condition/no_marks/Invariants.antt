use Rattle.std.proofs.Common.{◌≡◌, ℕ, false, vec_len, slice_index_or}
use Rattle.clock_check.proofs.condition.no_marks.Given as goal

abbrev pub invariant-loop : goal.invariant-loop
invariant-loop l = (vec_len l.marks ≡ l.counter) × ((c : ℕ) → slice_index_or l.marks.items c false ≡ false)
