use Rattle.std.proofs.Common.{◌≡◌, ℕ, ◌<◌, None, take, vec_len, slice_index_or}
use Rattle.std.specs.List.{count_by}
use Rattle.clock_check.specs.private.Numbering.{number_at}
use Rattle.clock_check.proofs.numbers.numbers_of.Given as goal

abbrev pub invariant-loop-is_clocked : goal.invariant-loop-is_clocked
invariant-loop-is_clocked l = record {
  length : vec_len l.numbers ≡ l.is_clocked-index;
  next : l.next ≡ count_by (λ b. b) (take l.is_clocked-index l.fn.clocked);
  each : (c : ℕ) → c < l.is_clocked-index → slice_index_or l.numbers.items c None ≡ number_at l.fn.clocked c;
}
