use Rattle.std.proofs.Common.{◌≡◌, ℕ, None, vec_len, slice_index_or}
use Rattle.clock_terms.proofs.gather.no_leads.Given as goal

abbrev pub invariant-loop-turn : goal.invariant-loop-turn
invariant-loop-turn l = (vec_len l.leads ≡ l._turn) × ((c : ℕ) → slice_index_or l.leads.items c None ≡ None)
