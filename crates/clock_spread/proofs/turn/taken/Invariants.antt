use Rattle.std.proofs.Common.{◌≡◌, ℕ, ◌<◌, All, vec_len, slice_index_or, []}
use Rattle.clock_terms.specs.Clocking.{Held}
use Rattle.clock_spread.specs.Rounds.{offered}
use Rattle.clock_spread.specs.Found.{IsFineFound, Agrees, Agree, IsExact, NoneLost, class_in, found_of}
use Rattle.clock_spread.proofs.turn.taken.Given as goal

abbrev pub invariant-loop-class : goal.invariant-loop-class
invariant-loop-class l = (vec_len l.news ≡ l.class-index) × All IsFineFound l.news.items
    × ((held : Held) → Agree l.fn.found held → (k : ℕ) → k < l.class-index
    → Agrees (found_of l.news.items k) (offered (class_in l.fn.class_of) held (slice_index_or l.fn.lists (slice_index_or l.fn.next k 0) []) (slice_index_or l.fn.next k 0)))
    × (NoneLost l.fn.found → (held : Held) → Agree l.fn.found held → (k : ℕ) → k < l.class-index
    → IsExact (found_of l.news.items k) (offered (class_in l.fn.class_of) held (slice_index_or l.fn.lists (slice_index_or l.fn.next k 0) []) (slice_index_or l.fn.next k 0)))
