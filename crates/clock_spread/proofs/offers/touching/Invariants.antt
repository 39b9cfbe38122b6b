use Rattle.std.proofs.Common.{◌≡◌, ℕ, ◌<◌, vec_len, filter, slice_index_or, [], take}
use Rattle.clock_spread.specs.Found.{class_in, touches}
use Rattle.clock_spread.proofs.offers.touching.Given as goal

abbrev pub invariant-loop : goal.invariant-loop
invariant-loop l = (vec_len l.lists ≡ l.counter) × ((c : ℕ) → slice_index_or l.lists.items c [] ≡ [])

abbrev pub invariant-loop-relation : goal.invariant-loop-relation
invariant-loop-relation l = (vec_len l.lists ≡ l.fn.count)
    × ((c : ℕ) → c < l.fn.count → slice_index_or l.lists.items c [] ≡ filter (touches (class_in l.fn.class_of) c) (take l.relation-index l.fn.relations))
