use Rattle.std.proofs.lemmas.List.Sorted.{IsNonDecreasingBy-from_sort}
use Rattle.source_tokens.proofs.Counts.{counted_from}
use Rattle.source_tokens.proofs.starts.Starts.open.Goals as goal

pub invariant_of-result : goal.invariant_of-result
invariant_of-result c = record {
  placed = record {
    counted = counted_from c.args.tokens.now c.in_ok-places.places.items c.sort.new.self.items c.in_ok-places.ensures c.sort.ensures.permutation;
    rise = IsNonDecreasingBy-from_sort (λ x. x) c.sort.new.self.items c.in_ok-sort.ensures.sorted;
  };
}
