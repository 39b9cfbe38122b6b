use Rattle.std.proofs.Common.{rules}
use Rattle.std.proofs.lemmas.List.Sorted.{IsNonDecreasingBy-from_sort_by_key}
use Rattle.class_order.proofs.Ranking as ranking
use Rattle.class_order.proofs.ranks.by_place.Goals as goal

pub returns : goal.returns
returns c =
    ranking.by_place c.args.named.now.file.classes.now c.args.named.now.reached.items c.in_ok-placed.placed.items c.sort_by_key.new.self.items
    c.in_ok-placed.ensures c.in_ok-sort_by_key.ensures.permutation (IsNonDecreasingBy-from_sort_by_key (λ p. p.place) _ c.in_ok-sort_by_key.ensures.sorted (λ a r q k. search rules))
