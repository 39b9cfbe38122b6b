use Rattle.std.proofs.Common.{sym, subst}
use Rattle.std.specs.List.{Contains}
use Rattle.std.specs.List.Sorted.{IsStrictlyIncreasing}
use Rattle.std.proofs.lemmas.List.Filters.{dedup_is}
use Rattle.std.proofs.lemmas.List.Kept.{Contains-dedup_nat, Contains-from_dedup}
use Rattle.std.proofs.lemmas.List.Sorted.{Contains-permutation, IsPermutation-sym}
use Rattle.std.proofs.lemmas.Map.Keys.{IsStrictlyIncreasing-dedup}
use Rattle.eq_order.proofs.reads.put_in_order.Goals as goal

pub returns-clause-same : goal.returns-clause-same
returns-clause-same c =
    let old = c.args.names.now.items in
    let sorted = c.sort_unstable.new.self.items in
    let order = c.sort_unstable.ensures.permutation in
    let is = dedup_is _ sorted c.dedup.new.self.items c.dedup.ensures.filtered in
    λ x. (
      λ found. Contains-permutation sorted old x (IsPermutation-sym old sorted order) (Contains-from_dedup _ sorted x (subst (λ all. Contains all x) is found)),
      λ found. subst (λ all. Contains all x) (sym is) (Contains-dedup_nat sorted x (Contains-permutation old sorted x order found)),
    )

pub returns-clause-rising : goal.returns-clause-rising
returns-clause-rising c =
    subst IsStrictlyIncreasing (sym (dedup_is _ c.sort_unstable.new.self.items c.dedup.new.self.items c.dedup.ensures.filtered))
    (IsStrictlyIncreasing-dedup c.sort_unstable.new.self.items c.sort_unstable.ensures.sorted)
