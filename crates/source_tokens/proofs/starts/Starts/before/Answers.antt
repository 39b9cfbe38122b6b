use Rattle.std.proofs.Common.{◌≡◌, ◌∙◌, ap, sym, subst, ℕ, Bool, true, false, nat_lt, rules}
use Rattle.std.specs.List.{count_by}
use Rattle.std.specs.List.Sorted.{IsNonDecreasing, IsPartitionPoint}
use Rattle.std.proofs.lemmas.List.Sorted.{IsPartitionPoint-from_clause, IsPartitionedBy-ltb}
use Rattle.source_tokens.proofs.Counts.{point_counts}
use Rattle.source_tokens.proofs.starts.Starts.before.Goals as goal

pub returns : goal.returns
returns c =
    let test : ℕ → Bool = λ place. nat_lt place c.args.byte in
    let rise : IsNonDecreasing c.as_slice.result.now = subst IsNonDecreasing (sym c.as_slice.ensures.value) c.args.self.now.placed.rise in
    let point : IsPartitionPoint (λ y. test y ≡ true) (λ y. test y ≡ false) c.as_slice.result.now c.partition_point.result =
    IsPartitionPoint-from_clause test c.as_slice.result.now c.partition_point.result c.partition_point.ensures.partitioned
    (IsPartitionedBy-ltb (λ x. x) c.as_slice.result.now c.args.byte rise) (λ a r f k. search rules) in
    point_counts test c.as_slice.result.now c.partition_point.result c.partition_point.ensures.bound point
    ∙ ap (count_by test) c.as_slice.ensures.value ∙ c.args.self.now.placed.counted c.args.byte
