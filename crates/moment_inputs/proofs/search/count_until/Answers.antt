use Rattle.std.proofs.Common.{◌≡◌, Bool, true, false, rules}
use Rattle.std.specs.List.Sorted.{IsPartitionPoint}
use Rattle.std.proofs.lemmas.List.Sorted.{IsPartitionPoint-from_clause}
use Rattle.rational_time.specs.declared.ratio.Ratio.{Ratio}
use Rattle.rational_time.specs.Fraction.{at_most}
use Rattle.moment_inputs.proofs.Searching.{point_counts, rising_parts}
use Rattle.moment_inputs.proofs.search.count_until.Goals as goal

pub returns : goal.returns
returns c =
    let test : Ratio → Bool = λ u. at_most u c.args.at in
    let point : IsPartitionPoint (λ y. test y ≡ true) (λ y. test y ≡ false) c.args.times.now c.partition_point.result =
    IsPartitionPoint-from_clause test c.args.times.now c.partition_point.result c.partition_point.ensures.partitioned
    (rising_parts c.args.times.now c.args.at c.requires) (λ a r f k. search rules) in
    point_counts test c.args.times.now c.partition_point.result c.partition_point.ensures.bound point
