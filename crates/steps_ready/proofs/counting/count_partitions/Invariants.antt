use Rattle.std.proofs.Common.{ℕ, ◌<◌, ◌≤◌, ◌^◌, get_or}
use Rattle.std.specs.Prelude.{All}
use Rattle.steps_ready.proofs.counting.count_partitions.Given as goal

abbrev pub invariant-loop-partition : goal.invariant-loop-partition
invariant-loop-partition l = record {
  below : (k d : ℕ) → k < l.partition-index → get_or l.partitions k d < l.count;
  least : (count : ℕ) → All (λ partition. partition < count) l.partitions → l.count ≤ count;
  few : l.count ≤ 2 ^ 32;
}
