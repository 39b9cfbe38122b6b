use Rattle.std.proofs.Common.{◌≡◌, ℕ, ◌<◌, min, length}
use Rattle.instance_totals.specs.Weights.{number_at}
use Rattle.class_sizes.specs.Tokens.{own_tokens}
use Rattle.class_sizes.proofs.tokens.token_counts.Given as goal

abbrev pub invariant-loop-class : goal.invariant-loop-class
invariant-loop-class l = record {
  size : length l.counts.items ≡ l.class;
  each : (class : ℕ) → class < l.class → number_at l.counts.items class ≡ min (own_tokens l.file.text.now l.file.classes.now l.starts.tokens.now class) l.most;
}
