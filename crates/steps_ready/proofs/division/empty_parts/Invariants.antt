use Rattle.std.proofs.Common.{◌≡◌, ℕ, [], vec_len}
use Rattle.steps_ready.specs.Division.{part_of}
use Rattle.steps_ready.proofs.division.empty_parts.Given as goal

abbrev pub invariant-loop-turn : goal.invariant-loop-turn
invariant-loop-turn l = record {
  size : vec_len l.parts ≡ l._turn;
  empty : (k : ℕ) → part_of l.parts.items k ≡ [];
}
