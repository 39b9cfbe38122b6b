use Rattle.std.proofs.Common.{ℕ, ◌<◌}
use Rattle.base_partition.specs.private.Marks.{IsBoth}
use Rattle.base_partition.proofs.marking.mixed.Given as goal

abbrev pub invariant-loop-c : goal.invariant-loop-c
invariant-loop-c l = (d : ℕ) → d < l.c → IsBoth l.fn.clocked l.fn.unclocked d → ⊥
