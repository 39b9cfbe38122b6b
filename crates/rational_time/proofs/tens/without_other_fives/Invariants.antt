use Rattle.std.proofs.Common.{◌<◌}
use Rattle.std.specs.Int.{IsGcd}
use Rattle.rational_time.proofs.tens.without_other_fives.Given as goal

-- where the rest has no common divisor with `num`, the denominator has none
abbrev pub invariant-loop-rest : goal.invariant-loop-rest
invariant-loop-rest l = record {
  apart : IsGcd l.num l.rest 1 → IsGcd l.num l.den 1;
  positive : 0 < l.rest;
}

abbrev pub decreases-loop-rest : goal.decreases-loop-rest
decreases-loop-rest l = l.rest
