use Rattle.argument_rules.proofs.Repeats.{IsSeen}
use Rattle.argument_rules.proofs.paths.repeated.Given as goal

abbrev pub invariant-loop-number : goal.invariant-loop-number
invariant-loop-number l = IsSeen l.leaves l.number l.seen l.least
