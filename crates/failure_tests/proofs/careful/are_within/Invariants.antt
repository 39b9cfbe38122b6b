use Rattle.std.proofs.Common.{All, take}
use Rattle.first_failure.specs.Careful.{IsLoneWithin}
use Rattle.failure_tests.proofs.careful.are_within.Given as goal

abbrev pub invariant-loop-one : goal.invariant-loop-one
invariant-loop-one l = All (IsLoneWithin l.count) (take l.one-index l.lines)
