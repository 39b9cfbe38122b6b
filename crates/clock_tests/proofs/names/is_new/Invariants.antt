use Rattle.std.proofs.Common.{◌≢◌, All, take}
use Rattle.clock_tests.proofs.names.is_new.Given as goal

abbrev pub invariant-loop-name : goal.invariant-loop-name
invariant-loop-name l = All (λ name. name.text ≢ l.text) (take l.name-index l.names)
