use Rattle.std.proofs.Common.{◌≡◌, map, take}
use Rattle.steps_ready.specs.Starting.{start_of}
use Rattle.steps_ready.proofs.starting.starts.Given as goal

abbrev pub invariant-loop-name : goal.invariant-loop-name
invariant-loop-name l = l.starts ≡ map start_of (take l.name-index l.names)
