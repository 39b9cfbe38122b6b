use Rattle.std.proofs.Common.{◌≡◌, ◌≤◌, map, take, length, Ok}
use Rattle.flat_types.specs.private.Checked.{checked}
use Rattle.flat_types.proofs.reader.Reader.equations.Given as goal

abbrev pub invariant-loop-i : goal.invariant-loop-i
invariant-loop-i l = record { within : l.i ≤ length l.equations; found : map (checked l.self.names.now l.clocks) (take l.i l.equations) ≡ map (λ equation. Ok equation) l.found }
