use Rattle.std.proofs.Common.{◌≡◌, ◌≤◌, map, drop, length}
use Rattle.moment_join.specs.Told.{earliest}
use Rattle.moment_steps.specs.Gathered.{told_in}
use Rattle.moment_steps.proofs.telling.least_told.Given as goal

abbrev pub invariant-loop-place : goal.invariant-loop-place
invariant-loop-place l = record { within : l.place ≤ length l.slots; told : l.told ≡ earliest (drop l.place (map told_in l.slots)) }

abbrev pub decreases-loop-place : goal.decreases-loop-place
decreases-loop-place l = l.place
