use Rattle.std.proofs.Common.{◌≡◌, ◌<◌, ℕ, true, false, Some, slice_get, get_or}
use Rattle.flat_model.specs.declared.model.FlatName.{FlatName}
use Rattle.input_table.proofs.header.first_missing.Given as goal

abbrev pub invariant-loop-at : goal.invariant-loop-at
invariant-loop-at l = (y : ℕ) (other : FlatName) → y < l.at → slice_get l.names y ≡ Some other → other.input ≡ true → get_or l.seen y false ≡ true
