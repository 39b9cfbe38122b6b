use Rattle.std.proofs.Common.{◌≡◌, ℕ, ◌+◌, ◌<◌, length, get_or}
use Rattle.flat_model.specs.declared.model.FlatName.{FlatName}
use Rattle.flat_model.specs.Models.{IsName}
use Rattle.input_tests.proofs.models.names.Given as goal

abbrev pub invariant-loop-at : goal.invariant-loop-at
invariant-loop-at g l = record {
  long : length l.names ≡ l.at;
  each : (k : ℕ) (d : FlatName) → k < length l.names → IsName (get_or l.names k d) × (length (get_or l.names k d).text ≡ k + 1);
}
