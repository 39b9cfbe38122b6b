-- What is kept of a moment's values.
use Rattle.std.specs.Prelude.{ℕ, List, Option, Some, None, slice_get, unwrap_or}
use Rattle.sync_values.specs.declared.value.Value.{Value}
use Rattle.flat_model.specs.Values.{value_in}

-- the value where there is one, else the one that was kept
abbrev pub last_by : List (Option Value) → ℕ → Value → Value
last_by now at old = unwrap_or (value_in now at) old

abbrev pub now_by : List (Option Value) → ℕ → Option Value → Option Value
now_by now at old = unwrap_or (slice_get now at) old
