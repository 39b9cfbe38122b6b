-- The values of the names that a share owns.
use Rattle.std.specs.Prelude.{ℕ, List, Option, Some, None, slice_get}
use Rattle.sync_values.specs.declared.value.Value.{Value}
use Rattle.flat_model.specs.Values.{value_in}

-- the value of the name in a place of a list of own names, or the one that is there
abbrev pub own_from : Option ℕ → List (Option Value) → Option Value → Option Value
own_from None now old = old
own_from (Some name) now old = value_in now name

abbrev pub own_by : List ℕ → List (Option Value) → ℕ → Option Value → Option Value
own_by own now at old = own_from (slice_get own at) now old
