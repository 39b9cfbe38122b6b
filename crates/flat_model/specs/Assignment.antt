-- Assignments of values to names and moments, ticks, and last values.
use Rattle.std.specs.Prelude.{◌≡◌, ℕ, zero, suc, Bool, Option, Some, None, Ok, if◌then◌else◌}
use Rattle.sync_values.specs.Arithmetic.{fitted}
use Rattle.sync_values.specs.declared.value.Value.{Value}
use Rattle.sync_values.specs.declared.value.Value.TheVariants as value
use Rattle.flat_model.specs.declared.model.NameKind.{NameKind}
use Rattle.flat_model.specs.declared.model.NameKind.TheVariants as kind

-- the value of a name at a moment, or none, by their numbers
abbrev pub Assignment : Type 0
Assignment = ℕ → ℕ → Option Value

-- a value of the name's type: an Integer of 64 bits, or a Boolean; a Clock has none
abbrev pub IsOfKind : NameKind → Value → Type 0
IsOfKind kind.Integer (value.Int z) = fitted z ≡ Ok z
IsOfKind kind.Boolean (value.Bool b) = Unit {0}
IsOfKind _ _ = ⊥

-- the greatest moment before m at which a clock ticks
abbrev pub tick_before : (ℕ → Bool) → ℕ → Option ℕ
tick_before ticks zero = None
tick_before ticks (suc m) = if ticks m then Some m else tick_before ticks m

-- the value at a tick, or the start where there is no such tick
abbrev pub value_at_tick : (ℕ → Option Value) → Value → Option ℕ → Option Value
value_at_tick values start None = Some start
value_at_tick values start (Some m) = values m

-- the value at the greatest tick not after m, or the start
abbrev pub last_value : (ℕ → Bool) → (ℕ → Option Value) → Value → ℕ → Option Value
last_value ticks values start m = value_at_tick values start (tick_before ticks (suc m))

-- the value at the greatest tick before m, or the start
abbrev pub previous_value : (ℕ → Bool) → (ℕ → Option Value) → Value → ℕ → Option Value
previous_value ticks values start m = value_at_tick values start (tick_before ticks m)
