-- What an expression gives over the values of one moment alone.
use Rattle.std.specs.Prelude.{ℕ, zero, suc, Bool, List, Option, Some, None, slice_get}
use Rattle.sync_values.specs.declared.value.Value.{Value}
use Rattle.sync_values.specs.declared.value.Value.TheVariants as value
use Rattle.flat_model.specs.declared.operate.Answer as code
use Rattle.flat_model.specs.declared.operate.Answer.TheVariants as given
use Rattle.flat_model.specs.Operators.{Answer, Is, Fails, Absent}
use Rattle.flat_model.specs.Setting.{flattened, unclocked_view}
use Rattle.flat_model.specs.Views.{Views}

-- an answer of the code, as one of the meaning
abbrev pub stated : code.Answer → Answer
stated (given.Is v) = Is v
stated (given.Fails kind) = Fails kind
stated given.Absent = Absent

-- the truth value of an answer that is one
abbrev pub truth_in : Answer → Option Bool
truth_in (Is (value.Bool b)) = Some b
truth_in _ = None

-- a failure stays one, and nothing else is left
abbrev pub failed : Answer → Answer
failed (Fails kind) = Fails kind
failed _ = Absent

-- the value of a name among those of a moment, where it has one
abbrev pub value_in : List (Option Value) → ℕ → Option Value
value_in values x = flattened (slice_get values x)

-- what is read where these are the values of the moment: they themselves, nothing of ticks, and nothing earlier
abbrev pub views_of : List (Option Value) → Views
views_of now zero = unclocked_view (λ x m. value_in now x) 0
views_of now (suc back) = unclocked_view (λ x m. None) 0
