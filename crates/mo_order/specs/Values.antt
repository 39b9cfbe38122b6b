-- Values that are found by rules, each from the values that are there already. This project's own.
use Rattle.std.specs.Prelude.{◌≡◌, ℕ, ◌<◌, List, Option, Some, None, slice_get, slice_set, length, replicate}
use Rattle.sync_values.specs.declared.value.Value.{Value}
use Rattle.mo_order.specs.declared.queue.Given.{Given}
use Rattle.mo_order.specs.declared.queue.Given.TheVariants.{Gives, Waits, Never}

-- the values of items by their numbers, where they are there
abbrev pub Slots : Type 0
Slots = List (Option Value)

-- what a rule gives to each item, from the values that are there
abbrev pub Rules : Type 0
Rules = Slots → ℕ → Option Value

-- the second has all values of the first
pub record Larger (old new : Slots) : Type 0 where
  pub size : length new ≡ length old
  pub keeps : (x : ℕ) (v : Value) → slice_get old x ≡ Some (Some v) → slice_get new x ≡ Some (Some v)

-- what an item is given from some values, and why not: it is given so from all larger ones, as long as what it waits
-- for has no value
abbrev pub Answers : Rules → Slots → ℕ → Given → Type 0
Answers rules slots x (Gives v) = (new : Slots) → Larger slots new → rules new x ≡ Some v
Answers rules slots x (Waits m) = (slice_get slots m ≡ Some None) × ((new : Slots) → Larger slots new → slice_get new m ≡ Some None → rules new x ≡ None)
Answers rules slots x Never = (new : Slots) → Larger slots new → rules new x ≡ None

-- so many places without a value
abbrev pub nothing : ℕ → Slots
nothing count = replicate count None

-- the values that are found from none, one after another
pub data IsFound (rules : Rules) (count : ℕ) : Slots → Type 0 where
  start : IsFound rules count (nothing count)
  more : (slots : Slots) (x : ℕ) (v : Value) → IsFound rules count slots → rules slots x ≡ Some v → slice_get slots x ≡ Some None → IsFound rules count (slice_set slots x (Some v))

-- the values are found, and nothing more is
pub record AreAll (rules : Rules) (count : ℕ) (slots : Slots) : Type 0 where
  pub found : IsFound rules count slots
  pub size : length slots ≡ count
  pub closed : (x : ℕ) (v : Value) → x < count → rules slots x ≡ Some v → slice_get slots x ≡ Some (Some v)

-- some answer says what each item is given, from any values
abbrev pub AreAnswered : Rules → Type 0
AreAnswered rules = (slots : Slots) (x : ℕ) → x < length slots → (given : Given) × Answers rules slots x given

-- rules that are answered for all values find one list of values
abbrev pub OneListLaw : Type 0
OneListLaw = (rules : Rules) (count : ℕ) (a b : Slots) → AreAnswered rules → AreAll rules count a → AreAll rules count b → a ≡ b
