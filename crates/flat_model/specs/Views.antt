-- What an equation can read at a moment.
use Rattle.std.specs.Prelude.{ℕ, ◌+◌, Bool, Option}
use Rattle.sync_values.specs.declared.value.Value.{Value}

-- a length of time in seconds, as a fraction
pub record Length : Type 0 where
  pub num : ℕ
  pub den : ℕ

-- at one moment: the value of each name now, at its tick before and at its last tick, whether the clock of the equation ticks for the first time, and how long ago it ticked before
pub record View : Type 0 where
  pub now : ℕ → Option Value
  pub previous : ℕ → Option Value
  pub last : ℕ → Option Value
  pub first : Bool
  pub interval : Length

-- the view at the moment itself (0), at the moment before (1), and so on back
abbrev pub Views : Type 0
Views = ℕ → View

-- the views from the moment before
abbrev pub before : Views → Views
before views back = views (back + 1)
