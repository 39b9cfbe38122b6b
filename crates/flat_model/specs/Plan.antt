-- How many ticks and rows a run has. This project's own.
use Rattle.std.specs.Prelude.{◌≡◌, ℕ, ◌+◌, ◌<◌, ◌↔◌, List, [], ◌∷◌, count_by}
use Rattle.rational_time.specs.declared.ratio.Ratio.{Ratio}
use Rattle.rational_time.specs.Fraction.{at_most, IsTickWithin}
use Rattle.flat_model.specs.declared.clock.Clock.{Clock}
use Rattle.flat_model.specs.declared.clock.Clock.TheVariants.{Periodic, Event}
use Rattle.flat_model.specs.Setting.{Setting}

-- how many ticks and rows a run has at most
abbrev pub plan_limit : ℕ
plan_limit = 67108864

-- the rows that are not after the stop
abbrev pub rows_within : List Ratio → Ratio → ℕ
rows_within times stop = count_by (λ t. at_most t stop) times

-- a clock has n ticks not after the stop; an Event clock counts as one that ticks at each row
abbrev pub HasTicks : Ratio → ℕ → Clock → ℕ → Type 0
HasTicks stop rows (Periodic period start) n = (k : ℕ) → (k < n) ↔ IsTickWithin period start k stop
HasTicks stop rows (Event site factor shift) n = n ≡ rows

-- the ticks of all clocks together
abbrev pub HaveTicks : Ratio → ℕ → List Clock → ℕ → Type 0
HaveTicks stop rows [] n = n ≡ 0
HaveTicks stop rows (clock ∷ clocks) n = (own : ℕ) × (others : ℕ) × HasTicks stop rows clock own × HaveTicks stop rows clocks others × (n ≡ own + others)

-- the rows and the ticks of a run up to the stop
abbrev pub IsPlanned : List Clock → List Ratio → Ratio → ℕ → Type 0
IsPlanned clocks times stop count = (ticks : ℕ) × HaveTicks stop (rows_within times stop) clocks ticks × (count ≡ rows_within times stop + ticks)

-- the run of a setting up to the stop has this many rows and ticks
abbrev pub HasPlan : Setting → Ratio → ℕ → Type 0
HasPlan s stop count = IsPlanned s.clocking.clocks s.table.times stop count
