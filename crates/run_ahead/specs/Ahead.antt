-- What a runner stands for that may have run ahead of its last row. This project's own.
use Rattle.std.specs.Prelude.{◌≡◌, ℕ, zero, suc, ◌+◌, ◌≤◌, ◌<◌, List, length, map, Option, Some, None, slice_get}
use Rattle.sync_values.specs.declared.value.Value.{Value}
use Rattle.flat_model.specs.declared.clock.Moment.{Moment}
use Rattle.flat_model.specs.declared.fault.Fault.{Fault}
use Rattle.flat_model.specs.Assignment.{Assignment}
use Rattle.flat_model.specs.Faults.{IsFirstFault}
use Rattle.flat_model.specs.Meets.{Meets, MeetsBefore}
use Rattle.flat_model.specs.Moments.{moment_at}
use Rattle.flat_model.specs.Setting.{Setting}
use Rattle.flat_model.specs.Trace.{columns_of}
use Rattle.moment_theory.specs.Going.{AgreeBefore}

-- moments that were run, each with its row, and the fault behind them
pub record Window : Type 0 where
  pub moments : List Moment
  pub rows : List (List (Option Value))
  pub fault : Option Fault

-- S meets the model before n, and before each moment up to n whatever meets it has the same values
pub record IsAloneBefore (s : Setting) (S : Assignment) (n : ℕ) : Type 0 where
  pub meets : MeetsBefore s S n
  pub only : (k : ℕ) → k ≤ n → (T : Assignment) → MeetsBefore s T k → AgreeBefore S T k

-- how a window ends at n: what is kept is that of A before n, or the first fault is at n
abbrev pub EndsAt : (Setting → Assignment → ℕ → Type 0) → Setting → Assignment → ℕ → Option Fault → Type 0
EndsAt keeps s A n None = keeps s A n
EndsAt keeps s A n (Some fault) = (moment_at s.instants n ≡ Some fault.moment) × IsFirstFault s A n fault.place fault.kind × ((T : Assignment) → Meets s T n → ⊥)

-- moment and row number `at` of the window, and those behind it, are those of A from moment m on
pub record ShowsFrom (s : Setting) (A : Assignment) (m at : ℕ) (window : Window) : Type 0 where
  pub moments : (j : ℕ) → at + j < length window.moments → slice_get window.moments (at + j) ≡ moment_at s.instants (m + j)
  pub there : (j : ℕ) → at + j < length window.moments → (moment : Moment) × (moment_at s.instants (m + j) ≡ Some moment)
  pub rows : (j : ℕ) → at + j < length window.moments → slice_get window.rows (at + j) ≡ Some (map (λ x. A x (m + j)) (columns_of s.model.names))

-- a window that was run from what was kept of A before n
pub record HasRunOn (keeps : Setting → Assignment → ℕ → Type 0) (s : Setting) (A : Assignment) (n : ℕ) (window : Window) : Type 0 where
  pub after : Assignment
  pub agrees : AgreeBefore A after n
  pub alone : IsAloneBefore s after (n + length window.moments)
  pub shows : ShowsFrom s after n 0 window
  pub ends : EndsAt keeps s after (n + length window.moments) window.fault
  pub progress : length window.moments ≡ 0 → window.fault ≡ None → length s.instants < n

-- what is kept is that of some assignment before some moment, alone in meeting the model there
abbrev pub IsKept : (Setting → Assignment → ℕ → Type 0) → Type 0
IsKept keeps = (s : Setting) × (A : Assignment) × (n : ℕ) × keeps s A n × IsAloneBefore s A n

-- running a window, from what is kept before it
abbrev pub RunsOn : (Setting → Assignment → ℕ → Type 0) → (Setting → Assignment → ℕ → Type 0) → Window → Type 0
RunsOn before after window = (s : Setting) (A : Assignment) (n : ℕ) → before s A n → IsAloneBefore s A n → HasRunOn after s A n window

-- a runner: its window, and how many of the window's moments were given
pub record Running : Type 0 where
  pub window : Window
  pub given : ℕ

-- a runner stands for S before m: it has run ahead as some assignment that agrees with S before m, and what it has not yet given are the moments and rows of that one from m on
pub record Stands (keeps : Setting → Assignment → ℕ → Type 0) (runner : Running) (s : Setting) (S : Assignment) (m : ℕ) : Type 0 where
  pub some : 0 < length s.instants
  pub ahead : Assignment
  pub agrees : AgreeBefore S ahead m
  pub run : ℕ
  pub run_is : run + runner.given ≡ m + length runner.window.moments
  pub within : runner.given ≤ length runner.window.moments
  pub alone : IsAloneBefore s ahead run
  pub shows : ShowsFrom s ahead m runner.given runner.window
  pub ends : EndsAt keeps s ahead run runner.window.fault

-- a runner stands for some assignment before some moment
abbrev pub IsStanding : (Setting → Assignment → ℕ → Type 0) → Running → Type 0
IsStanding keeps runner = (s : Setting) × (S : Assignment) × (m : ℕ) × Stands keeps runner s S m

-- the place of the moment given last
abbrev pub place_before : ℕ → Option ℕ
place_before zero = None
place_before (suc given) = Some given

-- what stands at a place that may be there
abbrev pub at_place : {A : Type 0} → List A → Option ℕ → Option A
at_place xs None = None
at_place xs (Some place) = slice_get xs place

-- the moment given last, and its row
abbrev pub moment_given : Running → Option Moment
moment_given runner = at_place runner.window.moments (place_before runner.given)

abbrev pub row_given : Running → Option (List (Option Value))
row_given runner = at_place runner.window.rows (place_before runner.given)
