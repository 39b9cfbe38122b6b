-- What a call of `advance` gives, and what follows from it for a run.
use Rattle.std.specs.Prelude.{◌≡◌, ◌⊎◌, ℕ, ◌+◌, ◌<◌, List, length, map, Option, Some}
use Rattle.sync_values.specs.declared.value.Value.{Value}
use Rattle.rational_time.specs.declared.ratio.Ratio.{Ratio}
use Rattle.flat_model.specs.declared.clock.Moment.TheVariants.{At}
use Rattle.flat_model.specs.declared.fault.Fault.{Fault}
use Rattle.flat_model.specs.Assignment.{Assignment}
use Rattle.flat_model.specs.Faults.{IsFirstFault}
use Rattle.flat_model.specs.Meets.{Meets}
use Rattle.flat_model.specs.Moments.{moment_at}
use Rattle.flat_model.specs.Setting.{Setting}
use Rattle.flat_model.specs.Trace.{columns_of}
use Rattle.moment_theory.specs.Going.{AgreeBefore}

-- a row with its instant, the first fault, or the end; a row that is not there is nothing
pub data Given : Type 0 where
  GaveRow : (at : Ratio) (values : List (Option Value)) → Given
  GaveFault : (fault : Fault) → Given
  GaveEnd : Given
  GaveNothing : Given

-- the moment with which a run goes on from m: m itself, or the one behind it where Initial is passed over
abbrev pub IsNext : ℕ → ℕ → Type 0
IsNext m moment = (moment ≡ m) ⊎ ((m ≡ 0) × (moment ≡ 1))

-- the row is that of the next instant: an assignment that agrees with S before m meets the model up to that instant and has the row's values there, and whatever meets the model up to it has the same values; the runner then stands for that assignment. Initial, which has no row, is passed over.
pub record GivesRow (stands : Setting → Assignment → ℕ → Type 0) (s : Setting) (S : Assignment) (m : ℕ) (at : Ratio) (values : List (Option Value)) : Type 0 where
  pub moment : ℕ
  pub next : IsNext m moment
  pub later : 0 < moment
  pub found : moment_at s.instants moment ≡ Some (At at)
  pub after : Assignment
  pub agrees : AgreeBefore S after m
  pub meets : Meets s after moment
  pub values_are : values ≡ map (λ x. after x moment) (columns_of s.model.names)
  pub stands_for : stands s after (moment + 1)
  pub only : (T : Assignment) → Meets s T moment → AgreeBefore after T (moment + 1)

-- the fault is the first one, at the next moment, over an assignment that agrees with S before m; and nothing meets the model up to it
pub record GivesFault (s : Setting) (S : Assignment) (m : ℕ) (fault : Fault) : Type 0 where
  pub moment : ℕ
  pub next : IsNext m moment
  pub found : moment_at s.instants moment ≡ Some fault.moment
  pub after : Assignment
  pub agrees : AgreeBefore S after m
  pub first : IsFirstFault s after moment fault.place fault.kind
  pub met_by_none : (T : Assignment) → Meets s T moment → ⊥

-- what is given goes on from moment m, before which the runner stood for S; at the end no moment is left
abbrev pub GoesOnFrom : (Setting → Assignment → ℕ → Type 0) → Setting → Assignment → ℕ → Given → Type 0
GoesOnFrom stands s S m (GaveRow at values) = GivesRow stands s S m at values
GoesOnFrom stands s S m (GaveFault fault) = GivesFault s S m fault
GoesOnFrom stands s S m GaveEnd = length s.instants < m
GoesOnFrom stands s S m GaveNothing = ⊥

-- a runner that stood for assignments before a moment as `before` says, and stands as `after` says, gave this
abbrev pub AdvancesAs : (Setting → Assignment → ℕ → Type 0) → (Setting → Assignment → ℕ → Type 0) → Given → Type 0
AdvancesAs before after given = (s : Setting) (S : Assignment) (m : ℕ) → before s S m → GoesOnFrom after s S m given
