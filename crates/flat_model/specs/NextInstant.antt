-- The instant after the one given last.
use Rattle.std.specs.Prelude.{◌≡◌, ℕ, ◌*◌, ◌<◌, List, Option, Some, slice_get}
use Rattle.rational_time.specs.declared.ratio.Ratio.{Ratio}
use Rattle.rational_time.specs.Fraction.{Same, Below, AtMost}
use Rattle.flat_model.specs.declared.clock.Clock.{Clock}
use Rattle.flat_model.specs.declared.clock.Moment.{Moment}
use Rattle.flat_model.specs.declared.clock.Moment.TheVariants.{At}
use Rattle.flat_model.specs.Moments.{IsDue, IsRising}

-- u is after the moment given last, if that was an instant
abbrev pub IsAfter : Option Moment → Ratio → Type 0
IsAfter (Some (At t)) u = Below t u
IsAfter _ u = Unit {0}

-- n/d is after the moment given last, if that was an instant
abbrev pub AreUnitsAfter : Option Moment → ℕ → ℕ → Type 0
AreUnitsAfter (Some (At t)) n d = t.num * d < n * t.den
AreUnitsAfter _ n d = Unit {0}

-- t is the first instant after the moment given last
pub record IsNext (clocks : List Clock) (times : List Ratio) (stop : Ratio) (given : Option Moment) (t : Ratio) : Type 0 where
  pub due : IsDue clocks times stop t
  pub later : IsAfter given t
  pub first : (u : Ratio) → IsDue clocks times stop u → IsAfter given u → AtMost t u

-- no instant is left
abbrev pub NoneIsNext : List Clock → List Ratio → Ratio → Option Moment → Type 0
NoneIsNext clocks times stop given = (u : Ratio) → IsDue clocks times stop u → IsAfter given u → ⊥

-- the instants after the moment given last: every one that is due, once, in order
pub record AreLeft (clocks : List Clock) (times : List Ratio) (stop : Ratio) (given : Option Moment) (instants : List Ratio) : Type 0 where
  pub rising : IsRising instants
  pub each : (j : ℕ) (t : Ratio) → slice_get instants j ≡ Some t → IsDue clocks times stop t × IsAfter given t
  pub all : (t : Ratio) → IsDue clocks times stop t → IsAfter given t → (j : ℕ) × (u : Ratio) × (slice_get instants j ≡ Some u) × Same t u
