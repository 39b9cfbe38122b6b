-- Laws of the meaning, which tell it from its likeliest misreadings.
use Rattle.std.specs.Prelude.{◌≡◌, ℕ, ◌+◌, ◌*◌, ◌<◌, ◌≤◌, ◌↔◌, Bool, true, Option, Some, IsSome, List, slice_get}
use Rattle.rational_time.specs.declared.ratio.Ratio.{Ratio}
use Rattle.sync_values.specs.declared.value.Fail.{Fail}
use Rattle.sync_values.specs.declared.value.Value.TheVariants as value
use Rattle.flat_model.specs.declared.clock.Clock.TheVariants.{Event}
use Rattle.flat_model.specs.declared.clock.Conversion.{Conversion}
use Rattle.flat_model.specs.declared.clock.Elapsed.TheVariants.{Between}
use Rattle.flat_model.specs.declared.clock.Moment.TheVariants.{At}
use Rattle.flat_model.specs.declared.equation.Equation.TheVariants.{Valued}
use Rattle.flat_model.specs.declared.expression.Expr.{Expr}
use Rattle.flat_model.specs.declared.expression.Expr.TheVariants.{Read, Hold, Convert}
use Rattle.flat_model.specs.declared.fault.FaultPlace.TheVariants as place
use Rattle.flat_model.specs.Operators.{Is}
use Rattle.flat_model.specs.Assignment.{Assignment, tick_before}
use Rattle.flat_model.specs.Clocks.{ShareInstant}
use Rattle.flat_model.specs.Faults.{SiteFails, EquationFails, IsFirstToFail}
use Rattle.flat_model.specs.Given.{IsKnown, HasLastValue}
use Rattle.flat_model.specs.Intervals.{length_of}
use Rattle.flat_model.specs.Moments.{moment_at}
use Rattle.flat_model.specs.Occurrences.{bare_count}
use Rattle.flat_model.specs.Plan.{HasTicks}
use Rattle.flat_model.specs.Setting.{Setting, clock_of, site_answer, rises, risings_before, clock_ticks, name_ticks, interval_at}
use Rattle.flat_model.specs.Uses.{Use, IsSolvableFor}

-- an Event clock ticks where its site rises and so many risings came before: its shift, and whole multiples of its factor more
abbrev pub EventTickLaw : Type 0
EventTickLaw = (s : Setting) (S : Assignment) (m : ℕ) (t : Ratio) (site factor shift : ℕ) → 0 < factor
    → (clock_ticks s S m (Some (At t)) (Event site factor shift) ≡ true)
    ↔ ((rises s S site m ≡ true) × ((k : ℕ) × (risings_before s S site m ≡ factor * k + shift)))

-- its interval is the time since its tick before
abbrev pub EventIntervalLaw : Type 0
EventIntervalLaw = (s : Setting) (ticks : ℕ → Bool) (m k site factor shift : ℕ) (t u : Ratio) → tick_before ticks m ≡ Some k
    → moment_at s.instants k ≡ Some (At t) → moment_at s.instants m ≡ Some (At u)
    → interval_at s ticks m (Some (Event site factor shift)) ≡ length_of (Between t u)

-- it counts in the plan as one that ticks at each row
abbrev pub EventPlanLaw : Type 0
EventPlanLaw = (stop : Ratio) (rows site factor shift : ℕ) → HasTicks stop rows (Event site factor shift) rows

-- it shares instants with those of its own site alone
abbrev pub EventAxisLaw : Type 0
EventAxisLaw = (a f g b h k : ℕ) → ShareInstant (Event a f g) (Event b h k) → a ≡ b

-- where it is known whether an Event clock ticks, the condition of its site has a value
abbrev pub KnownLaw : Type 0
KnownLaw = (s : Setting) (S : Assignment) (m : ℕ) (class : Option ℕ) (site factor shift : ℕ) → clock_of s class ≡ Some (Event site factor shift)
    → IsKnown s S m class → (b : Bool) × (site_answer s S site m ≡ Is (value.Bool b))

-- a name whose clock ticks has a last value only where it has its value of now
abbrev pub LastValueLaw : Type 0
LastValueLaw = (s : Setting) (S : Assignment) (m y : ℕ) → name_ticks s S y m ≡ true → HasLastValue s S m y → IsSome (S y m)

-- an equation is not solvable for a name that stands in it also under `hold` or under a conversion
abbrev pub HeldAsideLaw : Type 0
HeldAsideLaw = (x : ℕ) (clause : Option ℕ) → IsSolvableFor x (Valued (Read x) (Hold x) clause) → ⊥

abbrev pub ConvertedAsideLaw : Type 0
ConvertedAsideLaw = (x : ℕ) (conversion : Conversion) (clause : Option ℕ) → IsSolvableFor x (Valued (Read x) (Convert conversion x) clause) → ⊥

-- a site that fails has values of all names that its condition reads
abbrev pub SiteReadsLaw : Type 0
SiteReadsLaw = (s : Setting) (S : Assignment) (m site : ℕ) (kind : Fail) (condition : Expr) → slice_get s.clocking.sites site ≡ Some condition
    → SiteFails s S m site kind → (y : ℕ) → 0 < bare_count y condition → IsSome (S y m)

-- the first site to fail is the failing one of least number, and so is the first equation
abbrev pub FirstSiteLaw : Type 0
FirstSiteLaw = (s : Setting) (S : Assignment) (uses : List Use) (m site other : ℕ) (kind k : Fail) → IsFirstToFail s S uses m (place.Site site) kind
    → SiteFails s S m other k → site ≤ other

abbrev pub FirstEquationLaw : Type 0
FirstEquationLaw = (s : Setting) (S : Assignment) (uses : List Use) (m i j : ℕ) (kind k : Fail) → IsFirstToFail s S uses m (place.Equation i) kind
    → EquationFails s S uses m j k → i ≤ j

-- an equation is the first to fail only where no site fails
abbrev pub SitesFirstLaw : Type 0
SitesFirstLaw = (s : Setting) (S : Assignment) (uses : List Use) (m i site : ℕ) (kind k : Fail) → IsFirstToFail s S uses m (place.Equation i) kind
    → SiteFails s S m site k → ⊥
