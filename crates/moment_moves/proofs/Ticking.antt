-- A plan that is at a moment tells the ticks of that moment.
use Rattle.std.proofs.Common.{◌≡◌, refl, ap₂, ◌∙◌, ℕ, ◌-◌, ◌%◌, ◌==◌, ◌&&◌, nat_le, false, Option, Some, None, slice_get}
use Rattle.flat_model.specs.declared.clock.Clock.{Clock}
use Rattle.flat_model.specs.declared.clock.Clock.TheVariants.{Periodic, Event}
use Rattle.flat_model.specs.declared.clock.Moment.{Moment}
use Rattle.flat_model.specs.declared.clock.Moment.TheVariants.{Initial, At}
use Rattle.flat_model.specs.Moments.{moment_at}
use Rattle.flat_model.specs.Assignment.{Assignment}
use Rattle.flat_model.specs.Setting.{Setting, clock_ticks, ticks_in, class_ticks}
use Rattle.tick_plan.specs.Plans.{Planned, clock_ticks_in, ticks_in_plan}
use Rattle.run_moments.specs.Moving.{IsPlanAt}

same_clock : (s : Setting) (S : Assignment) (m : ℕ) (plan : Planned) (moment : Option Moment) (clock : Clock) → IsPlanAt s S m plan → clock_ticks_in plan moment (Some clock) ≡ clock_ticks s S m moment clock
same_clock s S m plan None clock is = refl
same_clock s S m plan (Some Initial) clock is = refl
same_clock s S m plan (Some (At t)) (Periodic period start) is = refl
same_clock s S m plan (Some (At t)) (Event site factor shift) is =
    ap₂ (λ b n. b && nat_le shift n && (n - shift) % factor == 0) (is.noted site) (is.risings site)

none_ticks : (plan : Planned) (moment : Option Moment) → clock_ticks_in plan moment None ≡ false
none_ticks plan None = refl
none_ticks plan (Some Initial) = refl
none_ticks plan (Some (At t)) = refl

same_in : (s : Setting) (S : Assignment) (m : ℕ) (plan : Planned) (clock : Option Clock) → IsPlanAt s S m plan → clock_ticks_in plan (moment_at s.instants m) clock ≡ ticks_in s S m clock
same_in s S m plan None is = none_ticks plan (moment_at s.instants m)
same_in s S m plan (Some clock) is = same_clock s S m plan (moment_at s.instants m) clock is

pub ticks_told : (s : Setting) (S : Assignment) (m : ℕ) (plan : Planned) (class : ℕ) → IsPlanAt s S m plan → ticks_in_plan plan class ≡ class_ticks s S (Some class) m
ticks_told s S m plan class is =
    ap₂ (λ moment clocks. clock_ticks_in plan moment (slice_get clocks class)) is.given is.clocks ∙ same_in s S m plan (slice_get s.clocking.clocks class) is
