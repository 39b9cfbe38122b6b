-- The test of a tick in the clock's own denominators is the test of a tick.
use Rattle.std.proofs.Common.{◌≡◌, subst, ℕ, ◌<◌, slice_get, Some, Bool}
use Rattle.std.proofs.Props.{props}
use Rattle.rational_time.specs.declared.ratio.Ratio.{Ratio}
use Rattle.flat_model.specs.Clocks.{is_tick}
use Rattle.flat_model.specs.declared.clock.Clock.TheVariants.{Periodic, Event}
use Rattle.flat_model.specs.declared.clock.Moment.TheVariants.{At}
use Rattle.tick_plan.specs.declared.course.Course.{Course}
use Rattle.tick_plan.specs.private.Axis.{IsLimit}
use Rattle.tick_plan.specs.private.Course.{IsWithin}
use Rattle.tick_plan.specs.private.Fraction.{IsWhole}
use Rattle.tick_plan.specs.private.Grid.{CountsTo, grid_tick}
use Rattle.tick_plan.proofs.FirstPlaces.{units_are}
use Rattle.tick_plan.proofs.Fractions.{limit_some, step_above}
use Rattle.tick_plan.proofs.Gridded.{grid_law}
use Rattle.tick_plan.proofs.Untold.{known}

module _ (c : Course) (class : ℕ) (period start : Ratio) where
  pub fraction_ticks : (t : Ratio) (den limit first step : ℕ) → ∥ IsWhole c ∥₁ → slice_get c.clocks class ≡ Some (Periodic period start) → c.given ≡ Some (At t) → 0 < den → IsLimit den c.stop limit
      → CountsTo den limit start first → CountsTo den limit period step → grid_tick den first step t ≡ is_tick period start t
  fraction_ticks t den limit first step whole clock given grain limit_is f s =
      let set : IsSet Bool = hlevel props in
      known (set _ _) (λ is. grid_law den limit first step period start c.stop t grain (units_are den limit period start first step grain (is.countable class period start clock).moving f s) limit_is
      (subst (λ g. IsWithin g c.stop) given is.within)) whole

  pub step_of : (den limit first step : ℕ) → ∥ IsWhole c ∥₁ → slice_get c.clocks class ≡ Some (Periodic period start) → 0 < den → IsLimit den c.stop limit → CountsTo den limit start first → CountsTo den limit period step → 0 < step
  step_of den limit first step whole clock grain limit_is f s =
      known (hlevel props) (λ is. step_above den limit period start first step (units_are den limit period start first step grain (is.countable class period start clock).moving f s) (limit_some den c.stop limit limit_is)) whole

pub factor_of : (c : Course) (class site factor shift : ℕ) → ∥ IsWhole c ∥₁ → slice_get c.clocks class ≡ Some (Event site factor shift) → 0 < factor
factor_of c class site factor shift whole clock = known (hlevel props) (λ is. is.factors class site factor shift clock) whole
