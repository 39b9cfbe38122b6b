-- The test of a tick in units is the test of a tick.
use Rattle.std.proofs.Common.{◌≡◌, refl, sym, subst, ap, ◌∙◌, ℕ, zero, suc, ◌+◌, ◌-◌, ◌*◌, ◌/◌, ◌%◌, ◌<◌, ◌≤◌, ◌⊎◌, ⊎_elim, ◌↔◌, Bool, true, false, List, get_or, slice_get, Some, min, arith, le-leb, leb-true, eq-eqb, div-add-mod'}
use Rattle.std.proofs.lemmas.Bool.{and_from, and_parts, eqb-true}
use Rattle.std.proofs.Math.Nat.{mul-mod_left, eq_of_mul-eq-mul_right}
use Rattle.rational_time.specs.declared.ratio.Ratio.{Ratio}
use Rattle.rational_time.specs.Fraction.{AtMost}
use Rattle.flat_model.specs.Clocks.{is_tick}
use Rattle.flat_model.specs.Runnable.{denominators}
use Rattle.tick_plan.specs.Making.{IsLeastMultiple}
use Rattle.flat_model.proofs.Ticks.{is_tick_law}
use Rattle.std.proofs.Props.{props}
use Rattle.flat_model.specs.declared.clock.Clock.{Clock}
use Rattle.flat_model.specs.declared.clock.Clock.TheVariants.{Periodic, Event}
use Rattle.flat_model.specs.declared.clock.Moment.TheVariants.{At}
use Rattle.tick_plan.specs.declared.axis.Axis.{Axis}
use Rattle.tick_plan.specs.private.Axis.{IsAxis, IsSameAxis}
use Rattle.tick_plan.proofs.Untold.{known, known₃}
use Rattle.tick_plan.specs.private.Grid.{AreUnits, grid_tick, IsScaled}
use Rattle.tick_plan.specs.private.Course.{IsWithin}
use Rattle.tick_plan.proofs.Keys.{tick_units, units_tick}
use Rattle.tick_plan.proofs.Firsts.{units_within}

both_true : (a b : Bool) → (a ≡ true → b ≡ true) → (b ≡ true → a ≡ true) → a ≡ b
both_true true b f g = sym (f refl)
both_true false true f g = g refl
both_true false false f g = refl

either : (i j : ℕ) → (i < j) ⊎ (j ≤ i)
either i j = grind arith

whole_quotient : (a b : ℕ) → a % b ≡ 0 → a ≡ a / b * b
whole_quotient a b none = omega (arith, none, div-add-mod' a b)

-- a distance of whole steps, no more than the limit, is one of whole periods
steps_periods : (u from every limit : ℕ) → u < limit → 0 < every → (u - min from limit) % min every limit ≡ 0 → min from limit ≤ u → (k : ℕ) × (u ≡ from + k * every)
steps_periods u from every limit below some none after = ⊎_elim
    (λ small.
    let step : min every limit ≡ every = omega (arith, small) in
    let far : u - from ≡ (u - from) / every * every = whole_quotient (u - from) every (subst (λ s. (u - from) % s ≡ 0) step (subst (λ f. (u - f) % min every limit ≡ 0) first none)) in
    ((u - from) / every, omega (arith, far, first, after)))
    (λ large.
    let step : min every limit ≡ limit = omega (arith, large) in
    let rest : (u - from) % limit ≡ 0 = subst (λ s. (u - from) % s ≡ 0) step (subst (λ f. (u - f) % min every limit ≡ 0) first none) in
    let same : (u - from) % limit ≡ u - from = small_mod (u - from) limit (omega (arith, below)) in
    (0, omega (arith, rest, same, first, after)))
    (either every limit)
  where
    first : min from limit ≡ from
    first = omega (arith, after, below)

    small_mod : (a b : ℕ) → a < b → a % b ≡ a
    small_mod a b lt = grind arith

periods_steps : (u from every limit k : ℕ) → u < limit → 0 < every → u ≡ from + k * every → (min from limit ≤ u) × ((u - min from limit) % min every limit ≡ 0)
periods_steps u from every limit k below some at = (
  omega (arith, at),
  ⊎_elim
      (λ small.
      let step : min every limit ≡ every = omega (arith, small) in
      let far : u - min from limit ≡ k * every = omega (arith, at, first) in
      rw (far, step) (mul-mod_left k every))
      (λ large.
      let none : k * every ≡ 0 = no_period k every limit large (omega (arith, at, below)) in
      let far : u - min from limit ≡ 0 = omega (arith, at, first, none) in
      rw far (zero_mod (min every limit)))
      (either every limit),
)
  where
    first : min from limit ≡ from
    first = omega (arith, at, below)

    no_period : (k every limit : ℕ) → limit ≤ every → k * every < limit → k * every ≡ 0
    no_period zero every limit large lt = omega arith
    no_period (suc k) every limit large lt = absurd (omega (arith, lt, large))

    zero_mod : (a : ℕ) → 0 % a ≡ 0
    zero_mod a = grind arith

module _ (den limit first step : ℕ) (period start stop t : Ratio) (grain : 0 < den) (is : AreUnits den limit period start first step) (limit_is : (u : ℕ) → (u < limit) ↔ (u * stop.den ≤ stop.num * den)) (within : AtMost t stop) where
  below : (u : ℕ) → t.num * den ≡ u * t.den → u < limit
  below u at = (limit_is u).1 (units_within t u den stop.num stop.den at within)

  grid_is : grid_tick den first step t ≡ true → is_tick period start t ≡ true
  grid_is test =
      let u = (t.num * den) / t.den in
      let parts = and_parts _ _ test in
      let others = and_parts _ _ parts.0 in
      let at : t.num * den ≡ u * t.den = whole_quotient (t.num * den) t.den (eqb-true _ 0 others.0) in
      let after : min is.from limit ≤ u = subst (λ f. f ≤ u) is.first_is (leb-true first u others.1) in
      let none : (u - min is.from limit) % min is.every limit ≡ 0 = subst (λ s. (u - min is.from limit) % s ≡ 0) is.step_is (subst (λ f. (u - f) % step ≡ 0) is.first_is (eqb-true _ 0 parts.1)) in
      let k = steps_periods u is.from is.every limit (below u at) is.some none after in
      (is_tick_law period start t).1 (k.0, units_tick t.num t.den start.num start.den period.num period.den den is.from is.every k.0 grain is.from_is is.every_is (at ∙ ap (λ z. z * t.den) k.1))

  is_grid : is_tick period start t ≡ true → grid_tick den first step t ≡ true
  is_grid test =
      let tick = (is_tick_law period start t).0 test in
      let at = tick_units t.num t.den start.num start.den period.num period.den den is.from is.every tick.0 start.positive period.positive is.from_is is.every_is tick.1 in
      let x = is.from + tick.0 * is.every in
      let none : (t.num * den) % t.den ≡ 0 = ap (λ z. z % t.den) at ∙ mul-mod_left x t.den in
      let whole : t.num * den ≡ (t.num * den) / t.den * t.den = whole_quotient (t.num * den) t.den none in
      let quotient : (t.num * den) / t.den ≡ x = eq_of_mul-eq-mul_right t.den t.positive ((t.num * den) / t.den) x (sym whole ∙ at) in
      let parts = periods_steps ((t.num * den) / t.den) is.from is.every limit tick.0 (below ((t.num * den) / t.den) whole) is.some quotient in
      and_from _ _ (and_from _ _ (eq-eqb _ 0 none) (le-leb _ _ (subst (λ f. f ≤ (t.num * den) / t.den) (sym is.first_is) parts.0)))
      (eq-eqb _ 0 (subst (λ s. ((t.num * den) / t.den - first) % s ≡ 0) (sym is.step_is) (subst (λ f. ((t.num * den) / t.den - f) % min is.every limit ≡ 0) (sym is.first_is) parts.1)))

  pub grid_law : grid_tick den first step t ≡ is_tick period start t
  grid_law = both_true _ _ grid_is is_grid

-- the same, as a plan tells it
pub periodic_ticks : (a : Axis) (firsts steps : List ℕ) (class : ℕ) (period start t : Ratio) → ∥ IsAxis a ∥₁ → ∥ IsScaled a.course.clocks a.den a.limit firsts steps ∥₁ → ∥ IsWithin a.course.given a.course.stop ∥₁
    → a.course.given ≡ Some (At t) → slice_get a.course.clocks class ≡ Some (Periodic period start) → grid_tick a.den (get_or firsts class 0) (get_or steps class 0) t ≡ is_tick period start t
periodic_ticks a firsts steps class period start t axis scaled within given clock =
    let set : IsSet Bool = hlevel props in
    known₃ (set _ _) (λ x s w. grid_law a.den a.limit (get_or firsts class 0) (get_or steps class 0) period start a.course.stop t x.grain (s.units class period start clock) x.limit_is (subst (λ g. IsWithin g a.course.stop) given w)) axis scaled within

pub step_some : (clocks : List Clock) (den limit : ℕ) (firsts steps : List ℕ) (class : ℕ) (period start : Ratio) → ∥ IsScaled clocks den limit firsts steps ∥₁ → slice_get clocks class ≡ Some (Periodic period start) → 0 < get_or steps class 0
step_some clocks den limit firsts steps class period start scaled clock = known (hlevel props) (λ s. let u = s.units class period start clock in let some = s.some in omega (arith, u.step_is, u.some, some)) scaled

pub factor_some : (clocks : List Clock) (den limit : ℕ) (firsts steps : List ℕ) (class site factor shift : ℕ) → ∥ IsScaled clocks den limit firsts steps ∥₁ → slice_get clocks class ≡ Some (Event site factor shift) → 0 < factor
factor_some clocks den limit firsts steps class site factor shift scaled clock = known (hlevel props) (λ s. s.factors class site factor shift clock) scaled

-- the units of the clocks stay where the axis is the same
pub scaled_still : (old new : Axis) (firsts steps : List ℕ) → IsSameAxis old new → ∥ IsScaled old.course.clocks old.den old.limit firsts steps ∥₁ → ∥ IsScaled new.course.clocks new.den new.limit firsts steps ∥₁
scaled_still old new firsts steps same is = subst (λ x. ∥ IsScaled x new.den new.limit firsts steps ∥₁) (sym same.course.clocks)
    (subst (λ x. ∥ IsScaled old.course.clocks x new.limit firsts steps ∥₁) (sym same.den) (subst (λ x. ∥ IsScaled old.course.clocks old.den x firsts steps ∥₁) (sym same.limit) is))

-- and so does their least common denominator
pub least_still : (old new : Axis) → IsSameAxis old new → ∥ IsLeastMultiple (denominators old.course.clocks) old.den ∥₁ → ∥ IsLeastMultiple (denominators new.course.clocks) new.den ∥₁
least_still old new same is = subst (λ x. ∥ IsLeastMultiple (denominators x) new.den ∥₁) (sym same.course.clocks) (subst (λ x. ∥ IsLeastMultiple (denominators old.course.clocks) x ∥₁) (sym same.den) is)

pub first_within : (clocks : List Clock) (den limit : ℕ) (firsts steps : List ℕ) (class : ℕ) (period start : Ratio) → ∥ IsScaled clocks den limit firsts steps ∥₁ → slice_get clocks class ≡ Some (Periodic period start) → get_or firsts class 0 ≤ limit
first_within clocks den limit firsts steps class period start scaled clock = known (hlevel props) (λ s. let u = s.units class period start clock in let is = u.first_is in omega (arith, is)) scaled
