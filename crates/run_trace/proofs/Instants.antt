-- The instants of a run: they can be measured, there is one, and they are not too many to be counted.
use Rattle.std.proofs.Common.{◌≡◌, refl, sym, subst, ap, ◌∙◌, ℕ, ◌+◌, ◌*◌, ◌/◌, ◌^◌, ◌<◌, ◌≤◌, inl, ⊎_elim, zero, suc, List, [], ◌∷◌, None, zero-lt-suc, slice_get, Some, length, All, arith, mul-pos, lt_of_mul-lt-mul_right, mul-lt-mul_of_pos_right}
use Rattle.std.proofs.Math.Nat.{div-mul_cancel, eq_of_mul-eq-mul_right}
use Rattle.std.proofs.lemmas.Nat.Gcd.{IsGcd-swap, le_of_dvd}
use Rattle.std.proofs.lemmas.Option.{slice_get_read}
use Rattle.rational_time.specs.declared.ratio.Ratio.{Ratio}
use Rattle.rational_time.specs.Fraction.{Same, AtMost, IsTick}
use Rattle.rational_time.specs.Multiple.{HasMultipleBelow}
use Rattle.rational_time.proofs.Divisors.{dvd_of_coprime, dvd_from}
use Rattle.rational_time.proofs.Fractions.{IsGcd-ratio}
use Rattle.rational_time.proofs.Order.{same_parts}
use Rattle.flat_model.specs.declared.clock.Clock.{Clock}
use Rattle.flat_model.specs.declared.clock.Clock.TheVariants.{Periodic, Event}
use Rattle.flat_model.specs.declared.clock.Moment.TheVariants.{Initial, At}
use Rattle.flat_model.specs.Intervals.{IsInRange}
use Rattle.flat_model.specs.Moments.{IsDue, TicksAt, AreInstants, moment_at}
use Rattle.flat_model.specs.Runnable.{denominators}
use Rattle.flat_model.specs.Tables.{IsTime}
use Rattle.flat_model.specs.Plan.{rows_within}
use Rattle.flat_model.proofs.OneAnswer.{instants_once}
use Rattle.flat_model.proofs.Ratios.{ratio_of}
use Rattle.tick_plan.specs.NewPlan.{AreFewEnough}
use Rattle.tick_plan.proofs.FewInstants.{left_exists, left_are}
use Rattle.tick_plan.proofs.Commons.{dividing}

-- a fraction in lowest terms has the least denominator of all its forms
den_within : (t : Ratio) (n d : ℕ) → 0 < d → t.num * d ≡ n * t.den → t.den ≤ d
den_within t n d some is = le_of_dvd some (dvd_of_coprime t.den t.num d t.positive (IsGcd-swap t.num t.den 1 (IsGcd-ratio t)) (dvd_from t.den n (t.num * d) (omega (arith, is))))

-- 0 has the denominator 1
zero_den : (t : Ratio) → t.num ≡ 0 → t.den ≤ 1
zero_den t none = den_within t 0 1 (omega arith) (omega (arith, none))

-- a tick lies on the grid of its clock
on_grid : (sn sd pn pd k a b d : ℕ) (t : Ratio) → 0 < sd → 0 < pd → a * pd ≡ d → b * sd ≡ d → t.num * (sd * pd) ≡ (sn * pd + k * pn * sd) * t.den → t.num * d ≡ (sn * b + k * pn * a) * t.den
on_grid sn sd pn pd k a b d t s p e f tick = eq_of_mul-eq-mul_right (sd * pd) (mul-pos s p) (t.num * d) ((sn * b + k * pn * a) * t.den)
    (let left : t.num * d * (sd * pd) ≡ d * ((sn * pd + k * pn * sd) * t.den) = omega (arith, ap (λ z. d * z) tick) in
    let right : (sn * b + k * pn * a) * t.den * (sd * pd) ≡ d * ((sn * pd + k * pn * sd) * t.den) = omega (arith, ap (λ z. sn * pd * t.den * z) f, ap (λ z. k * pn * sd * t.den * z) e) in
    left ∙ sym right)

module _ (clocks : List Clock) (times : List Ratio) (stop : Ratio) (grid : HasMultipleBelow (2 ^ 40) (denominators clocks)) (range : All IsTime times) (early : IsTime stop) where
  -- no instant is after the stop
  is_early : (t : Ratio) → AtMost t stop → t.num < 2 ^ 20 * t.den
  is_early t within = lt_of_mul-lt-mul_right stop.den (omega (arith, within, mul-lt-mul_of_pos_right early.0 t.positive))

  tick_den : (t : Ratio) (i : ℕ) (clock : Clock) → slice_get clocks i ≡ Some clock → TicksAt t clock → t.den < 2 ^ 40
  tick_den t i (Event site factor shift) is ticks = absurd ticks
  tick_den t i (Periodic period start) is ticks =
      let divided = dividing clocks grid.multiple grid.divided i period start is in
      let d = grid.multiple in
      let tick : IsTick period start ticks.0 t = ticks.1 in
      let whole = on_grid start.num start.den period.num period.den ticks.0 (d / period.den) (d / start.den) d t start.positive period.positive (div-mul_cancel period.den divided.0) (div-mul_cancel start.den divided.1) tick in
      let within = den_within t (start.num * (d / start.den) + ticks.0 * period.num * (d / period.den)) d grid.positive whole in
      omega (arith, within, grid.below)

  row_den : (t row : Ratio) → Same t row → IsTime row → t.den < 2 ^ 40
  row_den t row same is = let dens = (same_parts t row same).1 in omega (arith, dens, is.1)

  due_den : (t : Ratio) → IsDue clocks times stop t → t.den < 2 ^ 40
  due_den t due = ⊎_elim (λ none. let one = zero_den t none in omega (arith, one))
      (λ others. ⊎_elim (λ row. row_den t row.1 row.4 (subst IsTime row.3 (range row.0 row.1 row.2)))
      (λ tick. tick_den t tick.0 tick.1 (slice_get_read clocks (length clocks) tick.0 tick.1 refl tick.2 (sym tick.3)) tick.4) others) due.cause

  pub in_range : (t : Ratio) → IsDue clocks times stop t → IsInRange t
  in_range t due = (is_early t due.within, due_den t due)

  module _ (instants : List Ratio) (are : AreInstants clocks times stop instants) where
    due_at : (ts : List Ratio) (k : ℕ) (t : Ratio) → All (IsDue clocks times stop) ts → moment_at ts k ≡ Some (At t) → IsDue clocks times stop t
    due_at ts zero t all is = absurd (let e : Some Initial ≡ Some (At t) = is in cc)
    due_at [] (suc k) t all is = absurd (let e : None ≡ Some (At t) = is in cc)
    due_at (u ∷ ts) (suc zero) t all is = subst (IsDue clocks times stop) (same_at u t is) (all 0 u (zero-lt-suc (length ts)))
      where
        same_at : (u t : Ratio) → Some (At u) ≡ Some (At t) → u ≡ t
        same_at u t e = cc
    due_at (u ∷ ts) (suc (suc k)) t all is = due_at ts (suc k) t (λ i x lt. all (suc i) x (omega (arith, lt))) is

    -- each instant is in range
    pub range_at : (k : ℕ) (t : Ratio) → moment_at instants k ≡ Some (At t) → IsInRange t
    range_at k t is = in_range t (due_at instants k t are.due is)

    -- 0 is an instant
    pub some_instants : 0 < length instants
    some_instants =
        let zero_at = ratio_of 0 1 (omega arith) in
        let none : zero_at.0.num ≡ 0 = omega (arith, zero_at.1) in
        let found = are.all zero_at.0 (record { within = omega (arith, ap (λ z. z * stop.den) none); cause = inl none }) in
        let lt = found.2 in omega (arith, lt)

    -- there are at most as many as rows and ticks, and 0
    pub few_instants : AreFewEnough clocks times stop → length instants < 2 ^ 32
    few_instants few =
        let made = left_exists clocks times stop (rows_within times stop) few.is.0 few.is.1 in
        let same : instants ≡ made.0 = instants_once clocks times stop instants made.0 are (left_are clocks times stop made.0 made.1) in
        let le = made.2 in let count = few.is.2 in let most = few.few in omega (arith, le, count, most, ap length same)
