-- The next tick of a clock after an instant, by division.
use Rattle.std.proofs.Common.{◌≡◌, subst, ap, ◌∙◌, ℕ, zero, suc, ◌+◌, ◌-◌, ◌*◌, ◌/◌, ◌%◌, ◌<◌, ◌≤◌, ◌⊎◌, ⊎_elim, min, Some, arith, div-add-mod', mul-le-mul_right, lt_of_mul-lt-mul_right}
use Rattle.rational_time.specs.declared.ratio.Ratio.{Ratio}
use Rattle.flat_model.specs.declared.clock.Moment.TheVariants.{At}
use Rattle.tick_plan.specs.private.Axis.{IsKey}
use Rattle.tick_plan.specs.private.Grid.{AreUnits}

-- a number is between its floored quotient and the next, in divisors
floor_of : (a b : ℕ) → 0 < b → (a / b * b ≤ a) × (a < (a / b + 1) * b)
floor_of a b some = (let whole = div-add-mod' a b in omega (arith, whole), let rest : a % b < b = grind arith in let whole = div-add-mod' a b in omega (arith, whole, rest))

either : (i j : ℕ) → (i < j) ⊎ (j ≤ i)
either i j = grind arith

-- before the start
pub key_before : (den limit : ℕ) (period start : Ratio) (first step : ℕ) → AreUnits den limit period start first step → (t : Ratio) → (t.num * den) / t.den < first → IsKey den limit period start (Some (At t)) first step
key_before den limit period start first step is t before =
    let floor = floor_of (t.num * den) t.den t.positive in
    record {
      first = is.from;
      every = is.every;
      first_is = is.from_is;
      every_is = is.every_is;
      some = is.some;
      step_is = is.step_is;
      within = omega (arith, is.first_is);
      tick = λ lt. (0, let one = is.first_is in omega (arith, lt, one));
      later = let le = mul-le-mul_right t.den (let more : (t.num * den) / t.den + 1 ≤ first = omega (arith, before) in more) in omega (arith, floor.1, le);
      least = λ k past. let le : is.from ≤ is.from + k * is.every = omega arith in let one = is.first_is in omega (arith, le, one);
    }

-- how a later tick stands to a quotient: what is past it is at least one period more
past_quotient : (far every k q : ℕ) → q ≡ far / every → 0 < every → far < k * every → q + 1 ≤ k
past_quotient far every k q is some past =
    let floor = floor_of far every some in
    let less : far / every < k = lt_of_mul-lt-mul_right every (omega (arith, floor.0, past)) in omega (arith, less, is)

capped_before : (from limit passed : ℕ) → min from limit ≤ passed → passed < limit → min from limit ≡ from
capped_before from limit passed le lt = omega (arith, le, lt)

module _ (den limit : ℕ) (period start : Ratio) (first step : ℕ) (is : AreUnits den limit period start first step) (t : Ratio) (before : t.num * den < limit * t.den) (after : first ≤ (t.num * den) / t.den) where
  abbrev pub passed : ℕ
  passed = (t.num * den) / t.den

  abbrev pub next : ℕ
  next = first + ((passed - first) / step + 1) * step

  floor : (passed * t.den ≤ t.num * den) × (t.num * den < (passed + 1) * t.den)
  floor = floor_of (t.num * den) t.den t.positive

  below : passed < limit
  below = lt_of_mul-lt-mul_right t.den (let f = floor.0 in omega (arith, f, before))

  from_is : first ≡ is.from
  from_is = let one = is.first_is in let a = below in let b : min is.from limit ≤ passed = omega (arith, one, after) in one ∙ capped_before is.from limit passed b a

  step_some : 0 < step
  step_some = let one = is.step_is in let a = is.some in let b = below in omega (arith, one, a, b)

  -- what is past the instant is past the quotient
  past_units : (x : ℕ) → t.num * den < x * t.den → passed < x
  past_units x lt = lt_of_mul-lt-mul_right t.den (let f = floor.0 in omega (arith, f, lt))

  next_past : passed < next
  next_past = let f = floor_of (passed - first) step step_some in let lt = f.1 in omega (arith, lt, after)

  more_later : passed < min next limit → t.num * den < min next limit * t.den
  more_later lt = let le = mul-le-mul_right t.den (let more : passed + 1 ≤ min next limit = omega (arith, lt) in more) in let f = floor.1 in omega (arith, f, le)

  small : is.every < limit → IsKey den limit period start (Some (At t)) (min next limit) step
  small lt =
      let step_is : step ≡ is.every = let one = is.step_is in omega (arith, one, lt) in
      let q = (passed - first) / step in
      let at : next ≡ is.from + (q + 1) * is.every = ap (λ f. f + (q + 1) * step) from_is ∙ ap (λ s. is.from + (q + 1) * s) step_is in
      record {
        first = is.from;
        every = is.every;
        first_is = is.from_is;
        every_is = is.every_is;
        some = is.some;
        step_is = is.step_is;
        within = omega arith;
        tick = λ less. (q + 1, omega (arith, less, at));
        later = more_later (let a = next_past in let b = below in omega (arith, a, b));
        least = λ k beyond.
            let x = past_units (is.from + k * is.every) beyond in
            let f = from_is in
            let far : passed - first < k * is.every = omega (arith, x, f, after) in
            let many = past_quotient (passed - first) is.every k q (ap (λ s. (passed - first) / s) step_is) is.some far in
            let le = mul-le-mul_right is.every many in
            omega (arith, at, le);
      }

  large : limit ≤ is.every → IsKey den limit period start (Some (At t)) (min next limit) step
  large le =
      let step_is : step ≡ limit = let one = is.step_is in omega (arith, one, le) in
      let reach : limit ≤ next = let a : step ≤ ((passed - first) / step + 1) * step = omega arith in omega (arith, a, step_is) in
      let all : min next limit ≡ limit = omega (arith, reach) in
      record {
        first = is.from;
        every = is.every;
        first_is = is.from_is;
        every_is = is.every_is;
        some = is.some;
        step_is = is.step_is;
        within = omega arith;
        tick = λ less. absurd (omega (arith, less, all));
        later = rw all before;
        least = λ k beyond. by_number k (past_units (is.from + k * is.every) beyond) all;
      }
    where
      by_number : (k : ℕ) → passed < is.from + k * is.every → min next limit ≡ limit → min next limit ≤ is.from + k * is.every
      by_number zero x all = let f = from_is in absurd (omega (arith, x, f, after))
      by_number (suc k) x all = let le2 : is.every ≤ suc k * is.every = omega arith in omega (arith, le2, le, all)

  pub key_after : IsKey den limit period start (Some (At t)) (min next limit) step
  key_after = ⊎_elim small large (either is.every limit)

-- the same by the numbers that are computed
module _ (den limit : ℕ) (period start : Ratio) (first step : ℕ) (is : AreUnits den limit period start first step) (t : Ratio) (before : t.num * den < limit * t.den) (p f s r : ℕ)
    (p_is : p ≡ (t.num * den) / t.den) (f_is : f ≡ first) (s_is : s ≡ step) (r_is : r ≡ step) where
  pub computed_before : p < f → IsKey den limit period start (Some (At t)) first step
  computed_before lt = key_before den limit period start first step is t (omega (arith, lt, p_is, f_is))

  key_is : f ≤ p → IsKey den limit period start (Some (At t)) (min (f + ((p - f) / s + 1) * r) limit) step
  key_is le = rw (p_is, f_is, s_is, r_is) (key_after den limit period start first step is t before (omega (arith, le, p_is, f_is)))

  pub computed_below : f ≤ p → f + ((p - f) / s + 1) * r < limit → IsKey den limit period start (Some (At t)) (f + ((p - f) / s + 1) * r) step
  computed_below le lt = let e : min (f + ((p - f) / s + 1) * r) limit ≡ f + ((p - f) / s + 1) * r = omega (arith, lt) in subst (λ k. IsKey den limit period start (Some (At t)) k step) e (key_is le)

  pub computed_past : f ≤ p → limit ≤ f + ((p - f) / s + 1) * r → IsKey den limit period start (Some (At t)) limit step
  computed_past le past = let e : min (f + ((p - f) / s + 1) * r) limit ≡ limit = omega (arith, past) in subst (λ k. IsKey den limit period start (Some (At t)) k step) e (key_is le)
