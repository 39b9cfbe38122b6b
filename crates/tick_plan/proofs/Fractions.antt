-- The first tick of one clock and of all, each counted in its own denominators.
use Rattle.std.proofs.Common.{◌≡◌, refl, sym, subst, ap, ◌∙◌, ℕ, ◌+◌, ◌*◌, ◌<◌, ◌≤◌, ◌^◌, ◌⊎◌, inl, inr, ⊎_elim, List, [], ◌∷◌, length, get_or, slice_get, Option, Some, None, arith, mul-le-mul_right, le_of_mul-le-mul_right}
use Rattle.std.proofs.Math.Nat.{one-dvd}
use Rattle.std.proofs.Props.{props}
use Rattle.std.proofs.lemmas.Option.{same_Some, slice_get_read}
use Rattle.tick_plan.proofs.Untold.{known₂}
use Rattle.rational_time.specs.declared.ratio.Ratio.{Ratio}
use Rattle.rational_time.specs.Fraction.{AtMost, IsFraction}
use Rattle.rational_time.specs.Multiple.{HasMultipleBelow}
use Rattle.flat_model.specs.declared.clock.Clock.{Clock}
use Rattle.flat_model.specs.declared.clock.Clock.TheVariants.{Periodic}
use Rattle.flat_model.specs.declared.clock.Moment.{Moment}
use Rattle.flat_model.specs.declared.clock.Moment.TheVariants.{Initial, At}
use Rattle.flat_model.specs.NextInstant.{IsNext}
use Rattle.tick_plan.specs.declared.course.Course.{Course}
use Rattle.tick_plan.specs.private.Axis.{IsKey, IsLimit}
use Rattle.tick_plan.specs.private.Course.{IsRow, IsPeriodic, IsTickOf, IsTickIn, IsFirstOf, IsWithin, TickAhead, earlier_of}
use Rattle.tick_plan.specs.private.Fraction.{IsWhole}
use Rattle.tick_plan.specs.private.Grid.{AreUnits, IsBeforeLimit}
use Rattle.tick_plan.specs.Making.{IsCommonOf}
use Rattle.tick_plan.proofs.Firsts.{within_units, units_within}
use Rattle.tick_plan.proofs.Keys.{tick_in_units, units_are_tick, after_units, units_after}
use Rattle.tick_plan.proofs.Nexts.{earlier_first}

either : (i j : ℕ) → (i < j) ⊎ (j ≤ i)
either i j = grind arith

-- an instant that is not after the stop is before the first number of units past it
at_before : (t stop : Ratio) (den limit : ℕ) → IsLimit den stop limit → AtMost t stop → t.num * den < limit * t.den
at_before t stop den limit limit_is within = ⊎_elim (λ lt. lt) (λ le. absurd (later le)) (either (t.num * den) (limit * t.den))
  where
    later : limit * t.den ≤ t.num * den → ⊥
    later le =
        let reach : limit * stop.den ≤ stop.num * den = le_of_mul-le-mul_right {k = t.den} (omega (arith, mul-le-mul_right stop.den le, mul-le-mul_right den within)) t.positive in
        let lt = (limit_is limit).1 reach in omega (arith, lt)

pub before_limit : (given : Option Moment) (stop : Ratio) (den limit : ℕ) → ∥ IsLimit den stop limit ∥₁ → ∥ IsWithin given stop ∥₁ → IsBeforeLimit given den limit
before_limit None stop den limit limit_is within = tt
before_limit (Some Initial) stop den limit limit_is within = tt
before_limit (Some (At t)) stop den limit limit_is within = known₂ (hlevel props) (at_before t stop den limit) limit_is within

-- an element of a slice that is a list
pub found : (clocks items : List Clock) (n : ℕ) (clock : Clock) → items ≡ clocks → n < length items → clock ≡ get_or items n clock → slice_get clocks n ≡ Some clock
found clocks items n clock same lt is = ap (λ xs. slice_get xs n) (sym same) ∙ slice_get_read items (length items) n clock refl lt is

-- the key of a clock is its first tick
pub key_first : (den limit key step : ℕ) (period start stop : Ratio) (given : Option Moment) → 0 < den → IsLimit den stop limit → IsKey den limit period start given key step → key < limit → (t : Ratio) → IsFraction t key den
    → IsFirstOf (IsTickIn period start stop) given (Some t)
key_first den limit key step period start stop given grain limit_is is below t at =
    let tick = is.tick below in (
      (tick.0, units_are_tick den limit key step tick.0 period start given is t grain (at ∙ ap (λ z. z * t.den) tick.1), within_units t key den stop.num stop.den grain at ((limit_is key).0 below)),
      units_after given t den key at is.later,
      λ v ticks later.
          let units = tick_in_units den limit key step ticks.0 period start given is v ticks.1 in
          let least = is.least ticks.0 (after_units given v den (is.first + ticks.0 * is.every) grain units later) in
          le_of_mul-le-mul_right {k = den} (omega (arith, ap (λ z. z * v.den) at, ap (λ z. z * t.den) units, mul-le-mul_right (t.den * v.den) least)) grain,
    )

pub key_none : (den limit key step : ℕ) (period start stop : Ratio) (given : Option Moment) → 0 < den → IsLimit den stop limit → IsKey den limit period start given key step → limit ≤ key → IsFirstOf (IsTickIn period start stop) given None
key_none den limit key step period start stop given grain limit_is is past v ticks later =
    let units = tick_in_units den limit key step ticks.0 period start given is v ticks.1 in
    let least = is.least ticks.0 (after_units given v den (is.first + ticks.0 * is.every) grain units later) in
    let below = (limit_is (is.first + ticks.0 * is.every)).1 (units_within v (is.first + ticks.0 * is.every) den stop.num stop.den units ticks.2) in
    omega (arith, below, past, least)

-- the ticks of the clocks before a number
abbrev pub IsTickBelow : Course → ℕ → Ratio → Type 0
IsTickBelow c n t = (tick : IsTickOf c t) × (tick.clock < n)

said : (P Q : Ratio → Type 0) (given : Option Moment) (r : Option Ratio) → ((t : Ratio) → P t → Q t) → ((t : Ratio) → Q t → P t) → IsFirstOf P given r → IsFirstOf Q given r
said P Q given None f g none = λ t q later. none t (g t q) later
said P Q given (Some r) f g first = (f r first.0, first.1, λ t q later. first.2 t (g t q) later)

last_or_before : (i j : ℕ) → i < j + 1 → (i ≡ j) ⊎ (i < j)
last_or_before i j lt = grind arith

pub none_below : (c : Course) → IsFirstOf (IsTickBelow c 0) c.given None
none_below c t tick later = omega (arith, tick.1)

-- one clock in seconds more
pub first_more : (c : Course) (n : ℕ) (period start : Ratio) (a b : Option Ratio) → IsPeriodic c.clocks n period start → IsFirstOf (IsTickBelow c n) c.given a → IsFirstOf (IsTickIn period start c.stop) c.given b
    → IsFirstOf (IsTickBelow c (n + 1)) c.given (earlier_of a b)
first_more c n period start a b at old own = said (λ t. IsTickBelow c n t ⊎ IsTickIn period start c.stop t) (IsTickBelow c (n + 1)) c.given (earlier_of a b)
    (λ t h. ⊎_elim (λ tick. (tick.0, omega (arith, tick.1))) (λ tick. (record { clock = n; period = period; start = start; is = at; k = tick.0; at = tick.1; within = tick.2 }, omega arith)) h)
    (λ t tick. ⊎_elim
    (λ here. inr (own_tick t tick.0 here))
    (λ before. inl (tick.0, before))
    (last_or_before tick.0.clock n tick.1))
    (earlier_first (IsTickBelow c n) (IsTickIn period start c.stop) c.given a b old own)
  where
    same_parts : (p s q r : Ratio) → Periodic p s ≡ Periodic q r → (p ≡ q) × (s ≡ r)
    same_parts p s q r is = (cc, cc)

    own_tick : (t : Ratio) → (tick : IsTickOf c t) → tick.clock ≡ n → IsTickIn period start c.stop t
    own_tick t tick here =
        let same = same_parts tick.period tick.start period start (same_Some _ _ (sym tick.is ∙ ap (slice_get c.clocks) here ∙ at)) in
        subst (λ p. IsTickIn p start c.stop t) same.0 (subst (λ s. IsTickIn tick.period s c.stop t) same.1 (tick.k, tick.at, tick.within))

-- one clock of an event more
pub first_still : (c : Course) (n : ℕ) (clock : Clock) (a : Option Ratio) → slice_get c.clocks n ≡ Some clock → ((p s : Ratio) → clock ≡ Periodic p s → ⊥) → IsFirstOf (IsTickBelow c n) c.given a → IsFirstOf (IsTickBelow c (n + 1)) c.given a
first_still c n clock a at other old = said (IsTickBelow c n) (IsTickBelow c (n + 1)) c.given a
    (λ t tick. (tick.0, omega (arith, tick.1)))
    (λ t tick. ⊎_elim
    (λ here. absurd (other tick.0.period tick.0.start (same_Some _ _ (sym at ∙ ap (slice_get c.clocks) (sym here) ∙ tick.0.is))))
    (λ before. (tick.0, before))
    (last_or_before tick.0.clock n tick.1))
    old

-- all clocks
pub all_below : (c : Course) (n : ℕ) (a : Option Ratio) → length c.clocks ≤ n → ((t : Ratio) (tick : IsTickOf c t) → tick.clock < length c.clocks) → IsFirstOf (IsTickBelow c n) c.given a → TickAhead c a
all_below c n a all within old = said (IsTickBelow c n) (IsTickOf c) c.given a (λ t tick. tick.0) (λ t tick. (tick, let lt = within t tick in omega (arith, lt, all))) old

-- the denominators of one clock lie on one grid
pub own_grid : (clocks : List Clock) → IsCommonOf clocks → (i : ℕ) (period start : Ratio) → slice_get clocks i ≡ Some (Periodic period start) → HasMultipleBelow (2 ^ 40) (1 ∷ period.den ∷ start.den ∷ [])
own_grid clocks common i period start is = let own = common.common.divided i period start is in
    record { multiple = common.den; positive = common.common.some; below = common.below; divided = (one-dvd common.den, (own.0, (own.1, tt))) }

-- a course goes on past an instant that is next
pub whole_behind : (c : Course) → IsWhole c → (t : Ratio) → IsNext c.clocks c.times c.stop c.given t → (row : ℕ) → IsRow c.times (Some (At t)) row
    → IsWhole (record { clocks = c.clocks; times = c.times; stop = c.stop; row = row; given = Some (At t) })
whole_behind c is t next row row_is = record {
  rows = record { rising = is.rows.rising; row_is = row_is };
  countable = is.countable;
  factors = is.factors;
  common = is.common;
  early = is.early;
  within = next.due.within;
}

pub whole_initial : (c : Course) → IsWhole c → c.given ≡ None → IsWhole (record { clocks = c.clocks; times = c.times; stop = c.stop; row = c.row; given = Some Initial })
whole_initial c is none =
    let row : IsRow c.times None c.row = subst (λ g. IsRow c.times g c.row) none is.rows.row_is in record {
      rows = record { rising = is.rows.rising; row_is = record { passed = row.passed; ahead = row.ahead } };
      countable = is.countable;
      factors = is.factors;
      common = is.common;
      early = is.early;
      within = tt;
    }

-- there is a number of units within each stop, 0
pub limit_some : (den : ℕ) (stop : Ratio) (limit : ℕ) → IsLimit den stop limit → 0 < limit
limit_some den stop limit is = (is 0).1 (omega arith)

pub step_above : (den limit : ℕ) (period start : Ratio) (first step : ℕ) → AreUnits den limit period start first step → 0 < limit → 0 < step
step_above den limit period start first step is some = let one = is.step_is in let a = is.some in omega (arith, one, a, some)
