-- The next tick of a class is the first of the moments left at which it ticks.
use Rattle.std.proofs.Common.{◌≡◌, sym, subst, ap, ◌∙◌, ℕ, zero, suc, ◌*◌, ◌<◌, ◌≤◌, List, [], ◌∷◌, map, slice_get, Option, Some, None, Bool, Contains, arith}
use Rattle.std.proofs.lemmas.Nat.Gcd.{le_of_dvd}
use Rattle.std.proofs.lemmas.Option.{none-some, same_Some}
use Rattle.rational_time.specs.declared.ratio.Ratio.{Ratio}
use Rattle.flat_model.specs.declared.clock.Clock.TheVariants.{Periodic}
use Rattle.flat_model.specs.declared.clock.Moment.{Moment}
use Rattle.flat_model.specs.declared.clock.Moment.TheVariants.{Initial, At}
use Rattle.flat_model.specs.Runnable.{denominators}
use Rattle.flat_model.specs.NextInstant.{IsAfter, AreLeft}
use Rattle.flat_model.proofs.InstantsLeft.{same_ratio}
use Rattle.flat_model.proofs.Ratios.{ratio_of}
use Rattle.tick_plan.specs.declared.course.Course.{Course}
use Rattle.tick_plan.specs.private.Axis.{IsKey, IsLimit}
use Rattle.tick_plan.specs.private.Course.{IsTickIn}
use Rattle.tick_plan.specs.Left.{ahead_of, seen}
use Rattle.tick_plan.specs.Making.{IsLeastMultiple}
use Rattle.tick_plan.specs.NextTick.{IsTickLeft, NextTickIs}
use Rattle.tick_plan.proofs.Fractions.{key_first, key_none}
use Rattle.tick_plan.proofs.Growing.{placed, has}
use Rattle.tick_plan.proofs.Nexts.{tick_due}

same_at : (x t : Ratio) → At x ≡ At t → x ≡ t
same_at x t is = cc

not_initial : (t : Ratio) → Initial ≡ At t → ⊥
not_initial t is = cc

map_has : (ts : List Ratio) (j : ℕ) (t : Ratio) → slice_get ts j ≡ Some t → slice_get (map (λ u. At u) ts) j ≡ Some (At t)
map_has [] j t is = absurd (none-some t is)
map_has (x ∷ ts) zero t is = ap (λ u. Some (At u)) (same_Some x t is)
map_has (x ∷ ts) (suc j) t is = map_has ts j t is

map_from : (ts : List Ratio) (j : ℕ) (t : Ratio) → slice_get (map (λ u. At u) ts) j ≡ Some (At t) → slice_get ts j ≡ Some t
map_from [] j t is = absurd (none-some (At t) is)
map_from (x ∷ ts) zero t is = ap (λ u. Some u) (same_at x t (same_Some (At x) (At t) is))
map_from (x ∷ ts) (suc j) t is = map_from ts j t is

ahead_has : (given : Option Moment) (ts : List Ratio) (j : ℕ) (t : Ratio) → slice_get ts j ≡ Some t → Contains (ahead_of given ts) (At t)
ahead_has None ts j t is = has (ahead_of None ts) (suc j) (At t) (map_has ts j t is)
ahead_has (Some m) ts j t is = has (ahead_of (Some m) ts) j (At t) (map_has ts j t is)

ahead_from : (given : Option Moment) (ts : List Ratio) (t : Ratio) → Contains (ahead_of given ts) (At t) → (j : ℕ) × (slice_get ts j ≡ Some t)
ahead_from None ts t h = by_number h.0 (placed (ahead_of None ts) h.0 (At t) h.1 h.2)
  where
    by_number : (j : ℕ) → slice_get (Initial ∷ map (λ u. At u) ts) j ≡ Some (At t) → (j : ℕ) × (slice_get ts j ≡ Some t)
    by_number zero is = absurd (not_initial t (same_Some Initial (At t) is))
    by_number (suc j) is = (j, map_from ts j t is)
ahead_from (Some m) ts t h = (h.0, map_from ts h.0 t (placed (ahead_of (Some m) ts) h.0 (At t) h.1 h.2))

one_multiple : (numbers : List ℕ) (m n : ℕ) → IsLeastMultiple numbers m → IsLeastMultiple numbers n → m ≡ n
one_multiple numbers m n a b =
    let le = le_of_dvd b.some (a.least n b.divided) in
    let ge = le_of_dvd a.some (b.least m a.divided) in
    omega (arith, le, ge)

module _ (c : Course) (ts : List Ratio) (risings : List ℕ) (noted : List Bool) (left : AreLeft c.clocks c.times c.stop c.given ts) (class : ℕ) (period start : Ratio) (clock : slice_get c.clocks class ≡ Some (Periodic period start))
    (den limit key step : ℕ) (grain : 0 < den) (limit_is : IsLimit den c.stop limit) (is : IsKey den limit period start c.given key step) where
  -- a tick among the moments left is a tick of the clock after the moment given last
  ticks_in : (v : Ratio) → IsTickLeft (seen c ts risings noted) class v → IsTickIn period start c.stop v × IsAfter c.given v
  ticks_in v tick =
      let at = ahead_from c.given ts v tick.left in
      let due = left.each at.0 v at.1 in
      let same = same_parts tick.period tick.start (same_Some _ _ (sym tick.is ∙ clock)) in
      (subst (λ p. IsTickIn p start c.stop v) same.0 (subst (λ s. IsTickIn tick.period s c.stop v) same.1 (tick.k, tick.at, due.0.within)), due.1)
    where
      same_parts : (p s : Ratio) → Periodic p s ≡ Periodic period start → (p ≡ period) × (s ≡ start)
      same_parts p s e = (cc, cc)

  pub tick_left : key < limit → IsLeastMultiple (denominators c.clocks) den → NextTickIs (seen c ts risings noted) class (Some key)
  tick_left below least =
      let t = ratio_of key den grain in
      let first = key_first den limit key step period start c.stop c.given grain limit_is is below t.0 t.1 in
      let tick = first.0 in
      let at = left.all t.0 (tick_due c t.0 (record { clock = class; period = period; start = start; is = clock; k = tick.0; at = tick.1; within = tick.2 })) first.1 in
      let here : slice_get ts at.0 ≡ Some t.0 = at.2 ∙ ap (λ u. Some u) (sym (same_ratio t.0 at.1 at.3)) in (
        t.0,
        record { period = period; start = start; is = clock; k = tick.0; at = tick.1; left = ahead_has c.given ts at.0 t.0 here },
        (λ v other. let own = ticks_in v other in first.2 v own.0 own.1),
        (λ d other. let one = one_multiple (denominators c.clocks) d den other least in subst (λ x. t.0.num * x ≡ key * t.0.den) (sym one) t.1),
      )

  pub none_left : limit ≤ key → NextTickIs (seen c ts risings noted) class None
  none_left past v tick = let own = ticks_in v tick in key_none den limit key step period start c.stop c.given grain limit_is is past v own.0 own.1
