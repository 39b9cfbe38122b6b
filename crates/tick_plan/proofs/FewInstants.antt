-- The instants of a run are a list, and there is at most one of them more than rows and ticks.
use Rattle.std.proofs.Common.{◌≡◌, refl, sym, subst, ap, ◌∙◌, ℕ, zero, suc, ◌+◌, ◌*◌, ◌<◌, ◌≤◌, ◌⊎◌, inl, inr, ⊎_elim, List, [], ◌∷◌, length, get_or, slice_get, Some, None, Any, Bool, true, false, le-leb, if◌then◌else◌, arith, mul-le-mul_right, le_of_mul-le-mul_right, mul-pos}
use Rattle.std.proofs.lemmas.Option.{none-some, same_Some, slice_get_read, get_or_from_slice_get, slice_get_within, slice_get-get_or}
use Rattle.rational_time.specs.declared.ratio.Ratio.{Ratio}
use Rattle.rational_time.specs.Fraction.{Same, Below, AtMost, at_most, IsTick, IsTickWithin, IsFraction}
use Rattle.rational_time.proofs.Order.{cross_lt_le_trans, cross_same_trans}
use Rattle.flat_model.specs.declared.clock.Clock.{Clock}
use Rattle.flat_model.specs.declared.clock.Clock.TheVariants.{Periodic, Event}
use Rattle.flat_model.specs.Moments.{IsRising, TicksAt, AreInstants}
use Rattle.flat_model.specs.Plan.{HaveTicks, rows_within}
use Rattle.std.proofs.lemmas.Bool.{false≢true}
use Rattle.std.proofs.lemmas.List.Sums.{sum_by-cons}
use Rattle.flat_model.specs.NextInstant.{AreLeft}
use Rattle.flat_model.proofs.Ratios.{ratio_of}

-- an instant is that of an element
abbrev pub Among : Ratio → List Ratio → Type 0
Among x [] = ⊥
Among x (t ∷ ts) = Same x t ⊎ Among x ts

rising_cons : (u : Ratio) (us : List Ratio) → IsRising us → ((x : Ratio) → Among x us → Below u x) → IsRising (u ∷ us)
rising_cons u [] up below = tt
rising_cons u (v ∷ vs) up below = (below v (inl refl), up)

below_same : (u x t : Ratio) → Below u t → Same x t → Below u x
below_same u x t lt same = cross_lt_le_trans u.num u.den t.num t.den x.num x.den x.positive lt (omega (arith, same))

rising_below : (u : Ratio) (us : List Ratio) → IsRising (u ∷ us) → (x : Ratio) → Among x us → Below u x
rising_below u [] up x at = absurd at
rising_below u (v ∷ vs) up x (inl same) = below_same u x v up.0 same
rising_below u (v ∷ vs) up x (inr at) = let more = rising_below v vs up.1 x at in cross_lt_le_trans u.num u.den v.num v.den x.num x.den x.positive up.0 (omega (arith, more))

rising_tail : (u : Ratio) (us : List Ratio) → IsRising (u ∷ us) → IsRising us
rising_tail u [] up = tt
rising_tail u (v ∷ vs) up = up.1

-- a rising list with one instant more
pub record HasPut (t : Ratio) (ts : List Ratio) : Type 0 where
  pub list : List Ratio
  pub rising : IsRising list
  pub from : (x : Ratio) → Among x list → Same x t ⊎ Among x ts
  pub own : (x : Ratio) → Same x t → Among x list
  pub kept : (x : Ratio) → Among x ts → Among x list
  pub short : length list ≤ suc (length ts)

three : (a b : ℕ) → (a < b) ⊎ ((a ≡ b) ⊎ (b < a))
three a b = grind arith

put_front : (t u : Ratio) (us : List Ratio) → IsRising (u ∷ us) → Below t u → HasPut t (u ∷ us)
put_front t u us up lt = record { list = t ∷ (u ∷ us); rising = (lt, up); from = λ x at. at; own = λ x same. inl same; kept = λ x at. inr at; short = omega arith }

put_same : (t u : Ratio) (us : List Ratio) → IsRising (u ∷ us) → Same t u → HasPut t (u ∷ us)
put_same t u us up is = record { list = u ∷ us; rising = up; from = λ x at. inr at; own = λ x same. inl (cross_same_trans x.num x.den t.num t.den u.num u.den t.positive same is); kept = λ x at. at; short = omega arith }

put_behind : (t u : Ratio) (us : List Ratio) → IsRising (u ∷ us) → Below u t → HasPut t us → HasPut t (u ∷ us)
put_behind t u us up lt more = record {
  list = u ∷ more.list;
  rising = rising_cons u more.list more.rising (λ x at. ⊎_elim (λ same. below_same u x t lt same) (λ old. rising_below u us up x old) (more.from x at));
  from = λ x at. ⊎_elim (λ same. inr (inl same)) (λ old. ⊎_elim (λ same. inl same) (λ before. inr (inr before)) (more.from x old)) at;
  own = λ x same. inr (more.own x same);
  kept = λ x at. ⊎_elim (λ same. inl same) (λ old. inr (more.kept x old)) at;
  short = omega (arith, more.short);
}

pub put : (t : Ratio) (ts : List Ratio) → IsRising ts → HasPut t ts
put t [] up = record { list = t ∷ []; rising = tt; from = λ x at. at; own = λ x same. inl same; kept = λ x at. absurd at; short = omega arith }
put t (u ∷ us) up = ⊎_elim (put_front t u us up) (λ others. ⊎_elim (put_same t u us up) (λ lt. put_behind t u us up lt (put t us (rising_tail u us up))) others) (three (t.num * u.den) (u.num * t.den))

-- a rising list of at most n instants that has just what a predicate says
pub record Holds (P : Ratio → Type 0) (n : ℕ) : Type 0 where
  pub list : List Ratio
  pub rising : IsRising list
  pub each : (x : Ratio) → Among x list → P x
  pub all : (x : Ratio) → P x → Among x list
  pub few : length list ≤ n

either : (i j : ℕ) → (i < j) ⊎ (j ≤ i)
either i j = grind arith

module _ (stop : Ratio) where
  abbrev Within : (Ratio → Type 0) → Ratio → Type 0
  Within P x = AtMost x stop × P x

  at_most_same : (x t : Ratio) → Same x t → AtMost x stop → AtMost t stop
  at_most_same x t same le = le_of_mul-le-mul_right {k = x.den} (omega (arith, ap (λ z. z * stop.den) same, mul-le-mul_right t.den le)) x.positive

  same_at_most : (x t : Ratio) → Same x t → AtMost t stop → AtMost x stop
  same_at_most x t same le = le_of_mul-le-mul_right {k = t.den} (omega (arith, ap (λ z. z * stop.den) same, mul-le-mul_right x.den le)) t.positive

  -- one instant more, where it is not after the stop
  one_more : (P : Ratio → Type 0) (t : Ratio) (n : ℕ) → Holds (Within P) n → Holds (Within (λ x. Same x t ⊎ P x)) (suc n)
  one_more P t n old = ⊎_elim
      (λ after. record {
        list = old.list;
        rising = old.rising;
        each = λ x at. ((old.each x at).0, inr (old.each x at).1);
        all = λ x is. ⊎_elim (λ same. let le = at_most_same x t same is.0 in absurd (omega (arith, le, after))) (λ p. old.all x (is.0, p)) is.1;
        few = omega (arith, old.few);
      })
      (λ le. let new = put t old.list old.rising in record {
        list = new.list;
        rising = new.rising;
        each = λ x at. ⊎_elim (λ same. (same_at_most x t same le, inl same)) (λ before. ((old.each x before).0, inr (old.each x before).1)) (new.from x at);
        all = λ x is. ⊎_elim (λ same. new.own x same) (λ p. new.kept x (old.all x (is.0, p))) is.1;
        few = omega (arith, new.short, old.few);
      })
      (either (stop.num * t.den) (t.num * stop.den))

  -- the same set said otherwise
  said : (P Q : Ratio → Type 0) (n : ℕ) → ((x : Ratio) → AtMost x stop → P x → Q x) → ((x : Ratio) → AtMost x stop → Q x → P x) → Holds (Within P) n → Holds (Within Q) n
  said P Q n f g old = record { list = old.list; rising = old.rising; each = λ x at. let h = old.each x at in (h.0, f x h.0 h.1); all = λ x is. old.all x (is.0, g x is.0 is.1); few = old.few }

  wider : (P : Ratio → Type 0) (m n : ℕ) → m ≤ n → Holds (Within P) m → Holds (Within P) n
  wider P m n le old = record { list = old.list; rising = old.rising; each = old.each; all = old.all; few = omega (arith, old.few, le) }

  one_row : (r : Ratio) (rows : List Ratio) → rows_within (r ∷ rows) stop ≡ (if at_most r stop then 1 else 0) + rows_within rows stop
  one_row r rows = sum_by-cons (λ t. if at_most t stop then 1 else 0) r rows

  with_rows : (P : Ratio → Type 0) (rows : List Ratio) (n : ℕ) → Holds (Within P) n → Holds (Within (λ x. Among x rows ⊎ P x)) (rows_within rows stop + n)
  with_rows P [] n old = wider (λ x. Among x [] ⊎ P x) n (rows_within [] stop + n) (omega arith) (said P (λ x. Among x [] ⊎ P x) n (λ x le p. inr p) (λ x le q. ⊎_elim (λ none. absurd none) (λ p. p) q) old)
  with_rows P (r ∷ rows) n old = by_test (with_rows P rows n old) (at_most r stop) refl
    where
      by_test : Holds (Within (λ x. Among x rows ⊎ P x)) (rows_within rows stop + n) → (test : Bool) → at_most r stop ≡ test → Holds (Within (λ x. Among x (r ∷ rows) ⊎ P x)) (rows_within (r ∷ rows) stop + n)
      by_test rest true e = wider (λ x. Among x (r ∷ rows) ⊎ P x) (suc (rows_within rows stop + n)) (rows_within (r ∷ rows) stop + n) (omega (arith, subst (λ b. rows_within (r ∷ rows) stop ≡ (if b then 1 else 0) + rows_within rows stop) e (one_row r rows))) (said (λ x. Same x r ⊎ (Among x rows ⊎ P x)) (λ x. Among x (r ∷ rows) ⊎ P x) (suc (rows_within rows stop + n))
          (λ x le h. ⊎_elim (λ same. inl (inl same)) (λ others. ⊎_elim (λ at. inl (inr at)) (λ p. inr p) others) h)
          (λ x le h. ⊎_elim (λ at. ⊎_elim (λ same. inl same) (λ more. inr (inl more)) at) (λ p. inr (inr p)) h)
          (one_more (λ x. Among x rows ⊎ P x) r (rows_within rows stop + n) rest))
      by_test rest false e = wider (λ x. Among x (r ∷ rows) ⊎ P x) (rows_within rows stop + n) (rows_within (r ∷ rows) stop + n) (omega (arith, subst (λ b. rows_within (r ∷ rows) stop ≡ (if b then 1 else 0) + rows_within rows stop) e (one_row r rows))) (said (λ x. Among x rows ⊎ P x) (λ x. Among x (r ∷ rows) ⊎ P x) (rows_within rows stop + n)
          (λ x le h. ⊎_elim (λ at. inl (inr at)) (λ p. inr p) h)
          (λ x le h. ⊎_elim (λ at. ⊎_elim (λ same. absurd (false≢true (sym e ∙ le-leb _ _ (at_most_same x r same le)))) (λ more. inl more) at) (λ p. inr p) h)
          rest)

  -- the ticks below number n
  with_ticks : (P : Ratio → Type 0) (period start : Ratio) (n m : ℕ) → Holds (Within P) m → Holds (Within (λ x. ((k : ℕ) × (k < n) × IsTick period start k x) ⊎ P x)) (n + m)
  with_ticks P period start zero m old = wider (λ x. ((k : ℕ) × (k < 0) × IsTick period start k x) ⊎ P x) m (0 + m) (omega arith) (said P (λ x. ((k : ℕ) × (k < 0) × IsTick period start k x) ⊎ P x) m (λ x le p. inr p) (λ x le q. ⊎_elim (λ none. absurd (omega (arith, none.1))) (λ p. p) q) old)
  with_ticks P period start (suc n) m old =
      let t = ratio_of (start.num * period.den + n * period.num * start.den) (start.den * period.den) (mul-pos start.positive period.positive) in
      wider (λ x. ((k : ℕ) × (k < suc n) × IsTick period start k x) ⊎ P x) (suc (n + m)) (suc n + m) (omega arith) (said (λ x. Same x t.0 ⊎ (((k : ℕ) × (k < n) × IsTick period start k x) ⊎ P x)) (λ x. ((k : ℕ) × (k < suc n) × IsTick period start k x) ⊎ P x) (suc (n + m))
      (λ x le h. ⊎_elim (λ same. inl (n, omega arith, cross_same_trans x.num x.den t.0.num t.0.den (start.num * period.den + n * period.num * start.den) (start.den * period.den) t.0.positive same t.1))
      (λ others. ⊎_elim (λ tick. inl (tick.0, omega (arith, tick.1), tick.2)) (λ p. inr p) others) h)
      (λ x le h. ⊎_elim (λ tick. ⊎_elim
      (λ here. inl (let at : IsTick period start n x = subst (λ k. IsTick period start k x) here tick.2 in
      cross_same_trans x.num x.den (start.num * period.den + n * period.num * start.den) (start.den * period.den) t.0.num t.0.den (mul-pos start.positive period.positive) at (sym t.1)))
      (λ before. inr (inl (tick.0, before, tick.2))) (last_or_before tick.0 n tick.1))
      (λ p. inr (inr p)) h)
      (one_more (λ x. ((k : ℕ) × (k < n) × IsTick period start k x) ⊎ P x) t.0 (n + m) (with_ticks P period start n m old)))
    where
      last_or_before : (i j : ℕ) → i < suc j → (i ≡ j) ⊎ (i < j)
      last_or_before i j lt = grind arith

  -- a tick that is an instant not after the stop is within it
  reaches : (period start t : Ratio) (k : ℕ) → IsTick period start k t → AtMost t stop → IsTickWithin period start k stop
  reaches period start t k at le = le_of_mul-le-mul_right {k = t.den} (omega (arith, ap (λ z. z * stop.den) at, mul-le-mul_right (start.den * period.den) le)) t.positive

  abbrev TicksOf : List Clock → Ratio → Type 0
  TicksOf [] x = ⊥
  TicksOf (clock ∷ clocks) x = TicksAt x clock ⊎ TicksOf clocks x

  with_clocks : (P : Ratio → Type 0) (rows : ℕ) (clocks : List Clock) (n m : ℕ) → HaveTicks stop rows clocks n → Holds (Within P) m → Holds (Within (λ x. TicksOf clocks x ⊎ P x)) (n + m)
  with_clocks P rows [] n m have old = wider (λ x. TicksOf [] x ⊎ P x) m (n + m) (omega arith) (said P (λ x. TicksOf [] x ⊎ P x) m (λ x le p. inr p) (λ x le q. ⊎_elim (λ none. absurd none) (λ p. p) q) old)
  with_clocks P rows (Event site factor shift ∷ clocks) n m have old = wider (λ x. TicksOf (Event site factor shift ∷ clocks) x ⊎ P x) (have.1 + m) (n + m) (omega (arith, have.4))
      (said (λ x. TicksOf clocks x ⊎ P x) (λ x. TicksOf (Event site factor shift ∷ clocks) x ⊎ P x) (have.1 + m)
      (λ x le h. ⊎_elim (λ others. inl (inr others)) (λ p. inr p) h)
      (λ x le h. ⊎_elim (λ ticks. ⊎_elim (λ none. absurd none) (λ others. inl others) ticks) (λ p. inr p) h)
      (with_clocks P rows clocks have.1 m have.3 old))
  with_clocks P rows (Periodic period start ∷ clocks) n m have old = wider (λ x. TicksOf (Periodic period start ∷ clocks) x ⊎ P x) (have.0 + (have.1 + m)) (n + m) (omega (arith, have.4))
      (said (λ x. ((k : ℕ) × (k < have.0) × IsTick period start k x) ⊎ (TicksOf clocks x ⊎ P x)) (λ x. TicksOf (Periodic period start ∷ clocks) x ⊎ P x) (have.0 + (have.1 + m))
      (λ x le h. ⊎_elim (λ tick. inl (inl (tick.0, tick.2))) (λ others. ⊎_elim (λ more. inl (inr more)) (λ p. inr p) others) h)
      (λ x le h. ⊎_elim (λ ticks. ⊎_elim (λ tick. inl (tick.0, (have.2 tick.0).1 (reaches period start x tick.0 tick.1 le), tick.1)) (λ more. inr (inl more)) ticks) (λ p. inr (inr p)) h)
      (with_ticks (λ x. TicksOf clocks x ⊎ P x) period start have.0 (have.1 + m) (with_clocks P rows clocks have.1 m have.3 old)))

  nothing : Holds (Within (λ x. ⊥)) 0
  nothing = record { list = []; rising = tt; each = λ x at. absurd at; all = λ x is. is.1; few = omega arith }

  zero_ratio : (r : Ratio) × IsFraction r 0 1
  zero_ratio = ratio_of 0 1 (omega arith)

  abbrev IsZero : Ratio → Type 0
  IsZero x = x.num ≡ 0

  only_zero : Holds (Within (λ x. (x.num ≡ 0) ⊎ ⊥)) 1
  only_zero = said (λ x. Same x zero_ratio.0 ⊎ ⊥) (λ x. (x.num ≡ 0) ⊎ ⊥) 1
      (λ x le h. ⊎_elim (λ same. inl (is_zero x same)) (λ none. inr none) h)
      (λ x le h. ⊎_elim (λ none. inl (omega (arith, ap (λ z. z * zero_ratio.0.den) none, zero_is, ap (λ z. z * x.den) zero_is))) (λ none. inr none) h)
      (one_more (λ x. ⊥) zero_ratio.0 0 nothing)
    where
      zero_is : zero_ratio.0.num ≡ 0
      zero_is = omega (arith, zero_ratio.1)

      is_zero : (x : Ratio) → Same x zero_ratio.0 → x.num ≡ 0
      is_zero x same = let none : x.num * zero_ratio.0.den ≡ 0 = omega (arith, same, ap (λ z. z * x.den) zero_is) in no_product x.num zero_ratio.0.den zero_ratio.0.positive none
        where
          no_product : (a b : ℕ) → 0 < b → a * b ≡ 0 → a ≡ 0
          no_product zero b some none = refl
          no_product (suc a) b some none = absurd (omega (arith, none))

-- by place
among_at : (x : Ratio) (ts : List Ratio) → Among x ts → (j : ℕ) × (u : Ratio) × (slice_get ts j ≡ Some u) × Same x u
among_at x [] at = absurd at
among_at x (t ∷ ts) (inl same) = (0, t, refl, same)
among_at x (t ∷ ts) (inr at) = let more = among_at x ts at in (suc more.0, more.1, more.2, more.3)

at_among : (x : Ratio) (ts : List Ratio) (j : ℕ) (u : Ratio) → slice_get ts j ≡ Some u → Same x u → Among x ts
at_among x [] j u is same = absurd (none-some u is)
at_among x (t ∷ ts) zero u is same = inl (subst (λ z. Same x z) (sym (same_Some t u is)) same)
at_among x (t ∷ ts) (suc j) u is same = inr (at_among x ts j u is same)

clock_at : (stop x : Ratio) (clocks : List Clock) → TicksOf stop clocks x → (j : ℕ) × (c : Clock) × (slice_get clocks j ≡ Some c) × TicksAt x c
clock_at stop x [] at = absurd at
clock_at stop x (c ∷ clocks) (inl ticks) = (0, c, refl, ticks)
clock_at stop x (c ∷ clocks) (inr at) = let more = clock_at stop x clocks at in (suc more.0, more.1, more.2, more.3)

at_clock : (stop x : Ratio) (clocks : List Clock) (j : ℕ) (c : Clock) → slice_get clocks j ≡ Some c → TicksAt x c → TicksOf stop clocks x
at_clock stop x [] j c is ticks = absurd (none-some c is)
at_clock stop x (d ∷ clocks) zero c is ticks = inl (subst (TicksAt x) (sym (same_Some d c is)) ticks)
at_clock stop x (d ∷ clocks) (suc j) c is ticks = inr (at_clock stop x clocks j c is ticks)

placed : {A : Type 0} (xs : List A) (k : ℕ) (x : A) → k < length xs → get_or xs k x ≡ x → slice_get xs k ≡ Some x
placed xs k x lt is = slice_get_read xs (length xs) k x refl lt (sym is)

any_of : {A : Type 0} (P : A → Type 0) (xs : List A) (k : ℕ) (x : A) → slice_get xs k ≡ Some x → P x → Any P xs
any_of P xs k x is holds = (k, x, slice_get_within xs k x is, get_or_from_slice_get xs k x x is, holds)

pub left_exists : (clocks : List Clock) (times : List Ratio) (stop : Ratio) (rows n : ℕ) → HaveTicks stop rows clocks n → (ts : List Ratio) × AreLeft clocks times stop None ts × (length ts ≤ n + (rows_within times stop + 1))
left_exists clocks times stop rows n have =
    let held = with_clocks stop (λ x. Among x times ⊎ ((x.num ≡ 0) ⊎ ⊥)) rows clocks n (rows_within times stop + 1) have (with_rows stop (λ x. (x.num ≡ 0) ⊎ ⊥) times 1 (only_zero stop)) in (
      held.list,
      record {
        rising = held.rising;
        each = λ j t is. let h = held.each t (at_among t held.list j t is refl) in (record { within = h.0; cause = cause_of t h.1 }, tt);
        all = λ t due later. among_at t held.list (held.all t (due.within, of_cause t due.cause));
      },
      held.few,
    )
  where
    cause_of : (x : Ratio) → TicksOf stop clocks x ⊎ (Among x times ⊎ ((x.num ≡ 0) ⊎ ⊥)) → (x.num ≡ 0) ⊎ Any (Same x) times ⊎ Any (TicksAt x) clocks
    cause_of x h = ⊎_elim (λ ticks. let c = clock_at stop x clocks ticks in inr (inr (any_of (TicksAt x) clocks c.0 c.1 c.2 c.3)))
        (λ others. ⊎_elim (λ row. let r = among_at x times row in inr (inl (any_of (Same x) times r.0 r.1 r.2 r.3))) (λ last. ⊎_elim (λ none. inl none) (λ no. absurd no) last) others) h

    of_cause : (x : Ratio) → (x.num ≡ 0) ⊎ Any (Same x) times ⊎ Any (TicksAt x) clocks → TicksOf stop clocks x ⊎ (Among x times ⊎ ((x.num ≡ 0) ⊎ ⊥))
    of_cause x h = ⊎_elim (λ none. inr (inr (inl none)))
        (λ others. ⊎_elim (λ row. inr (inl (at_among x times row.0 row.1 (placed times row.0 row.1 row.2 row.3) row.4))) (λ tick. inl (at_clock stop x clocks tick.0 tick.1 (placed clocks tick.0 tick.1 tick.2 tick.3) tick.4)) others) h

-- those left before the first moment are the instants of the run
pub left_are : (clocks : List Clock) (times : List Ratio) (stop : Ratio) (ts : List Ratio) → AreLeft clocks times stop None ts → AreInstants clocks times stop ts
left_are clocks times stop ts left = record {
  rising = left.rising;
  due = λ k d lt. (left.each k (get_or ts k d) (slice_get-get_or ts k d lt)).0;
  all = λ t due. let at = left.all t due tt in any_of (Same t) ts at.0 at.1 at.2 at.3;
}
