-- What is due is a tick or a row, and the first of both is the next instant.
use Rattle.std.proofs.Common.{Bool, true, false, le-leb, leb-true, ◌≡◌, refl, sym, ap, ◌∙◌, ℕ, ◌*◌, ◌<◌, ◌≤◌, ◌⊎◌, inl, inr, ⊎_elim, List, length, get_or, slice_get, Option, Some, None, Any, arith}
use Rattle.std.proofs.lemmas.Option.{slice_get_read, get_or_from_slice_get, slice_get_within}
use Rattle.std.proofs.lemmas.Bool.{false≢true}
use Rattle.rational_time.specs.declared.ratio.Ratio.{Ratio}
use Rattle.rational_time.specs.Fraction.{Same, AtMost, at_most}
use Rattle.rational_time.proofs.Order.{cross_le_trans}
use Rattle.flat_model.specs.declared.clock.Clock.{Clock}
use Rattle.flat_model.specs.declared.clock.Clock.TheVariants.{Periodic, Event}
use Rattle.flat_model.specs.declared.clock.Moment.{Moment}
use Rattle.flat_model.specs.Moments.{IsDue, TicksAt}
use Rattle.tick_plan.specs.declared.course.Course.{Course}
use Rattle.tick_plan.specs.private.Course.{AreRows, IsRowOf, IsTickOf, IsFirstOf, RowAhead, TickAhead, NextIs, earlier_of}

-- an element by its place
placed : {A : Type 0} (xs : List A) (k : ℕ) (x : A) → k < length xs → get_or xs k x ≡ x → slice_get xs k ≡ Some x
placed xs k x lt is = slice_get_read xs (length xs) k x refl lt (sym is)

any_of : {A : Type 0} (P : A → Type 0) (xs : List A) (k : ℕ) (x : A) → slice_get xs k ≡ Some x → P x → Any P xs
any_of P xs k x is holds = (k, x, slice_get_within xs k x is, get_or_from_slice_get xs k x x is, holds)

ticks_periodic : (c : Course) (u : Ratio) (i : ℕ) (clock : Clock) → AtMost u c.stop → slice_get c.clocks i ≡ Some clock → TicksAt u clock → IsTickOf c u
ticks_periodic c u i (Periodic period start) within is tick = record { clock = i; period = period; start = start; is = is; k = tick.0; at = tick.1; within = within }
ticks_periodic c u i (Event site factor shift) within is tick = absurd tick

-- what is due is a tick or a row
pub due_cases : (c : Course) → AreRows c → (u : Ratio) → IsDue c.clocks c.times c.stop u → IsTickOf c u ⊎ IsRowOf c u
due_cases c is u due = ⊎_elim
    (λ none. inr (record { place = 0; row = is.rising.zero_first.0; is = is.rising.zero_first.1; same = omega (arith, ap (λ z. z * is.rising.zero_first.0.den) none, ap (λ z. z * u.den) is.rising.zero_first.2); within = due.within }))
    (λ others. ⊎_elim
    (λ row. inr (record { place = row.0; row = row.1; is = placed c.times row.0 row.1 row.2 row.3; same = row.4; within = due.within }))
    (λ tick. inl (ticks_periodic c u tick.0 tick.1 due.within (placed c.clocks tick.0 tick.1 tick.2 tick.3) tick.4))
    others)
    due.cause

pub row_due : (c : Course) (t : Ratio) → IsRowOf c t → IsDue c.clocks c.times c.stop t
row_due c t row = record { within = row.within; cause = inr (inl (any_of (Same t) c.times row.place row.row row.is row.same)) }

pub tick_due : (c : Course) (t : Ratio) → IsTickOf c t → IsDue c.clocks c.times c.stop t
tick_due c t tick = record { within = tick.within; cause = inr (inr (any_of (TicksAt t) c.clocks tick.clock (Periodic tick.period tick.start) tick.is (tick.k, tick.at))) }

either : (i j : ℕ) → (i ≤ j) ⊎ (j < i)
either i j = grind arith

-- the first of two properties is the earlier of the first of each
pub earlier_first : (P Q : Ratio → Type 0) (given : Option Moment) (a b : Option Ratio) → IsFirstOf P given a → IsFirstOf Q given b → IsFirstOf (λ t. P t ⊎ Q t) given (earlier_of a b)
earlier_first P Q given None None p q = λ t due later. ⊎_elim (λ x. p t x later) (λ y. q t y later) due
earlier_first P Q given None (Some b) p q = (inr q.0, q.1, λ t due later. ⊎_elim (λ x. absurd (p t x later)) (λ y. q.2 t y later) due)
earlier_first P Q given (Some a) None p q = (inl p.0, p.1, λ t due later. ⊎_elim (λ x. p.2 t x later) (λ y. absurd (q t y later)) due)
earlier_first P Q given (Some a) (Some b) p q = by_test (at_most a b) refl
  where
    by_test : (test : Bool) → at_most a b ≡ test → IsFirstOf (λ t. P t ⊎ Q t) given (earlier_of (Some a) (Some b))
    by_test true e = let le : AtMost a b = leb-true _ _ e in
        rw e (inl p.0, p.1, λ t due later. ⊎_elim (λ x. p.2 t x later) (λ y. cross_le_trans a.num a.den b.num b.den t.num t.den b.positive le (q.2 t y later)) due)
    by_test false e = let le : AtMost b a = ⊎_elim (λ lt. absurd (false≢true (sym e ∙ le-leb _ _ lt))) (λ lt. omega (arith, lt)) (either (a.num * b.den) (b.num * a.den)) in
        rw e (inr q.0, q.1, λ t due later. ⊎_elim (λ x. cross_le_trans b.num b.den a.num a.den t.num t.den a.positive le (p.2 t x later)) (λ y. q.2 t y later) due)

swapped : (c : Course) (u : Ratio) → IsTickOf c u ⊎ IsRowOf c u → IsRowOf c u ⊎ IsTickOf c u
swapped c u h = ⊎_elim (λ tick. inr tick) (λ row. inl row) h

-- the first row or tick is the next instant
pub first_next : (c : Course) → AreRows c → (r : Option Ratio) → IsFirstOf (λ t. IsRowOf c t ⊎ IsTickOf c t) c.given r → NextIs c r
first_next c is None none = λ u due later. none u (swapped c u (due_cases c is u due)) later
first_next c is (Some t) first = record {
  due = ⊎_elim (row_due c t) (tick_due c t) first.0;
  later = first.1;
  first = λ u due later. first.2 u (swapped c u (due_cases c is u due)) later;
}

pub next_of : (c : Course) → AreRows c → (row tick : Option Ratio) → RowAhead c row → TickAhead c tick → NextIs c (earlier_of row tick)
next_of c is row tick rows ticks = first_next c is (earlier_of row tick) (earlier_first (IsRowOf c) (IsTickOf c) c.given row tick rows ticks)
