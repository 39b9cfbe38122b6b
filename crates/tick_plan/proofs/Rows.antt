-- The rows of a course: the first of them to come, and where they go on past an instant.
use Rattle.std.proofs.Common.{false, le-leb, ◌≡◌, refl, sym, subst, ap, ◌∙◌, ℕ, ◌+◌, ◌*◌, ◌<◌, ◌≤◌, ◌⊎◌, ⊎_elim, slice_get, Option, Some, None, arith, mul-lt-mul_of_pos_right, le_of_mul-le-mul_right, lt_of_mul-lt-mul_right}
use Rattle.std.proofs.lemmas.Option.{slice_get-get_or, slice_get_within, none-some, same_Some}
use Rattle.std.proofs.lemmas.Bool.{false≢true}
use Rattle.rational_time.specs.declared.ratio.Ratio.{Ratio}
use Rattle.rational_time.specs.Fraction.{Same, Below, AtMost, at_most}
use Rattle.rational_time.proofs.Order.{cross_le_trans, cross_lt_le_trans, cross_le_lt_trans}
use Rattle.flat_model.specs.declared.clock.Moment.{Moment}
use Rattle.flat_model.specs.declared.clock.Moment.TheVariants.{Initial, At}
use Rattle.flat_model.specs.NextInstant.{IsAfter, IsNext}
use Rattle.flat_model.proofs.InstantsLeft.{later_after}
use Rattle.tick_plan.specs.declared.course.Course.{Course}
use Rattle.tick_plan.specs.private.Course.{AreRows, IsRow, IsRowOf, RowAhead}
use Rattle.tick_plan.proofs.Nexts.{row_due}

after_same : (given : Option Moment) (t u : Ratio) → Same t u → IsAfter given t → IsAfter given u
after_same None t u same h = tt
after_same (Some Initial) t u same h = tt
after_same (Some (At g)) t u same h = lt_of_mul-lt-mul_right t.den (omega (arith, mul-lt-mul_of_pos_right h u.positive, ap (λ z. z * g.den) same))

three : (a b : ℕ) → (a < b) ⊎ ((a ≡ b) ⊎ (b < a))
three a b = grind arith

-- the row at the place is not after any row to come
row_first : (c : Course) → AreRows c → (r : Ratio) → slice_get c.times c.row ≡ Some r → (t : Ratio) → IsRowOf c t → IsAfter c.given t → AtMost r t
row_first c is r at t row later = ⊎_elim
    (λ passed. absurd (is.row_is.passed row.place row.row row.is passed (after_same c.given t row.row row.same later)))
    (λ others. ⊎_elim
    (λ here. let same : row.row ≡ r = same_Some _ _ (sym row.is ∙ ap (slice_get c.times) here ∙ at) in subst (λ x. AtMost x t) same (omega (arith, row.same)))
    (λ before. let below = is.rising.ordered c.row row.place r row.row before at row.is in
    le_of_mul-le-mul_right {k = row.row.den} (omega (arith, mul-lt-mul_of_pos_right below t.positive, ap (λ z. z * r.den) row.same)) row.row.positive)
    others)
    (three row.place c.row)

pub row_some : (c : Course) → AreRows c → (r : Ratio) → slice_get c.times c.row ≡ Some r → AtMost r c.stop → RowAhead c (Some r)
row_some c is r at within = (record { place = c.row; row = r; is = at; same = refl; within = within }, is.row_is.ahead c.row r at (omega arith), row_first c is r at)

pub row_past : (c : Course) → AreRows c → (r : Ratio) → slice_get c.times c.row ≡ Some r → Below c.stop r → RowAhead c None
row_past c is r at past t row later =
    let le = row_first c is r at t row later in
    let bad : c.stop.num * t.den < t.num * c.stop.den = cross_lt_le_trans c.stop.num c.stop.den r.num r.den t.num t.den t.positive past le in
    omega (arith, bad, row.within)

either : (i j : ℕ) → (i < j) ⊎ (j ≤ i)
either i j = grind arith

pub row_none : (c : Course) → AreRows c → slice_get c.times c.row ≡ None → RowAhead c None
row_none c is none t row later = ⊎_elim
    (λ passed. is.row_is.passed row.place row.row row.is passed (after_same c.given t row.row row.same later))
    (λ past. none-some _ (sym none ∙ slice_get-get_or c.times c.row row.row (omega (arith, past, slice_get_within c.times row.place row.row row.is))))
    (either row.place c.row)

-- what is not at most the stop is above it
pub above_stop : (r stop : Ratio) → at_most r stop ≡ false → Below stop r
above_stop r stop h = ⊎_elim (λ below. below) (λ le. absurd (false≢true (sym h ∙ le-leb _ _ le))) (either (stop.num * r.den) (r.num * stop.den))

abbrev NextOf : Course → Ratio → Type 0
NextOf c t = IsNext c.clocks c.times c.stop c.given t

last_or_before : (i j : ℕ) → i < j + 1 → (i ≡ j) ⊎ (i < j)
last_or_before i j lt = grind arith

-- the row at the place is not before an instant that is next
row_not_before : (c : Course) → AreRows c → (t r : Ratio) → NextOf c t → slice_get c.times c.row ≡ Some r → AtMost r c.stop → AtMost t r
row_not_before c is t r next at within =
    next.first r (row_due c r (record { place = c.row; row = r; is = at; same = refl; within = within })) (is.row_is.ahead c.row r at (omega arith))

-- the row at the place lies at the instant: the rows behind it come next
pub row_goes_on : (c : Course) → AreRows c → (t r : Ratio) → NextOf c t → slice_get c.times c.row ≡ Some r → AtMost r t → IsRow c.times (Some (At t)) (c.row + 1)
row_goes_on c is t r next at le =
    let within : AtMost r c.stop = cross_le_trans r.num r.den t.num t.den c.stop.num c.stop.den t.positive le next.due.within in
    let other : AtMost t r = row_not_before c is t r next at within in record {
      passed = λ j u has lt later. ⊎_elim
          (λ here. let same : r ≡ u = same_Some _ _ (sym at ∙ ap (slice_get c.times) (sym here) ∙ has) in let not = subst (λ x. AtMost x t) same le in omega (arith, not, later))
          (λ before. is.row_is.passed j u has before (later_after c.given t u next.later later))
          (last_or_before j c.row lt);
      ahead = λ j u has le. let past : Below r u = is.rising.ordered c.row j r u (omega (arith, le)) at has in cross_le_lt_trans t.num t.den r.num r.den u.num u.den t.positive other past;
    }

-- the row at the place lies after the instant, and stays the next
pub row_stays : (c : Course) → AreRows c → (t r : Ratio) → NextOf c t → slice_get c.times c.row ≡ Some r → Below t r → IsRow c.times (Some (At t)) c.row
row_stays c is t r next at past = record {
  passed = λ j u has lt later. is.row_is.passed j u has lt (later_after c.given t u next.later later);
  ahead = λ j u has le. ⊎_elim
      (λ more. cross_lt_le_trans t.num t.den r.num r.den u.num u.den u.positive past (let below : Below r u = is.rising.ordered c.row j r u more at has in omega (arith, below)))
      (λ most. let here : c.row ≡ j = omega (arith, most, le) in subst (λ x. Below t x) (same_Some _ _ (sym at ∙ ap (slice_get c.times) here ∙ has)) past)
      (either c.row j);
}

-- no row is left
pub row_ended : (c : Course) → AreRows c → (t : Ratio) → NextOf c t → slice_get c.times c.row ≡ None → IsRow c.times (Some (At t)) c.row
row_ended c is t next none = record {
  passed = λ j u has lt later. is.row_is.passed j u has lt (later_after c.given t u next.later later);
  ahead = λ j u has le. absurd (none-some _ (sym none ∙ slice_get-get_or c.times c.row u (omega (arith, le, slice_get_within c.times j u has))));
}
