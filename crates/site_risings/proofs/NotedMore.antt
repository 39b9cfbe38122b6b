-- One more site is noted; and what is noted at a moment are the risings of an assignment.
use Rattle.std.proofs.Common.{◌≡◌, ◌≢◌, refl, ap, ap₂, ◌∙◌, sym, subst, ℕ, zero, suc, ◌+◌, ◌<◌, ◌≤◌, ◌&&◌, Bool, true, false, List, [], ◌∷◌, length, get_or, length-set, Option, Some, None, unwrap_or, slice_get, slice_set, ◌⊎◌, inl, inr, arith}
use Rattle.std.proofs.lemmas.Bool.{cases_lt, cases_eq, false≢true}
use Rattle.rational_time.specs.declared.ratio.Ratio.{Ratio}
use Rattle.flat_model.specs.declared.clock.Moment.{Moment}
use Rattle.flat_model.specs.declared.clock.Moment.TheVariants.{At}
use Rattle.tick_plan.specs.Plans.{Planned, CanRise, after_rise}
use Rattle.site_risings.specs.Risings.{is_high, is_low, noted_at, answer_of, was_low, CanNote, NotedTo}

slice_get-set_same : {A : Type 0} (xs : List A) (i : ℕ) (a : A) → i < length xs → slice_get (slice_set xs i a) i ≡ Some a
slice_get-set_same [] i a h = absurd (omega (arith, h))
slice_get-set_same (x ∷ xs) zero a h = refl
slice_get-set_same (x ∷ xs) (suc i) a h = slice_get-set_same xs i a (omega (arith, h))

slice_get-set_other : {A : Type 0} (xs : List A) (i j : ℕ) (a : A) → j ≢ i → slice_get (slice_set xs i a) j ≡ slice_get xs j
slice_get-set_other [] i j a h = refl
slice_get-set_other (x ∷ xs) zero zero a h = absurd (h refl)
slice_get-set_other (x ∷ xs) zero (suc j) a h = refl
slice_get-set_other (x ∷ xs) (suc i) zero a h = refl
slice_get-set_other (x ∷ xs) (suc i) (suc j) a h = slice_get-set_other xs i j a (λ e. h (ap suc e))

module _ (answers : List (Option Bool)) (low : List Bool) (old : Planned) (can : CanNote answers low old) (count : ℕ) (plan : Planned) (kept : List Bool) (noted : NotedTo answers low old count plan kept) (lt : count < length answers) where
  -- the site may be noted
  pub can_rise : was_low low count ≡ true → CanRise plan count
  can_rise was = let at = can.instant count was in record {
    at = at.0;
    given = noted.given ∙ at.1;
    fresh = noted.fresh count (omega arith) ∙ can.fresh count (let long = can.long in omega (arith, lt, long));
  }

  lows_next : (l : Bool) → l ≡ is_low (answer_of answers count) → (site : ℕ) → site < count + 1 → slice_get (slice_set kept count l) site ≡ Some (is_low (answer_of answers site))
  lows_next l is site less = elim (cases_eq site count) [
    | inl here ↦ subst (λ k. slice_get (slice_set kept count l) k ≡ Some (is_low (answer_of answers k))) (sym here)
        (slice_get-set_same kept count l (let long = can.long in let wide = can.wide in let same = noted.wide in omega (arith, lt, long, wide, same)) ∙ ap Some is)
    | inr other ↦ slice_get-set_other kept count site l other ∙ noted.lows site (omega (arith, less, other))
  ]

  still_next : (l : Bool) (site : ℕ) → count + 1 ≤ site → slice_get (slice_set kept count l) site ≡ slice_get low site
  still_next l site le = slice_get-set_other kept count site l (λ e. omega (arith, le, e)) ∙ noted.still site (omega (arith, le))

  -- with a site that rises
  pub noted_rise : (l : Bool) → l ≡ is_low (answer_of answers count) → is_high (answer_of answers count) && was_low low count ≡ true → NotedTo answers low old (count + 1) (after_rise plan count) (slice_set kept count l)
  noted_rise l is rises = record {
    clocks = noted.clocks;
    ahead = noted.ahead;
    given = noted.given;
    risings = noted.risings;
    long = length-set plan.noted count true ∙ noted.long;
    wide = length-set kept count l ∙ noted.wide;
    noted = λ site less. elim (cases_eq site count) [
      | inl here ↦ subst (λ k. slice_get (slice_set plan.noted count true) k ≡ Some (is_high (answer_of answers k) && was_low low k)) (sym here)
          (slice_get-set_same plan.noted count true (let long = can.long in let same = noted.long in omega (arith, lt, long, same)) ∙ ap Some (sym rises))
      | inr other ↦ slice_get-set_other plan.noted count site true other ∙ noted.noted site (omega (arith, less, other))
    ];
    fresh = λ site le. slice_get-set_other plan.noted count site true (λ e. omega (arith, le, e)) ∙ noted.fresh site (omega (arith, le));
    lows = lows_next l is;
    still = still_next l;
  }

  -- and with one that does not
  pub noted_rest : (l : Bool) → l ≡ is_low (answer_of answers count) → is_high (answer_of answers count) && was_low low count ≡ false → NotedTo answers low old (count + 1) plan (slice_set kept count l)
  noted_rest l is rests = record {
    clocks = noted.clocks;
    ahead = noted.ahead;
    given = noted.given;
    risings = noted.risings;
    long = noted.long;
    wide = length-set kept count l ∙ noted.wide;
    noted = λ site less. elim (cases_eq site count) [
      | inl here ↦ subst (λ k. slice_get plan.noted k ≡ Some (is_high (answer_of answers k) && was_low low k)) (sym here)
          (noted.fresh count (omega arith) ∙ can.fresh count (let long = can.long in omega (arith, lt, long)) ∙ ap Some (sym rests))
      | inr other ↦ noted.noted site (omega (arith, less, other))
    ];
    fresh = λ site le. noted.fresh site (omega (arith, le));
    lows = lows_next l is;
    still = still_next l;
  }

-- one more site
pub noted_next : (answers : List (Option Bool)) (low : List Bool) (old : Planned) → CanNote answers low old → (count : ℕ) (plan next : Planned) (kept : List Bool) → NotedTo answers low old count plan kept → count < length answers
    → (l : Bool) → l ≡ is_low (answer_of answers count) → (b : Bool) → b ≡ is_high (answer_of answers count) && was_low low count → next ≡ noted_at b plan count → NotedTo answers low old (count + 1) next (slice_set kept count l)
noted_next answers low old can count plan next kept noted lt l is true rises same =
    subst (λ p. NotedTo answers low old (count + 1) p (slice_set kept count l)) (sym same) (noted_rise answers low old can count plan kept noted lt l is (sym rises))
noted_next answers low old can count plan next kept noted lt l is false rests same =
    subst (λ p. NotedTo answers low old (count + 1) p (slice_set kept count l)) (sym same) (noted_rest answers low old can count plan kept noted lt l is (sym rests))

-- the value at a place is that of the list
pub answer_at : (answers : List (Option Bool)) (site : ℕ) (d : Option Bool) → site < length answers → get_or answers site d ≡ answer_of answers site
answer_at [] site d lt = absurd (omega (arith, lt))
answer_at (a ∷ answers) zero d lt = refl
answer_at (a ∷ answers) (suc site) d lt = answer_at answers site d (omega (arith, lt))

pub low_at : (low : List Bool) (site : ℕ) (d : Bool) → site < length low → get_or low site d ≡ was_low low site
low_at [] site d lt = absurd (omega (arith, lt))
low_at (a ∷ low) zero d lt = refl
low_at (a ∷ low) (suc site) d lt = low_at low site d (omega (arith, lt))

-- a place that was not reached yet is as it was
pub was_same : (kept low : List Bool) (site : ℕ) → slice_get kept site ≡ slice_get low site → was_low kept site ≡ was_low low site
was_same kept low site e = ap (λ o. unwrap_or o false) e

-- before the first site nothing is noted
pub noted_none : (answers : List (Option Bool)) (low : List Bool) (plan : Planned) → NotedTo answers low plan 0 plan low
noted_none answers low plan = record {
  clocks = refl;
  ahead = refl;
  given = refl;
  risings = refl;
  long = refl;
  wide = refl;
  noted = λ site lt. absurd (omega (arith, lt));
  fresh = λ site le. refl;
  lows = λ site lt. absurd (omega (arith, lt));
  still = λ site le. refl;
}
