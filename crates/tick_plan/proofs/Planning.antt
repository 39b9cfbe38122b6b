-- How a plan goes on.
use Rattle.std.proofs.Common.{◌≡◌, sym, subst, ap, ◌∙◌, ℕ, suc, ◌+◌, ◌<◌, ◌≤◌, ◌^◌, List, length, map, get_or, Option, Some, None, Bool, true, false, slice_set, arith}
use Rattle.rational_time.specs.declared.ratio.Ratio.{Ratio}
use Rattle.flat_model.specs.declared.clock.Clock.{Clock}
use Rattle.flat_model.specs.declared.clock.Moment.{Moment}
use Rattle.flat_model.specs.NextInstant.{AreLeft}
use Rattle.tick_plan.specs.declared.course.Course.{Course}
use Rattle.tick_plan.specs.Left.{HasLeft, HasLeft-prop, AreFew, ahead_of, seen, StepsOn}
use Rattle.tick_plan.specs.Plans.{Planned, GoesOn, counted, after_rise}
use Rattle.tick_plan.proofs.Counted.{counted_few, counted_length, cleared_length}

-- what is left after a step
pub left_after : (old new : Course) (ts : List Ratio) (m : Moment) → StepsOn old new ts (Some m) → HasLeft new
left_after old new ts m s = (s.0, s.5)

-- there are fewer risings than moments gone
pub few_after : (old new : Course) (ts : List Ratio) (m : Moment) → StepsOn old new ts (Some m) → (left : HasLeft new) → (xs ys : List ℕ) (bs : List Bool) → length xs ≡ length bs → ys ≡ counted xs bs
    → AreFew old ts xs → AreFew new left.0 ys
few_after old new ts m s left xs ys bs long is few j lt =
    let same : left.0 ≡ s.0 = ap (λ l. l.0) (HasLeft-prop new left (s.0, s.5)) in
    let count : length (ahead_of old.given ts) ≡ suc (length (ahead_of new.given left.0)) = ap length s.1 ∙ ap (λ l. suc (length (ahead_of new.given l))) (sym same) in
    let more : get_or ys j 0 ≤ get_or xs j 0 + 1 = subst (λ zs. get_or zs j 0 ≤ get_or xs j 0 + 1) (sym is) (counted_few xs bs j) in
    let within : j < length xs = subst (λ n. j < n) (ap length is ∙ counted_length xs bs long) lt in
    let before = few j within in
    omega (arith, count, more, before)

pub room_before : (old new : Course) (ts : List Ratio) (m : Moment) → StepsOn old new ts (Some m) → (xs : List ℕ)
    → AreFew old ts xs → (j : ℕ) → j < length xs → get_or xs j 0 + 1 < 2 ^ 64
room_before old new ts m s xs few j lt = let before = few j lt in omega (arith, before)

pub goes_on : (old new : Course) (ts : List Ratio) (m : Moment) → StepsOn old new ts (Some m) → (left : HasLeft new) → (xs ys : List ℕ) (bs cs : List Bool) → ys ≡ counted xs bs → cs ≡ map (λ b. false) bs
    → GoesOn (seen old ts xs bs) (seen new left.0 ys cs) (Some m)
goes_on old new ts m s left xs ys bs cs ys_are cs_are =
    let same : left.0 ≡ s.0 = ap (λ l. l.0) (HasLeft-prop new left (s.0, s.5)) in
    (ahead_of new.given s.0, s.1, all_of s.3.clocks (ap (ahead_of new.given) same) s.2 ys_are cs_are)
  where
    all_of : {k l : List Clock} {a b : List Moment} {g h : Option Moment} {r t : List ℕ} {n o : List Bool} → k ≡ l → a ≡ b → g ≡ h → r ≡ t → n ≡ o
        → ◌≡◌ {A = Planned} (record { clocks = k; ahead = a; given = g; risings = r; noted = n }) (record { clocks = l; ahead = b; given = h; risings = t; noted = o })
    all_of p q u v w = λ i. record { clocks = p i; ahead = q i; given = u i; risings = v i; noted = w i }

pub few_still : (old new : Course) (ts : List Ratio) → new ≡ old → (left : HasLeft new) → ∥ AreLeft old.clocks old.times old.stop old.given ts ∥₁ → (xs : List ℕ)
    → AreFew old ts xs → AreFew new left.0 xs
few_still old new ts same left before xs few = subst (λ c. (l : HasLeft c) → AreFew c l.0 xs) (sym same)
    (λ l. subst (λ zs. AreFew old zs xs) (ap (λ x. x.0) (HasLeft-prop old (ts, before) l)) few) left

pub stays : (old new : Course) (before : HasLeft old) → StepsOn old new before.0 None → (left : HasLeft new) → (xs : List ℕ) (bs : List Bool) → GoesOn (seen old before.0 xs bs) (seen new left.0 xs bs) None
stays old new before s left xs bs = (s.0, subst (λ c. (l : HasLeft c) → seen c l.0 xs bs ≡ seen old before.0 xs bs) (sym s.1) (λ l. ap (λ x. seen old x.0 xs bs) (HasLeft-prop old l before)) left)

pub risen : (c : Course) (before after : HasLeft c) (xs : List ℕ) (bs : List Bool) (site : ℕ) → seen c after.0 xs (slice_set bs site true) ≡ after_rise (seen c before.0 xs bs) site
risen c before after xs bs site = ap (λ x. seen c x.0 xs (slice_set bs site true)) (HasLeft-prop c after before)

pub long_after : (xs : List ℕ) (bs : List Bool) (ys : List ℕ) (cs : List Bool) → length xs ≡ length bs → ys ≡ counted xs bs → cs ≡ map (λ b. false) bs → length ys ≡ length cs
long_after xs bs ys cs long y c = ap length y ∙ counted_length xs bs long ∙ long ∙ sym (cleared_length bs) ∙ sym (ap length c)
