-- A plan along a run, and the window of one moment.
use Rattle.std.proofs.Common.{◌≡◌, refl, ap, ap₂, ◌∙◌, sym, subst, ℕ, zero, suc, ◌+◌, ◌<◌, ◌≤◌, Bool, false, List, [], ◌∷◌, length, map, drop, Option, Some, None, slice_get, unwrap_or, is_none, if◌then◌else◌, arith}
use Rattle.std.proofs.lemmas.Bool.{true≢false}
use Rattle.rational_time.specs.declared.ratio.Ratio.{Ratio}
use Rattle.sync_values.specs.declared.value.Value.{Value}
use Rattle.flat_model.specs.declared.clock.Moment.{Moment}
use Rattle.flat_model.specs.declared.clock.Moment.TheVariants.{Initial, At}
use Rattle.flat_model.specs.declared.fault.Fault.{Fault}
use Rattle.flat_model.specs.Moments.{moment_at}
use Rattle.flat_model.specs.Assignment.{Assignment}
use Rattle.flat_model.specs.Setting.{Setting, rises, risings_before}
use Rattle.flat_model.specs.Trace.{columns_of}
use Rattle.tick_plan.specs.Plans.{Planned, moments_of, counted, GoesOn}
use Rattle.run_ahead.specs.Ahead.{IsAloneBefore, IsKept, EndsAt, HasRunOn, RunsOn}
use Rattle.run_ahead.specs.Advances.{EndsWhere}
use Rattle.run_moments.specs.Moving.{IsPlanBefore, IsPlanTaken, IsPlanAt, IsThere, Moves, one_window}

drop_moments : (ts : List Ratio) (n : ℕ) (moment : Moment) (rest : List Moment) → drop n (map (λ t. At t) ts) ≡ moment ∷ rest → moment_at ts (suc n) ≡ Some moment
drop_moments [] zero moment rest e = absurd cc
drop_moments [] (suc n) moment rest e = absurd cc
drop_moments (t ∷ ts) zero moment rest e = let h : At t ≡ moment = cc in ap Some h
drop_moments (t ∷ ts) (suc n) moment rest e = drop_moments ts n moment rest e

-- the first moment left is the next one of the run
first_left : (s : Setting) (n : ℕ) (moment : Moment) (rest : List Moment) → drop n (moments_of s.instants) ≡ moment ∷ rest → moment_at s.instants n ≡ Some moment
first_left s zero moment rest e = let h : Initial ≡ moment = cc in ap Some h
first_left s (suc n) moment rest e = drop_moments s.instants n moment rest e

drop_next : {A : Type 0} (xs : List A) (n : ℕ) (x : A) (rest : List A) → drop n xs ≡ x ∷ rest → drop (suc n) xs ≡ rest
drop_next [] zero x rest e = absurd cc
drop_next [] (suc n) x rest e = absurd cc
drop_next (y ∷ ys) zero x rest e = let h : ys ≡ rest = cc in h
drop_next (y ∷ ys) (suc n) x rest e = drop_next ys n x rest e

drop_all : {A : Type 0} (xs : List A) (n : ℕ) → drop n xs ≡ [] → length xs ≤ n
drop_all [] n e = omega arith
drop_all (y ∷ ys) zero e = absurd cc
drop_all (y ∷ ys) (suc n) e = let h : length ys ≤ n = drop_all ys n e in omega (arith, h)

length_moments : (ts : List Ratio) → length (map (λ t. At t) ts) ≡ length ts
length_moments [] = refl
length_moments (t ∷ ts) = ap suc (length_moments ts)

none_noted : (noted : List Bool) (site : ℕ) → unwrap_or (slice_get (map (λ b. false) noted) site) false ≡ false
none_noted [] site = refl
none_noted (b ∷ noted) zero = refl
none_noted (b ∷ noted) (suc site) = none_noted noted site

length_cleared : (noted : List Bool) → length (map (λ b. false) noted) ≡ length noted
length_cleared [] = refl
length_cleared (b ∷ noted) = ap suc (length_cleared noted)

length_counted : (risings : List ℕ) (noted : List Bool) → length noted ≡ length risings → length (map (λ b. false) noted) ≡ length (counted risings noted)
length_counted [] [] long = refl
length_counted [] (b ∷ noted) long = absurd (omega (arith, long))
length_counted (n ∷ risings) [] long = absurd (omega (arith, long))
length_counted (n ∷ risings) (b ∷ noted) long = ap suc (length_counted risings noted (omega (arith, long)))

-- it gives the next moment of the run
next_taken : (s : Setting) (S : Assignment) (n : ℕ) (old new : Planned) (moment : Moment) → IsPlanBefore s S n old → GoesOn old new (Some moment)
    → (moment_at s.instants n ≡ Some moment) × IsPlanTaken s S n new
next_taken s S n old new moment is (rest, left, new_is) =
    let found = first_left s n moment rest (sym is.ahead ∙ left) in (
      found,
      subst (IsPlanTaken s S n) (sym new_is) (record {
        clocks = is.clocks;
        given = sym found;
        ahead = sym (drop_next (moments_of s.instants) n moment rest (sym is.ahead ∙ left));
        sites = length_counted old.risings old.noted is.sites;
        own = length_cleared old.noted ∙ is.own;
        risings = is.risings;
        fresh = none_noted old.noted;
      }),
    )

-- or none is left
next_none : (s : Setting) (S : Assignment) (n : ℕ) (old new : Planned) → IsPlanBefore s S n old → GoesOn old new None → (length s.instants < n) × (new ≡ old)
next_none s S n old new is (left, new_is) =
    let all = drop_all (moments_of s.instants) n (sym is.ahead ∙ left) in
    let long = length_moments s.instants in (omega (arith, all, long), new_is)

-- what is there before a moment is there at the one that the plan gives
pub there_at : (keeps : Setting → Assignment → ℕ → Type 0) (old taken : Planned) (at : Moment) → IsKept (λ s A n. keeps s A n × IsPlanBefore s A n old) → GoesOn old taken (Some at) → IsThere keeps taken at
there_at keeps old taken at (s, A, n, kept, alone) goes =
    let here = next_taken s A n old taken at kept.1 goes in (s, A, n, kept.0, here.1, here.0, alone)

pub some_left : (old new : Planned) (moment : Moment) → GoesOn old new (Some moment) → old.ahead ≡ [] → ⊥
some_left old new moment (rest, left, new_is) none = let h = sym none ∙ left in absurd cc

-- the counts with what was noted at n
counted_at : (s : Setting) (S : Assignment) (n : ℕ) (site : ℕ) (risings : List ℕ) (noted : List Bool) → length noted ≡ length risings → (place : ℕ) → unwrap_or (slice_get risings place) 0 ≡ risings_before s S site n
    → unwrap_or (slice_get noted place) false ≡ rises s S site n → unwrap_or (slice_get (counted risings noted) place) 0 ≡ risings_before s S site (suc n)
counted_at s S n site [] [] long place count rising = ap₂ (λ c r. if c then r + 1 else r) rising count
counted_at s S n site [] (b ∷ noted) long place count rising = absurd (omega (arith, long))
counted_at s S n site (k ∷ risings) [] long place count rising = absurd (omega (arith, long))
counted_at s S n site (k ∷ risings) (b ∷ noted) long zero count rising = ap₂ (λ c r. if c then r + 1 else r) rising count
counted_at s S n site (k ∷ risings) (b ∷ noted) long (suc place) count rising = counted_at s S n site risings noted (omega (arith, long)) place count rising

-- behind the risings of a moment it stands before the next one
pub plan_after : (s : Setting) (S : Assignment) (n : ℕ) (plan : Planned) → IsPlanAt s S n plan → IsPlanBefore s S (suc n) plan
plan_after s S n plan is = record {
  clocks = is.clocks;
  ahead = is.ahead;
  sites = is.sites;
  own = is.own;
  risings = λ site. counted_at s S n site plan.risings plan.noted is.sites site (is.risings site) (is.noted site);
}

module _ (before after : Setting → Assignment → ℕ → Type 0) (s : Setting) (A : Assignment) (n : ℕ) where
  -- no moment left: an empty window
  ran_none : (old new : Planned) (row : List (Option Value)) → before s A n → IsPlanBefore s A n old → IsAloneBefore s A n → GoesOn old new None
      → HasRunOn (λ s A n. before s A n × IsPlanBefore s A n new) s A n (one_window None row None)
  ran_none old new row keeps plan alone goes =
      let past = next_none s A n old new plan goes in
      let same : n ≡ n + 0 = omega arith in record {
        after = A;
        agrees = λ x k lt. refl;
        alone = subst (IsAloneBefore s A) same alone;
        shows = record { moments = λ j lt. absurd (omega (arith, lt)); there = λ j lt. absurd (omega (arith, lt)); rows = λ j lt. absurd (omega (arith, lt)) };
        ends = subst (λ k. before s A k × IsPlanBefore s A k new) same (keeps, subst (IsPlanBefore s A n) (sym past.1) plan);
        progress = λ empty quiet. past.0;
      }

  -- a moment that went well: a window of one row
  ran_one : (old taken plan : Planned) (at : Moment) (row : List (Option Value)) → before s A n → IsPlanBefore s A n old → IsAloneBefore s A n → GoesOn old taken (Some at)
      → Moves before taken at after plan row None → HasRunOn (λ s A n. after s A n × IsPlanBefore s A n plan) s A n (one_window (Some at) row None)
  ran_one old taken plan at row keeps is alone goes moves =
      let here = next_taken s A n old taken at is goes in
      let moved = moves s A n keeps here.1 here.0 alone in
      let next : suc n ≡ n + 1 = omega arith in record {
        after = moved.after;
        agrees = moved.agrees;
        alone = subst (IsAloneBefore s moved.after) next moved.ends.0;
        shows = record {
          moments = λ j lt. first_moment here.0 j lt;
          there = λ j lt. (at, subst (λ k. moment_at s.instants k ≡ Some at) (number j lt) here.0);
          rows = λ j lt. first_row moved.after moved.ends.3 j lt;
        };
        ends = subst (λ k. after s moved.after k × IsPlanBefore s moved.after k plan) next (moved.ends.1, moved.ends.2);
        progress = λ empty quiet. absurd (omega (arith, empty));
      }
    where
      number : (j : ℕ) → 0 + j < 1 → n ≡ n + j
      number j lt = omega (arith, lt)

      first_moment : moment_at s.instants n ≡ Some at → (j : ℕ) → 0 + j < 1 → slice_get (at ∷ []) (0 + j) ≡ moment_at s.instants (n + j)
      first_moment found j lt = subst (λ k. slice_get (at ∷ []) k ≡ moment_at s.instants (n + j)) (let e : 0 ≡ 0 + j = omega (arith, lt) in e) (subst (λ k. Some at ≡ moment_at s.instants k) (number j lt) (sym found))

      first_row : (there : Assignment) → row ≡ map (λ x. there x n) (columns_of s.model.names) → (j : ℕ) → 0 + j < 1 → slice_get (row ∷ []) (0 + j) ≡ Some (map (λ x. there x (n + j)) (columns_of s.model.names))
      first_row there is j lt = subst (λ k. slice_get (row ∷ []) k ≡ Some (map (λ x. there x (n + j)) (columns_of s.model.names))) (let e : 0 ≡ 0 + j = omega (arith, lt) in e)
          (subst (λ k. Some row ≡ Some (map (λ x. there x k) (columns_of s.model.names))) (number j lt) (ap Some is))

  -- a moment that failed: no row, and the fault
  ran_fault : (old taken plan : Planned) (at : Moment) (row : List (Option Value)) (fault : Fault) → before s A n → IsPlanBefore s A n old → IsAloneBefore s A n → GoesOn old taken (Some at)
      → Moves before taken at after plan row (Some fault) → HasRunOn (λ s A n. after s A n × IsPlanBefore s A n plan) s A n (one_window None row (Some fault))
  ran_fault old taken plan at row fault keeps is alone goes moves =
      let here = next_taken s A n old taken at is goes in
      let moved = moves s A n keeps here.1 here.0 alone in
      let next : n ≡ n + 0 = omega arith in record {
        after = moved.after;
        agrees = moved.agrees;
        alone = subst (IsAloneBefore s moved.after) next moved.ends.0;
        shows = record { moments = λ j lt. absurd (omega (arith, lt)); there = λ j lt. absurd (omega (arith, lt)); rows = λ j lt. absurd (omega (arith, lt)) };
        ends = subst (λ k. EndsAt (λ s A n. after s A n × IsPlanBefore s A n plan) s moved.after k (Some fault)) next (moved.ends.1, moved.ends.2, moved.ends.3);
        progress = λ empty quiet. absurd cc;
      }

-- the three ends of a window of one moment
pub ran_well : (before after : Setting → Assignment → ℕ → Type 0) (old taken plan : Planned) (at : Moment) (row : List (Option Value)) (fault : Option Fault) → fault ≡ None → GoesOn old taken (Some at) → Moves before taken at after plan row fault
    → RunsOn (λ s A n. before s A n × IsPlanBefore s A n old) (λ s A n. after s A n × IsPlanBefore s A n plan) (one_window (Some at) row fault)
ran_well before after old taken plan at row fault none goes moves = λ s A n keeps alone.
    subst (λ f. HasRunOn (λ s A n. after s A n × IsPlanBefore s A n plan) s A n (one_window (Some at) row f)) (sym none)
    (ran_one before after s A n old taken plan at row keeps.0 keeps.1 alone goes (subst (Moves before taken at after plan row) none moves))

pub ran_badly : (before after : Setting → Assignment → ℕ → Type 0) (old taken plan : Planned) (at : Moment) (row : List (Option Value)) (fault : Option Fault) → is_none fault ≡ false → GoesOn old taken (Some at) → Moves before taken at after plan row fault
    → RunsOn (λ s A n. before s A n × IsPlanBefore s A n old) (λ s A n. after s A n × IsPlanBefore s A n plan) (one_window None row fault)
ran_badly before after old taken plan at row None some goes moves = absurd (true≢false some)
ran_badly before after old taken plan at row (Some fault) some goes moves = λ s A n keeps alone. ran_fault before after s A n old taken plan at row fault keeps.0 keeps.1 alone goes moves

pub ran_out : (before : Setting → Assignment → ℕ → Type 0) (old new : Planned) (row : List (Option Value)) (fault : Option Fault) → fault ≡ None → GoesOn old new None
    → RunsOn (λ s A n. before s A n × IsPlanBefore s A n old) (λ s A n. before s A n × IsPlanBefore s A n new) (one_window None row fault)
ran_out before old new row fault none goes = λ s A n keeps alone.
    subst (λ f. HasRunOn (λ s A n. before s A n × IsPlanBefore s A n new) s A n (one_window None row f)) (sym none) (ran_none before before s A n old new row keeps.0 keeps.1 alone goes)

-- a window is empty exactly where no moment is left
pub ends_well : (old taken plan : Planned) (at : Moment) (row : List (Option Value)) (fault : Option Fault) → GoesOn old taken (Some at) → EndsWhere (old.ahead ≡ []) (plan.ahead ≡ []) (one_window (Some at) row fault)
ends_well old taken plan at row fault goes = record {
  empty = λ none. absurd (some_left old taken at goes none);
  over = λ empty quiet. absurd (omega (arith, empty));
}

pub ends_badly : (old taken plan : Planned) (at : Moment) (row : List (Option Value)) (fault : Option Fault) → is_none fault ≡ false → GoesOn old taken (Some at) → EndsWhere (old.ahead ≡ []) (plan.ahead ≡ []) (one_window None row fault)
ends_badly old taken plan at row fault some goes = record {
  empty = λ none. absurd (some_left old taken at goes none);
  over = λ empty quiet. absurd (true≢false (sym (ap is_none quiet) ∙ some));
}

pub ends_out : (old new : Planned) (row : List (Option Value)) (fault : Option Fault) → fault ≡ None → GoesOn old new None → EndsWhere (old.ahead ≡ []) (new.ahead ≡ []) (one_window None row fault)
ends_out old new row fault none (left, new_is) = record {
  empty = λ over. (refl, none);
  over = λ empty quiet. ap (λ p. p.ahead) new_is ∙ left;
}
