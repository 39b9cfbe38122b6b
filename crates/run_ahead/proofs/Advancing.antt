-- A runner that ran ahead gives its rows one by one, cut at the first fault.
use Rattle.std.proofs.Common.{◌≡◌, refl, ap, ◌∙◌, sym, subst, ℕ, zero, suc, ◌+◌, ◌<◌, ◌≤◌, List, [], ◌∷◌, length, map, Option, Some, None, IsSome, slice_get, inl, inr, arith}
use Rattle.std.proofs.lemmas.Bool.{false≢true}
use Rattle.sync_values.specs.declared.value.Value.{Value}
use Rattle.rational_time.specs.declared.ratio.Ratio.{Ratio}
use Rattle.flat_model.specs.declared.clock.Moment.{Moment}
use Rattle.flat_model.specs.declared.clock.Moment.TheVariants.{Initial, At}
use Rattle.flat_model.specs.declared.fault.Fault.{Fault}
use Rattle.flat_model.specs.Moments.{moment_at}
use Rattle.flat_model.specs.Assignment.{Assignment}
use Rattle.flat_model.specs.Setting.{Setting}
use Rattle.flat_model.specs.Trace.{columns_of}
use Rattle.moment_theory.specs.Going.{AgreeBefore}
use Rattle.run_ahead.specs.declared.answer.Advance.{Advance}
use Rattle.run_ahead.specs.declared.answer.Advance.TheVariants as answer
use Rattle.run_ahead.specs.Given.{GivesFault, GoesOnFrom, AdvancesAs}
use Rattle.run_ahead.specs.Ahead.{Window, EndsAt, ShowsFrom, RunsOn, Running, Stands, place_before, at_place, moment_given, row_given, IsStanding, IsKept}
use Rattle.run_ahead.specs.Advances.{IsFilled, IsBehind, HasPassed, PassedOn, row_at, given_by, HasRow, Fills, Passes, GivesNext, IsStopped, StaysStopped, StaysEnded, AnswersAgain, ShowsRow}

pub agree_trans : (S A B : Assignment) (m n : ℕ) → m ≤ n → AgreeBefore S A m → AgreeBefore A B n → AgreeBefore S B m
agree_trans S A B m n le first then x k lt = first x k lt ∙ then x k (omega (arith, lt, le))

-- a moment of the run that has a number above 0 is an instant
later_is_instant : (instants : List Ratio) (k : ℕ) → moment_at instants (suc k) ≡ Some Initial → ⊥
later_is_instant [] zero h = absurd cc
later_is_instant [] (suc k) h = absurd cc
later_is_instant (t ∷ rest) zero h = absurd cc
later_is_instant (t ∷ rest) (suc k) h = later_is_instant rest k h

-- a window is run where nothing is left: the runner stands for the same
pub fill_stands : (before after : Setting → Assignment → ℕ → Type 0) (s : Setting) (S : Assignment) (m : ℕ) (old : Running) (new : Window) → Stands before old s S m → length old.window.moments ≤ old.given → old.window.fault ≡ None
    → RunsOn before after new → Stands after (record { window = new; given = 0 }) s S m × IsFilled s m (record { window = new; given = 0 })
fill_stands before after s S m old new stands all none runs =
    let at : stands.run ≡ m = omega (arith, stands.run_is, all, stands.within) in
    let ends : EndsAt before s stands.ahead stands.run None = subst (EndsAt before s stands.ahead stands.run) none stands.ends in
    let ran = runs s stands.ahead stands.run ends stands.alone in (
      record {
        some = stands.some;
        ahead = ran.after;
        agrees = agree_trans S stands.ahead ran.after m stands.run (omega (arith, at)) stands.agrees ran.agrees;
        run = stands.run + length new.moments;
        run_is = omega (arith, at);
        within = omega arith;
        alone = ran.alone;
        shows = subst (λ k. ShowsFrom s ran.after k 0 new) at ran.shows;
        ends = ran.ends;
      },
      λ empty quiet. let past : length s.instants < stands.run = ran.progress (sym empty) quiet in omega (arith, at, past),
    )

-- what is kept where nothing is left to give
pub kept_there : (keeps : Setting → Assignment → ℕ → Type 0) (runner : Running) → IsStanding keeps runner → runner.window.fault ≡ None → IsKept keeps
kept_there keeps runner (s, S, m, stands) none = (s, stands.ahead, stands.run, subst (EndsAt keeps s stands.ahead stands.run) none stands.ends, stands.alone)

-- and it stands so afterwards
pub still_standing : (before after : Setting → Assignment → ℕ → Type 0) (old new : Running) → Fills before after old new → IsStanding before old → IsStanding after new
still_standing before after old new fills (s, S, m, stands) = (s, S, m, (fills s S m stands).0)

pub passed_standing : (before after : Setting → Assignment → ℕ → Type 0) (old new : Running) → IsStanding before old → ((s : Setting) (S : Assignment) (m : ℕ) → Stands before old s S m → (T : Assignment) × (k : ℕ) × Stands after new s T k) → IsStanding after new
passed_standing before after old new (s, S, m, stands) goes = let (T, k, there) = goes s S m stands in (s, T, k, there)

module _ (keeps : Setting → Assignment → ℕ → Type 0) (s : Setting) where
  -- one more of its moments is given: it stands for what it ran ahead, one moment later
  pub given_stands : (S : Assignment) (m : ℕ) (runner : Running) (stands : Stands keeps runner s S m) → runner.given < length runner.window.moments
      → Stands keeps (record { window = runner.window; given = runner.given + 1 }) s stands.ahead (m + 1)
  given_stands S m runner stands lt = record {
    some = stands.some;
    ahead = stands.ahead;
    agrees = λ x k less. refl;
    run = stands.run;
    run_is = omega (arith, stands.run_is);
    within = omega (arith, lt);
    alone = stands.alone;
    shows = record {
      moments = λ j less. subst (λ k. slice_get runner.window.moments k ≡ moment_at s.instants (m + 1 + j)) (place j)
          (subst (λ n. slice_get runner.window.moments (runner.given + suc j) ≡ moment_at s.instants n) (number j) (stands.shows.moments (suc j) (omega (arith, less))));
      there = λ j less. subst (λ n. (moment : Moment) × (moment_at s.instants n ≡ Some moment)) (number j) (stands.shows.there (suc j) (omega (arith, less)));
      rows = λ j less. subst (λ k. slice_get runner.window.rows k ≡ Some (map (λ x. stands.ahead x (m + 1 + j)) (columns_of s.model.names))) (place j)
          (subst (λ n. slice_get runner.window.rows (runner.given + suc j) ≡ Some (map (λ x. stands.ahead x n) (columns_of s.model.names))) (number j) (stands.shows.rows (suc j) (omega (arith, less))));
    };
    ends = stands.ends;
  }
    where
      place : (j : ℕ) → runner.given + suc j ≡ runner.given + 1 + j
      place j = omega arith

      number : (j : ℕ) → m + suc j ≡ m + 1 + j
      number j = omega arith

  -- the next of its moments is that of the run
  pub next_moment : (S : Assignment) (m : ℕ) (runner : Running) → Stands keeps runner s S m → runner.given < length runner.window.moments → (moment : Moment) → slice_get runner.window.moments runner.given ≡ Some moment
      → moment_at s.instants m ≡ Some moment
  next_moment S m runner stands lt moment is =
      subst (λ n. moment_at s.instants n ≡ Some moment) (let e : m + 0 ≡ m = omega arith in e)
      (sym (stands.shows.moments 0 (omega (arith, lt))) ∙ ap (slice_get runner.window.moments) (let e : runner.given + 0 ≡ runner.given = omega arith in e) ∙ is)

  -- Initial is passed over
  pub pass_initial : (S : Assignment) (m : ℕ) (runner : Running) → Stands keeps runner s S m → runner.given < length runner.window.moments → slice_get runner.window.moments runner.given ≡ Some Initial
      → PassedOn keeps s S m (record { window = runner.window; given = runner.given + 1 })
  pass_initial S m runner stands lt is = record {
    after = stands.ahead;
    m = m + 1;
    behind = record { agrees = stands.agrees; step = inr (at_first m (next_moment S m runner stands lt Initial is), ap (λ k. k + 1) (at_first m (next_moment S m runner stands lt Initial is))) };
    stands = given_stands S m runner stands lt;
    passed = λ e. absurd (omega (arith, e));
  }
    where
      at_first : (n : ℕ) → moment_at s.instants n ≡ Some Initial → n ≡ 0
      at_first zero h = refl
      at_first (suc k) h = absurd (later_is_instant s.instants k h)

  -- where the next one is an instant, or none is left, nothing is passed over
  pass_none : (S : Assignment) (m : ℕ) (runner : Running) → Stands keeps runner s S m → HasPassed m runner → PassedOn keeps s S m runner
  pass_none S m runner stands passed = record { after = S; m = m; behind = record { agrees = λ x k lt. refl; step = inl refl }; stands = stands; passed = passed }

  pub pass_instant : (S : Assignment) (m : ℕ) (runner : Running) → Stands keeps runner s S m → runner.given < length runner.window.moments → (t : Ratio) → slice_get runner.window.moments runner.given ≡ Some (At t)
      → PassedOn keeps s S m runner
  pass_instant S m runner stands lt t is =
      pass_none S m runner stands (λ first. absurd (none-first (subst (λ n. moment_at s.instants n ≡ Some (At t)) first (next_moment S m runner stands lt (At t) is))))
    where
      none-first : Some Initial ≡ Some (At t) → ⊥
      none-first e = absurd cc

  pub pass_past : (S : Assignment) (m : ℕ) (runner : Running) → Stands keeps runner s S m → IsFilled s m runner → length runner.window.moments ≤ runner.given → PassedOn keeps s S m runner
  pass_past S m runner stands filled all = pass_none S m runner stands (λ first. (all, by_fault first runner.window.fault refl))
    where
      by_fault : m ≡ 0 → (o : Option Fault) → runner.window.fault ≡ o → IsSome o
      by_fault first None e = absurd (let past : length s.instants < m = filled (omega (arith, all, stands.within)) e in omega (arith, past, first))
      by_fault first (Some fault) e = refl

  module _ (before : Assignment) (m₀ : ℕ) (S : Assignment) (m : ℕ) (behind : IsBehind before m₀ S m) (runner : Running) (stands : Stands keeps runner s S m) where
    bounds : (m₀ ≤ m) × (m ≤ m₀ + 1)
    bounds = elim behind.step [
      | inl e ↦ (omega (arith, e), omega (arith, e))
      | inr e ↦ (omega (arith, e.0, e.1), omega (arith, e.0, e.1))
    ]

    agrees : AgreeBefore before stands.ahead m₀
    agrees = agree_trans before S stands.ahead m₀ m bounds.0 behind.agrees stands.agrees

    -- the row of the next instant
    pub row_gives : runner.given < length runner.window.moments → HasPassed m runner
        → GoesOnFrom (Stands keeps (record { window = runner.window; given = runner.given + 1 })) s before m₀ (given_by answer.Row (record { window = runner.window; given = runner.given + 1 }))
    row_gives lt passed =
        let there = stands.shows.there 0 (omega (arith, lt)) in
        let place : runner.given + 0 ≡ runner.given = omega arith in
        let next : place_before (runner.given + 1) ≡ Some runner.given = ap place_before (let e : runner.given + 1 ≡ suc runner.given = omega arith in e) in
        let number : m + 0 ≡ m = omega arith in
        let rows = subst (λ n. slice_get runner.window.rows runner.given ≡ Some (map (λ x. stands.ahead x n) (columns_of s.model.names))) number (subst (λ k. slice_get runner.window.rows k ≡ Some (map (λ x. stands.ahead x (m + 0)) (columns_of s.model.names))) place (stands.shows.rows 0 (omega (arith, lt)))) in
        let found = subst (λ n. moment_at s.instants n ≡ Some there.0) number there.1 in
        let moments = subst (λ k. slice_get runner.window.moments k ≡ Some there.0) place (stands.shows.moments 0 (omega (arith, lt)) ∙ there.1) in
        subst (λ p. GoesOnFrom (Stands keeps (record { window = runner.window; given = runner.given + 1 })) s before m₀ (row_at (at_place runner.window.moments p) (at_place runner.window.rows p))) (sym next)
        (rw (moments, rows) (by_moment there.0 found))
      where
        later : 0 < m
        later = by_m m refl
          where
            by_m : (n : ℕ) → m ≡ n → 0 < n
            by_m zero e = let h : length runner.window.moments ≤ runner.given = (passed e).0 in absurd (omega (arith, h, lt))
            by_m (suc k) e = omega arith

        no_initial : (n : ℕ) → 0 < n → moment_at s.instants n ≡ Some Initial → ⊥
        no_initial zero pos h = absurd (omega (arith, pos))
        no_initial (suc k) pos h = later_is_instant s.instants k h

        by_moment : (moment : Moment) → moment_at s.instants m ≡ Some moment
            → GoesOnFrom (Stands keeps (record { window = runner.window; given = runner.given + 1 })) s before m₀ (row_at (Some moment) (Some (map (λ x. stands.ahead x m) (columns_of s.model.names))))
        by_moment Initial is = absurd (no_initial m later is)
        by_moment (At t) is = record {
          moment = m;
          next = behind.step;
          later = later;
          found = is;
          after = stands.ahead;
          agrees = agrees;
          meets = λ k le. stands.alone.meets k (omega (arith, le, lt, stands.run_is));
          values_are = refl;
          stands_for = given_stands S m runner stands lt;
          only = λ T meets. stands.alone.only (m + 1) (omega (arith, lt, stands.run_is)) T (λ k less. meets k (omega (arith, less)));
        }

    -- the fault behind the rows
    pub fault_gives : length runner.window.moments ≤ runner.given → (fault : Fault) → runner.window.fault ≡ Some fault → GivesFault s before m₀ fault
    fault_gives all fault is =
        let at : stands.run ≡ m = omega (arith, stands.run_is, all, stands.within) in
        let ends : EndsAt keeps s stands.ahead m (Some fault) = subst (λ n. EndsAt keeps s stands.ahead n (Some fault)) at (subst (EndsAt keeps s stands.ahead stands.run) is stands.ends) in record {
          moment = m;
          next = behind.step;
          found = ends.0;
          after = stands.ahead;
          agrees = agrees;
          first = ends.1;
          met_by_none = ends.2;
        }

    -- and the end
    pub end_gives : length runner.window.moments ≤ runner.given → IsFilled s m runner → runner.window.fault ≡ None → length s.instants < m₀
    end_gives all filled none =
        let past : length s.instants < m = filled (omega (arith, all, stands.within)) none in
        elim behind.step [
          | inl e ↦ omega (arith, past, e)
          | inr e ↦ absurd (let some = stands.some in omega (arith, past, e.1, some))
        ]

-- a stopped runner stays so, and what has passed Initial has
still_passed : (m : ℕ) (old new : Running) → StaysStopped old new → HasPassed m old → HasPassed m new
still_passed m old new still passed first = by_fault old.window.fault refl
  where
    by_fault : (o : Option Fault) → old.window.fault ≡ o → (length new.window.moments ≤ new.given) × IsSome new.window.fault
    by_fault None e = absurd (false≢true (subst IsSome e (passed first).1))
    by_fault (Some fault) e = subst (λ r. (length r.window.moments ≤ r.given) × IsSome r.window.fault) (sym (still fault ((passed first).0, e))) (passed first)

-- filled, passed, filled and given
pub advances : (before filling passing between after : Setting → Assignment → ℕ → Type 0) (old filled passed again new : Running) (result : Advance) → Fills before filling old filled → Passes filling passing filled passed
    → Fills passing between passed again → StaysStopped passed again → GivesNext between after again new result → AdvancesAs (Stands before old) (Stands after new) (given_by result new)
advances before filling passing between after old filled passed again new result fills passes refills still gives = λ s S m stands.
    let one = fills s S m stands in
    let two = passes s S m one.0 one.1 in
    let three = refills s two.after two.m two.stands in
    gives s two.after two.m three.0 three.1 (still_passed two.m passed again still two.passed) S m two.behind

-- and the same is answered again
pub advances_again : (first second third fourth fifth : Type 0) (old filled passed again new : Running) (result : Advance) → StaysStopped old filled → StaysStopped filled passed → StaysStopped passed again
    → StaysEnded first second old filled → StaysEnded second third filled passed → StaysEnded third fourth passed again → AnswersAgain fourth fifth again new result → AnswersAgain first fifth old new result
advances_again first second third fourth fifth old filled passed again new result still pass refill ended goes over answers = record {
  leaves = answers.leaves;
  fault = λ fault is.
      let one : filled ≡ old = still fault is in
      let is_one : IsStopped filled fault = subst (λ r. IsStopped r fault) (sym one) is in
      let two : passed ≡ filled = pass fault is_one in
      let is_two : IsStopped passed fault = subst (λ r. IsStopped r fault) (sym two) is_one in
      let three : again ≡ passed = refill fault is_two in
      let is_three : IsStopped again fault = subst (λ r. IsStopped r fault) (sym three) is_two in
      let four = answers.fault fault is_three in (four.0 ∙ three ∙ two ∙ one, four.1);
  end = λ is. answers.end (over (goes (ended is)));
}

-- a row that was given is there
row_there : (stands : Setting → Assignment → ℕ → Type 0) (s : Setting) (S : Assignment) (m : ℕ) (runner : Running) (moment : Option Moment) (row : Option (List (Option Value))) → moment_given runner ≡ moment → row_given runner ≡ row
    → GoesOnFrom stands s S m (row_at moment row) → HasRow runner
row_there stands s S m runner None row e f h = absurd h
row_there stands s S m runner (Some Initial) row e f h = absurd h
row_there stands s S m runner (Some (At t)) None e f h = absurd h
row_there stands s S m runner (Some (At t)) (Some values) e f h = record { at = t; values = values; moment_is = e; row_is = f }

pub shows_row : (before after : Setting → Assignment → ℕ → Type 0) (old new : Running) (result : Advance) → AdvancesAs (Stands before old) after (given_by result new) → ShowsRow before old new result
shows_row before after old new result advanced is s S m stands =
    row_there after s S m new (moment_given new) (row_given new) refl refl (subst (λ r. GoesOnFrom after s S m (given_by r new)) is (advanced s S m stands))
