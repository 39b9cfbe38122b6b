-- A window, moment by moment.
use Rattle.std.proofs.Common.{◌≡◌, ◌≢◌, ap, ◌∙◌, sym, subst, ℕ, suc, ◌+◌, ◌<◌, ◌≤◌, Bool, List, Some, slice_get, inl, inr, arith}
use Rattle.std.proofs.lemmas.Bool.{cases_eq}
use Rattle.std.proofs.lemmas.Option.{same_Some}
use Rattle.flat_model.specs.Assignment.{Assignment}
use Rattle.flat_model.specs.Moments.{moment_at}
use Rattle.flat_model.specs.Setting.{Setting, is_false}
use Rattle.flat_model.specs.Uses.{Use}
use Rattle.flat_model.proofs.Agreement.{site_same}
use Rattle.tick_plan.specs.Plans.{Planned}
use Rattle.moment_theory.specs.Going.{AgreeBefore}
use Rattle.moment_body.specs.declared.model.ClockedModel.{ClockedModel}
use Rattle.moment_body.specs.Stages.{Stages}
use Rattle.moment_moves.proofs.Ending.{risings_same}
use Rattle.run_moments.specs.Moving.{IsPlanBefore}
use Rattle.window_plan.specs.declared.moment.PlannedMoment.{PlannedMoment}
use Rattle.window_plan.specs.Drafts.{Draft, IsPlanReady, WereLow, IsKnownBefore, IsDraftOf, HasPlanned, CanPlanOne}
use Rattle.window_plan.specs.Moments.{HasRoom, IsPlannedAt, GoesBy}
use Rattle.window_plan.specs.Windows.{Course, HaveRoom, IsCourseOf, CanPlan, HasCourse}

-- a plan stands for what it is ready for and what it knows
stands : (s : Setting) (S : Assignment) (m : ℕ) (plan : Planned) (low : List Bool) → IsPlanReady s m plan low → IsKnownBefore s S m plan low → IsPlanBefore s S m plan × WereLow s S m low
stands s S m plan low ready known = (record { clocks = ready.clocks; ahead = ready.ahead; sites = ready.sites; own = ready.own; risings = known.risings }, known.were_low)

known_of : (s : Setting) (S : Assignment) (m : ℕ) (plan : Planned) (low : List Bool) → IsPlanBefore s S m plan × WereLow s S m low → IsKnownBefore s S m plan low
known_of s S m plan low (plan_is, were_low) = record { risings = plan_is.risings; were_low = were_low }

module _ (s : Setting) (uses : List Use) (stages : Stages) (A : Assignment) (n : ℕ) (model : ClockedModel) where
  -- before the first moment
  pub course_first : (course : Course) → IsCourseOf s uses stages A n model course → HasCourse s uses stages A n course 0
  course_first course of = record {
    pure = of.pure;
    room = of.room;
    here = λ j moment lt. absurd (omega (arith, lt));
    planned = λ S agree j moment lt. absurd (omega (arith, lt));
    ready = subst (λ m. IsPlanReady s m course.plan course.low) at_first (record { clocks = of.plan_is.clocks; ahead = of.plan_is.ahead; sites = of.plan_is.sites; own = of.plan_is.own; lows = of.lows });
    behind = λ S agree goes. subst (λ m. IsPlanBefore s S m course.plan × WereLow s S m course.low) at_first (
      record {
        clocks = of.plan_is.clocks;
        ahead = of.plan_is.ahead;
        sites = of.plan_is.sites;
        own = of.plan_is.own;
        risings = λ site. of.plan_is.risings site ∙ risings_same s A S n n agree (omega arith) site;
      },
      λ site k e. of.were_low site k e ∙ ap is_false (site_same s A S site k k (λ x j le. agree x j (omega (arith, le, e))) (omega arith)),
    );
  }
    where
      at_first : n ≡ n + 0
      at_first = omega arith

  -- one moment more
  module _ (old : Course) (of : IsCourseOf s uses stages A n model old) (course : Course) (count : ℕ) (has : HasCourse s uses stages A n course count) where
    abbrev draft : PlannedMoment → Draft
    draft moment = record { plan = course.plan; pure = course.pure; low = course.low; moment = moment }

    pub draft_of : (moment : PlannedMoment) → slice_get course.moments count ≡ Some moment → IsDraftOf s uses stages model (draft moment)
    draft_of moment found = record { staged = of.staged; model_is = of.model_is; pure = has.pure; few = of.few; few_classes = of.few_classes; room = has.room count moment found }

    module _ (was : PlannedMoment) (found : slice_get course.moments count ≡ Some was) (new : Draft)
        (one : HasPlanned s uses stages (λ S. IsKnownBefore s S (n + count) course.plan course.low) (n + count) new)
        (moments : List PlannedMoment) (own : slice_get moments count ≡ Some new.moment) (others : (j : ℕ) → j ≢ count → slice_get moments j ≡ slice_get course.moments j) where
      next : suc (n + count) ≡ n + (count + 1)
      next = omega arith

      earlier_by : (S : Assignment) (j : ℕ) → j ≤ count → GoesBy s S n moments j → GoesBy s S n course.moments j
      earlier_by S j le goes = record { valued = goes.valued; alike = λ i moment lt at. goes.alike i moment lt (others i (λ e. omega (arith, lt, le, e)) ∙ at) }

      known_here : (S : Assignment) → AgreeBefore A S n → GoesBy s S n moments count → IsKnownBefore s S (n + count) course.plan course.low
      known_here S agree goes = known_of s S (n + count) course.plan course.low (has.behind S agree (earlier_by S count (omega arith) goes))

      is_new : (moment : PlannedMoment) (j : ℕ) → j ≡ count → slice_get moments j ≡ Some moment → new.moment ≡ moment
      is_new moment j e at = same_Some new.moment moment (sym own ∙ ap (slice_get moments) (sym e) ∙ at)

      room : HaveRoom s moments
      room j moment at = elim (cases_eq j count) [
        | inl e ↦ subst (HasRoom s) (is_new moment j e at) one.room
        | inr other ↦ has.room j moment (sym (others j other) ∙ at)
      ]

      here : (j : ℕ) (moment : PlannedMoment) → j < count + 1 → slice_get moments j ≡ Some moment → moment_at s.instants (n + j) ≡ Some moment.at
      here j moment lt at = elim (cases_eq j count) [
        | inl e ↦ ap (λ k. moment_at s.instants (n + k)) e ∙ one.here ∙ ap (λ m. Some m.at) (is_new moment j e at)
        | inr other ↦ has.here j moment (omega (arith, lt, other)) (sym (others j other) ∙ at)
      ]

      planned : (S : Assignment) → AgreeBefore A S n → (j : ℕ) (moment : PlannedMoment) → j < count + 1 → slice_get moments j ≡ Some moment → GoesBy s S n moments j → IsPlannedAt s uses stages S (n + j) moment
      planned S agree j moment lt at goes = elim (cases_eq j count) [
        | inl e ↦
            let goes_here = subst (GoesBy s S n moments) e goes in
            subst (λ k. IsPlannedAt s uses stages S (n + k) moment) (sym e)
            (subst (IsPlannedAt s uses stages S (n + count)) (is_new moment j e at) (one.planned S goes_here.valued (known_here S agree goes_here)))
        | inr other ↦ has.planned S agree j moment (omega (arith, lt, other)) (sym (others j other) ∙ at) (earlier_by S j (omega (arith, lt)) goes)
      ]

      behind : (S : Assignment) → AgreeBefore A S n → GoesBy s S n moments (count + 1) → IsPlanBefore s S (n + (count + 1)) new.plan × WereLow s S (n + (count + 1)) new.low
      behind S agree goes =
          let before : GoesBy s S n moments count = record { valued = λ k lt. goes.valued k (omega (arith, lt)); alike = λ j moment lt. goes.alike j moment (omega (arith, lt)) } in
          let knows = one.knows S before.valued (known_here S agree before) (goes.alike count new.moment (omega arith) own) in
          subst (λ m. IsPlanBefore s S m new.plan × WereLow s S m new.low) next (stands s S (suc (n + count)) new.plan new.low one.ready knows)

      pub course_more : HasCourse s uses stages A n (record { plan = new.plan; pure = new.pure; low = new.low; moments = moments }) (count + 1)
      course_more = record {
        pure = one.pure;
        room = room;
        here = here;
        planned = planned;
        ready = subst (λ m. IsPlanReady s m new.plan new.low) next one.ready;
        behind = behind;
      }

-- the next moment may be planned
pub may_plan_one : (model : ClockedModel) (old course : Course) (count : ℕ) (moment : PlannedMoment) → slice_get course.moments count ≡ Some moment
    → CanPlan model old → ((s : Setting) (uses : List Use) (stages : Stages) (A : Assignment) (n : ℕ) → IsCourseOf s uses stages A n model old → HasCourse s uses stages A n course count)
    → CanPlanOne model (record { plan = course.plan; pure = course.pure; low = course.low; moment = moment })
may_plan_one model old course count moment found (s, uses, stages, A, n, of) all =
    let has = all s uses stages A n of in (s, uses, stages, n + count, draft_of s uses stages A n model old of course count has moment found, has.ready)
