-- The turns of planning a window, and how it ends.
use Rattle.std.proofs.Common.{◌≡◌, ◌≢◌, ap, ◌∙◌, sym, subst, ℕ, suc, ◌+◌, ◌<◌, true, false, [], length, length-set, get_or, Some, slice_get, slice_set, inl, inr, arith}
use Rattle.std.proofs.lemmas.Bool.{cases_eq}
use Rattle.std.proofs.lemmas.List.{set-get_or}
use Rattle.std.proofs.lemmas.Option.{same_Some, slice_get-get_or}
use Rattle.partition_step.proofs.Lists.{set_same, set_other}
use Rattle.moment_body.specs.declared.model.ClockedModel.{ClockedModel}
use Rattle.window_plan.specs.declared.moment.PlannedMoment.{PlannedMoment}
use Rattle.window_plan.specs.Drafts.{Draft, PlansOne, CanPlanOne}
use Rattle.window_plan.specs.Moments.{IsQuiet}
use Rattle.window_plan.specs.Windows.{Course, Plans, EndsSo, CanPlan}
use Rattle.window_plan.proofs.Coursing.{course_first, course_more, draft_of, may_plan_one}

pub plans_first : (model : ClockedModel) (old : Course) → Plans model old old 0
plans_first model old s uses stages A n of = course_first s uses stages A n model old of

module _ (model : ClockedModel) (old course : Course) (count : ℕ) (plans : Plans model old course count) (within : count < length course.moments) (default : PlannedMoment) where
  abbrev was : PlannedMoment
  was = get_or course.moments count default

  found : slice_get course.moments count ≡ Some was
  found = slice_get-get_or course.moments count default within

  abbrev draft : Draft
  draft = record { plan = course.plan; pure = course.pure; low = course.low; moment = was }

  pub may_turn : CanPlan model old → CanPlanOne model draft
  may_turn can = may_plan_one model old course count was found can plans

  abbrev behind : Draft → Course
  behind new = record { plan = new.plan; pure = new.pure; low = new.low; moments = slice_set course.moments count new.moment }

  module _ (new : Draft) where
    own : slice_get (slice_set course.moments count new.moment) count ≡ Some new.moment
    own = set_same course.moments count new.moment within

    others : (j : ℕ) → j ≢ count → slice_get (slice_set course.moments count new.moment) j ≡ slice_get course.moments j
    others j other = set_other course.moments count j new.moment other

    size : length (slice_set course.moments count new.moment) ≡ length course.moments
    size = length-set course.moments count new.moment

    -- one moment more
    pub plans_more : PlansOne model draft new true → Plans model old (behind new) (count + 1)
    plans_more one s uses stages A n of =
        let has = plans s uses stages A n of in
        course_more s uses stages A n model old of course count has was found new
        (one.1 s uses stages (n + count) (draft_of s uses stages A n model old of course count has was found) has.ready) (slice_set course.moments count new.moment) own others

    -- none is left
    pub plans_still : PlansOne model draft new false → Plans model old (behind new) count
    plans_still one = subst (λ d. Plans model old (behind d) count) (sym one.1)
        (subst (λ ms. Plans model old (record { plan = course.plan; pure = course.pure; low = course.low; moments = ms }) count) (sym (set-get_or course.moments count default)) plans)

    module _ (long : length course.moments ≡ length old.moments) (quiet : (j : ℕ) (moment : PlannedMoment) → j < count → slice_get course.moments j ≡ Some moment → IsQuiet moment)
        (none : old.plan.ahead ≡ [] → (count ≡ 0) × (course.plan ≡ old.plan)) where
      quiet_before : (j : ℕ) (moment : PlannedMoment) → j < count → slice_get (slice_set course.moments count new.moment) j ≡ Some moment → IsQuiet moment
      quiet_before j moment lt at = quiet j moment lt (sym (others j (λ e. omega (arith, lt, e))) ∙ at)

      pub ends_still : PlansOne model draft new false → EndsSo old (behind new) count
      ends_still one = record {
        long = size ∙ long;
        within = let same = size in omega (arith, within, same);
        quiet = λ j moment lt. quiet_before j moment (omega (arith, lt));
        early = λ lt. inl (ap (λ d. d.plan.ahead) one.1 ∙ one.0);
        none = λ over. ((none over).0, ap (λ d. d.plan) one.1 ∙ (none over).1);
      }

      some_left : PlansOne model draft new true → old.plan.ahead ≡ [] → ⊥
      some_left one over = one.0 (ap (λ p. p.ahead) (none over).1 ∙ over)

      shown : (other : PlannedMoment) → slice_get (slice_set course.moments count new.moment) count ≡ Some (get_or (slice_set course.moments count new.moment) count other)
      shown other = slice_get-get_or (slice_set course.moments count new.moment) count other (let same = size in omega (arith, within, same))

      pub ends_failing : PlansOne model draft new true → (other : PlannedMoment) → (IsQuiet (get_or (slice_set course.moments count new.moment) count other) → ⊥) → EndsSo old (behind new) (count + 1)
      ends_failing one other fails = record {
        long = size ∙ long;
        within = let same = size in omega (arith, within, same);
        quiet = λ j moment lt. quiet_before j moment (omega (arith, lt));
        early = λ lt. inr (record { place = count; moment = get_or (slice_set course.moments count new.moment) count other; is = (let e : suc count ≡ count + 1 = omega arith in e); found = shown other; fails = fails });
        none = λ over. absurd (some_left one over);
      }

      pub quiet_more : (other : PlannedMoment) → IsQuiet (get_or (slice_set course.moments count new.moment) count other)
          → (j : ℕ) (moment : PlannedMoment) → j < count + 1 → slice_get (slice_set course.moments count new.moment) j ≡ Some moment → IsQuiet moment
      quiet_more other fine j moment lt at = elim (cases_eq j count) [
        | inl e ↦ subst IsQuiet (same_Some (get_or (slice_set course.moments count new.moment) count other) moment (sym (shown other) ∙ ap (slice_get (slice_set course.moments count new.moment)) (sym e) ∙ at)) fine
        | inr away ↦ quiet_before j moment (omega (arith, lt, away)) at
      ]

      pub none_more : PlansOne model draft new true → old.plan.ahead ≡ [] → (count + 1 ≡ 0) × (new.plan ≡ old.plan)
      none_more one over = absurd (some_left one over)

      pub long_more : length (slice_set course.moments count new.moment) ≡ length old.moments
      long_more = size ∙ long

-- the room is full
pub ends_full : (old course : Course) → length course.moments ≡ length old.moments → ((j : ℕ) (moment : PlannedMoment) → j < length course.moments → slice_get course.moments j ≡ Some moment → IsQuiet moment)
    → (old.plan.ahead ≡ [] → (length course.moments ≡ 0) × (course.plan ≡ old.plan)) → EndsSo old course (length course.moments)
ends_full old course long quiet none = record {
  long = long;
  within = omega arith;
  quiet = λ j moment lt. quiet j moment (omega (arith, lt));
  early = λ lt. absurd (omega (arith, lt));
  none = none;
}

-- what holds of courses holds of what they are
pub moved : (P : Course → Course → Type 0) (old other new later : Course) → old ≡ other → new ≡ later → P old new → P other later
moved P old other new later same alike h = subst (λ course. P course later) same (subst (P old) alike h)
