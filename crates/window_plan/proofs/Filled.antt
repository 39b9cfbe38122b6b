-- A moment that is filled is planned.
use Rattle.std.proofs.Common.{◌≡◌, refl, ap, ◌∙◌, sym, subst, ℕ, zero, suc, ◌<◌, ◌≤◌, ◌^◌, Bool, true, false, List, [], ◌∷◌, length, map, Option, Some, None, slice_get, unwrap_or, inl, inr, arith}
use Rattle.std.specs.Prelude.{option_map}
use Rattle.std.proofs.lemmas.Bool.{cases_lt, true≢false}
use Rattle.std.proofs.lemmas.List.{length-map}
use Rattle.std.proofs.lemmas.Option.{slice_get_past}
use Rattle.rational_time.specs.declared.ratio.Ratio.{Ratio}
use Rattle.flat_model.specs.declared.clock.Moment.{Moment}
use Rattle.flat_model.specs.declared.clock.Moment.TheVariants.{Initial, At}
use Rattle.flat_model.specs.Values.{value_in, truth_in, views_of}
use Rattle.flat_model.specs.Assignment.{Assignment}
use Rattle.flat_model.specs.Given.{with_row}
use Rattle.flat_model.specs.Meaning.{value_of}
use Rattle.flat_model.specs.Moments.{moment_at}
use Rattle.flat_model.specs.Runnable.{IsRunnable}
use Rattle.flat_model.specs.Setting.{Setting, answer_in, site_answer, is_false, unclocked_views, class_ticks}
use Rattle.flat_model.specs.Tables.{IsTableOf}
use Rattle.flat_model.specs.Uses.{Use}
use Rattle.flat_model.proofs.Agreement.{SameBefore, site_same}
use Rattle.side_theory.specs.Typed.{AreValuedBefore}
use Rattle.tick_plan.specs.Plans.{Planned, clock_ticks_in, ticks_in_plan}
use Rattle.moment_theory.proofs.Rows.{row_before}
use Rattle.moment_inputs.specs.Filling.{IsTableOfNames, HoldInputs}
use Rattle.moment_moves.specs.Moments.{IsFirstSite}
use Rattle.moment_moves.proofs.Ending.{risings_same}
use Rattle.moment_moves.proofs.Ticking.{ticks_told}
use Rattle.run_moments.specs.Moving.{IsPlanTaken, IsPlanAt}
use Rattle.run_moments.proofs.OnPlan.{plan_after}
use Rattle.site_risings.specs.declared.answers.SiteFailing.{SiteFailing}
use Rattle.site_risings.specs.SiteFailures.{TellsFirst}
use Rattle.site_risings.specs.Laws.{AreAnswers}
use Rattle.site_risings.specs.Risings.{is_high, is_low, answer_of, was_low, CanNote, NotedTo}
use Rattle.site_risings.proofs.Answering.{answers_are, fails_as, fails_over}
use Rattle.site_risings.proofs.RisingLaw.{noted_at_moment, lows_kept}
use Rattle.partition_step.specs.Writing.{IsWritten}
use Rattle.moment_body.specs.declared.model.ClockedModel.{ClockedModel}
use Rattle.moment_body.specs.Stages.{Stages}
use Rattle.moment_steps.specs.Settled.{AlwaysTicks}
use Rattle.moment_steps.specs.Ticked.{row_ticks}
use Rattle.tree_step.specs.Starts.{use_of, IsAmong}
use Rattle.window_plan.specs.declared.taking.PureUses.{PureUses}
use Rattle.window_plan.specs.Drafts.{Draft, IsPlanReady, IsPlanGiven, IsKnownBefore, IsKnownAt, IsDraftOf, CanFill, HasPlanned, Fills}
use Rattle.window_plan.specs.Moments.{base_of, HasRoom, IsPlannedAt, AnswersAs}
use Rattle.window_plan.proofs.Noted.{high_in, low_in, fresh_at, later_instant, moved_plan}
use Rattle.window_plan.specs.Pure.{Values, ArePure, IsSameUses, IsBefore, CanTake, Takes}

none_past : (xs : List Bool) (i : ℕ) → slice_get xs i ≡ None → length xs ≤ i
none_past [] i is = omega arith
none_past (x ∷ xs) zero is = absurd cc
none_past (x ∷ xs) (suc i) is = let le = none_past xs i is in omega (arith, le)

pure_still : (s : Setting) (pure : List Use) (old new : PureUses) → ArePure s pure old → IsSameUses old new → ArePure s pure new
pure_still s pure old new are same = record {
  uses_are = ap (λ es. map use_of es) same.entries ∙ are.uses_are;
  plain = λ entry among. are.plain entry (subst (IsAmong entry) same.entries among);
  always = subst AlwaysTicks (sym same.always) are.always;
  long = ap length same.numbers ∙ are.long;
  numbered = λ x lt. ap (λ ns. slice_get ns x) same.numbers ∙ are.numbered x lt;
  room = same.room ∙ are.room;
}

-- the table of a setting has the names of its model
pub may_fill : (model : ClockedModel) (at : Moment) (draft : Draft) → CanFill model at draft → (now : Values) → now ≡ draft.moment.base.items → IsTableOfNames (length now) model.table
may_fill model at draft (s, uses, stages, n, of, given) now is =
    (s.model, subst (IsTableOf s.model) (sym of.model_is.table) of.staged.are.ordered.runs.table, sym (ap length is ∙ of.room.base))

-- what the calls of a moment found
pub record Found (model : ClockedModel) (at : Moment) (old new : Draft) : Type 0 where
  pub inputs : Values
  pub inputs_long : length inputs ≡ length old.moment.base.items
  pub holds : HoldInputs model.table at inputs
  pub same : IsSameUses old.pure new.pure
  pub base_long : length new.moment.base.items ≡ length inputs
  pub takes : Takes old.pure model.flat inputs new.moment.base.items new.moment.told
  pub answered : new.moment.answers.items ≡ map (λ condition. truth_in (value_of condition (views_of new.moment.base.items))) model.clocking.sites
  pub tells : TellsFirst new.moment.base.items model.clocking.sites new.moment.site
  pub noted : NotedTo new.moment.answers.items old.low old.plan (length new.moment.answers.items) new.plan new.low
  pub ticks : ℕ → Bool
  pub ticks_told : IsWritten (λ class was. ticks class) old.moment.ticks.items new.moment.ticks.items
  pub ticks_are : (class : ℕ) → ticks class ≡ ticks_in_plan new.plan class
  pub at_is : new.moment.at ≡ at

before_at : (s : Setting) (uses : List Use) (stages : Stages) (n : ℕ) (model : ClockedModel) (at : Moment) (draft : Draft) → IsDraftOf s uses stages model draft → IsPlanGiven s n at draft.plan draft.low
    → (inputs : Values) → length inputs ≡ length draft.moment.base.items → HoldInputs model.table at inputs → IsBefore s uses stages n draft.pure model.flat inputs
before_at s uses stages n model at draft of given inputs long holds = record {
  staged = of.staged;
  pure = of.pure;
  model = of.model_is.flat;
  at = at;
  here = given.here;
  wide = long ∙ of.room.base;
  are = holds s n (sym of.model_is.table) (subst (IsTableOf s.model) (sym of.model_is.table) of.staged.are.ordered.runs.table) given.here;
}

-- over the inputs the pure uses may be taken
pub may_take : (model : ClockedModel) (at : Moment) (draft : Draft) → CanFill model at draft → (inputs : Values) → length inputs ≡ length draft.moment.base.items → HoldInputs model.table at inputs → CanTake draft.pure model.flat inputs
may_take model at draft (s, uses, stages, n, of, given) inputs long holds = (s, uses, stages, n, before_at s uses stages n model at draft of given inputs long holds)

-- and sites may be noted
module _ (s : Setting) (uses : List Use) (stages : Stages) (n : ℕ) (model : ClockedModel) (at : Moment) (draft : Draft) (of : IsDraftOf s uses stages model draft) (given : IsPlanGiven s n at draft.plan draft.low)
    (base : Values) (answers : List (Option Bool)) (answered : answers ≡ map (λ condition. truth_in (value_of condition (views_of base))) model.clocking.sites) where
  own_sites : model.clocking.sites ≡ s.clocking.sites
  own_sites = ap (λ c. c.sites) of.model_is.clocking

  answers_long : length answers ≡ length s.clocking.sites
  answers_long = ap length answered ∙ length-map model.clocking.sites (λ condition. truth_in (value_of condition (views_of base))) ∙ ap length own_sites

  at_instant : (site : ℕ) → was_low draft.low site ≡ true → (t : Ratio) × (draft.plan.given ≡ Some (At t))
  at_instant site was = by_moment n refl
    where
      by_moment : (k : ℕ) → n ≡ k → (t : Ratio) × (draft.plan.given ≡ Some (At t))
      by_moment zero e = absurd (true≢false (sym was ∙ given.lows.first e site))
      by_moment (suc k) e =
          let (t, is) = later_instant s.instants k at (sym (ap (λ j. moment_at s.instants j) e) ∙ given.here) in
          (t, given.given ∙ ap (λ j. moment_at s.instants j) e ∙ is)

  can_note : CanNote answers draft.low draft.plan
  can_note = record {
    few = let few = of.few in subst (λ k. k < 2 ^ 32) (sym answers_long) few;
    long = answers_long ∙ sym given.own;
    wide = given.lows.wide ∙ sym given.own;
    fresh = λ site lt. fresh_at draft.plan.noted site lt (given.fresh site);
    instant = at_instant;
  }

pub may_note : (model : ClockedModel) (at : Moment) (draft : Draft) → CanFill model at draft → (base : Values) (answers : List (Option Bool)) → answers ≡ map (λ condition. truth_in (value_of condition (views_of base))) model.clocking.sites
    → CanNote answers draft.low draft.plan
may_note model at draft (s, uses, stages, n, of, given) base answers answered = can_note s uses stages n model at draft of given base answers answered

module _ (model : ClockedModel) (at : Moment) (old new : Draft) (found : Found model at old new) where
  module _ (s : Setting) (uses : List Use) (stages : Stages) (n : ℕ) (of : IsDraftOf s uses stages model old) (given : IsPlanGiven s n at old.plan old.low) where
    runs : IsRunnable s
    runs = of.staged.are.ordered.runs

    abbrev base : Values
    base = new.moment.base.items

    abbrev answers : List (Option Bool)
    answers = new.moment.answers.items

    noting : CanNote answers old.low old.plan
    noting = can_note s uses stages n model at old of given base answers found.answered

    long : length answers ≡ length s.clocking.sites
    long = answers_long s uses stages n model at old of given base answers found.answered

    sites_are : model.clocking.sites ≡ s.clocking.sites
    sites_are = own_sites s uses stages n model at old of given base answers found.answered

    room : HasRoom s new.moment
    room = record { base = found.base_long ∙ found.inputs_long ∙ of.room.base; answers = long; ticks = found.ticks_told.size ∙ of.room.ticks }

    lows_wide : length new.low ≡ length s.clocking.sites
    lows_wide = found.noted.wide ∙ given.lows.wide

    ready : IsPlanReady s (suc n) new.plan new.low
    ready = record {
      clocks = found.noted.clocks ∙ given.clocks;
      ahead = found.noted.ahead ∙ given.ahead;
      sites = found.noted.long ∙ given.sites ∙ ap length (sym found.noted.risings);
      own = found.noted.long ∙ given.own;
      lows = record { wide = lows_wide; first = λ none site. absurd (omega (arith, none)) };
    }

    module _ (S : Assignment) (valued : AreValuedBefore s S n) (known : IsKnownAt s S n old.plan old.low) where
      abbrev over : Assignment
      over = with_row S n (value_in base)

      same_before : SameBefore S over n
      same_before = λ x k lt. sym (row_before S n (value_in base) x k lt)

      answers_at : (site : ℕ) → answer_of answers site ≡ truth_in (site_answer s over site n)
      answers_at site =
          ap (λ a. answer_of a site) (found.answered ∙ ap (λ l. map (λ condition. truth_in (value_of condition (views_of base))) l) sites_are) ∙ sym (answers_are s runs S n base site)

      low_before : (site k : ℕ) → n ≡ suc k → was_low old.low site ≡ is_false (site_answer s over site k)
      low_before site k e = known.were_low site k e ∙ ap is_false (site_same s S over site k k (λ x j le. same_before x j (omega (arith, le, e))) (omega arith))

      are_answers : AreAnswers s over n answers old.low
      are_answers = record {
        high = λ site. ap is_high (answers_at site) ∙ high_in (site_answer s over site n);
        low_is = λ site. ap is_low (answers_at site) ∙ low_in (site_answer s over site n);
        before = low_before;
        first = λ site e. given.lows.first e site;
      }

      taken_over : IsPlanTaken s over n old.plan
      taken_over = record {
        clocks = given.clocks;
        given = given.given;
        ahead = given.ahead;
        sites = given.sites;
        own = given.own;
        risings = λ site. known.risings site ∙ risings_same s S over n n same_before (omega arith) site;
        fresh = given.fresh;
      }

      plan_at : IsPlanAt s over n new.plan
      plan_at = noted_at_moment s over n answers old.low are_answers old.plan taken_over noting new.plan new.low found.noted

      low_at : (site : ℕ) → was_low new.low site ≡ is_false (site_answer s over site n)
      low_at site = elim (cases_lt site (length answers)) [
        | inl lt ↦ ap (λ o. unwrap_or o false) (lows_kept s over n answers old.low are_answers old.plan taken_over noting new.plan new.low found.noted site lt)
        | inr ge ↦
            let all = long in
            let wide = lows_wide in
            ap (λ o. unwrap_or o false) (slice_get_past new.low site (omega (arith, ge, wide, all)))
            ∙ sym (ap (λ o. is_false (answer_in (unclocked_views over n) o)) (slice_get_past s.clocking.sites site (omega (arith, ge, all))))
      ]

      first_site : IsFirstSite s over n new.moment.site
      first_site = by_site new.moment.site (subst (λ l. TellsFirst base l new.moment.site) sites_are found.tells)
        where
          by_site : (o : Option SiteFailing) → TellsFirst base s.clocking.sites o → IsFirstSite s over n o
          by_site None none = λ j kind fails. none j kind (fails_over s runs S n base j kind fails)
          by_site (Some f) first = (
            fails_as s runs S n base f.site f.kind first.0,
            λ j kind lt fails. first.1 j kind lt (fails_over s runs S n base j kind fails),
          )

      none_ticks : (plan : Planned) (moment : Option Moment) → clock_ticks_in plan moment None ≡ false
      none_ticks plan None = refl
      none_ticks plan (Some Initial) = refl
      none_ticks plan (Some (At t)) = refl

      ticks_row : (class : ℕ) → row_ticks new.moment.ticks.items class ≡ class_ticks s over (Some class) n
      ticks_row class = by_place (slice_get old.moment.ticks.items class) refl ∙ ticks_told s over n new.plan class plan_at
        where
          by_place : (o : Option Bool) → slice_get old.moment.ticks.items class ≡ o → row_ticks new.moment.ticks.items class ≡ ticks_in_plan new.plan class
          by_place (Some was) is = ap (λ o. unwrap_or o false) (found.ticks_told.each class ∙ ap (option_map (λ b. found.ticks class)) is) ∙ found.ticks_are class
          by_place None is =
              ap (λ o. unwrap_or o false) (found.ticks_told.each class ∙ ap (option_map (λ b. found.ticks class)) is)
              ∙ sym (ap (clock_ticks_in new.plan new.plan.given) (slice_get_past new.plan.clocks class (let past = none_past old.moment.ticks.items class is in let size = of.room.ticks in let same = ap length ready.clocks in omega (arith, past, size, same)))
              ∙ none_ticks new.plan new.plan.given)

      before : IsBefore s uses stages n old.pure model.flat found.inputs
      before = before_at s uses stages n model at old of given found.inputs found.inputs_long found.holds

      planned : IsPlannedAt s uses stages S n new.moment
      planned =
          let taken = found.takes s uses stages n before S valued in record {
            here = given.here ∙ ap Some (sym found.at_is);
            room = room;
            inputs = value_in found.inputs;
            are = before.are;
            taken = taken.taken;
            told_is = taken.told_is;
            answers_are = answers_at;
            site_is = first_site;
            ticks_are = ticks_row;
          }

      knows : AnswersAs s S n (base_of new.moment) → IsKnownBefore s S (suc n) new.plan new.low
      knows alike =
          let after = plan_after s S n new.plan (moved_plan s over S n new.plan (λ x k lt. row_before S n (value_in base) x k lt) alike plan_at) in record {
            risings = after.risings;
            were_low = λ site k e. let same : n ≡ k = omega (arith, e) in low_at site ∙ ap is_false (alike site) ∙ ap (λ j. is_false (site_answer s S site j)) same;
          }

    has_planned : HasPlanned s uses stages (λ S. IsKnownAt s S n old.plan old.low) n new
    has_planned = record {
      here = given.here ∙ ap Some (sym found.at_is);
      room = room;
      pure = pure_still s stages.pure old.pure new.pure of.pure found.same;
      ready = ready;
      planned = planned;
      knows = knows;
    }

  pub fills : Fills model at old new
  fills s uses stages n of given = has_planned s uses stages n of given

-- what was found, in the moment that has it
pub record Written (model : ClockedModel) (at : Moment) (old new : Draft) : Type 0 where
  pub inputs : Values
  pub base : Values
  pub answers : List (Option Bool)
  pub row : List Bool
  pub inputs_long : length inputs ≡ length old.moment.base.items
  pub base_long : length base ≡ length inputs
  pub answers_long : length answers ≡ length old.moment.answers.items
  pub base_is : new.moment.base.items ≡ base
  pub answers_is : new.moment.answers.items ≡ answers
  pub row_is : new.moment.ticks.items ≡ row
  pub at_is : new.moment.at ≡ at
  pub holds : HoldInputs model.table at inputs
  pub same : IsSameUses old.pure new.pure
  pub takes : Takes old.pure model.flat inputs base new.moment.told
  pub answered : answers ≡ map (λ condition. truth_in (value_of condition (views_of base))) model.clocking.sites
  pub tells : TellsFirst base model.clocking.sites new.moment.site
  pub noted : NotedTo answers old.low old.plan (length answers) new.plan new.low
  pub ticks : ℕ → Bool
  pub ticks_told : IsWritten (λ class was. ticks class) old.moment.ticks.items row
  pub ticks_are : (class : ℕ) → ticks class ≡ ticks_in_plan new.plan class

pub written_fills : (model : ClockedModel) (at : Moment) (old new : Draft) → Written model at old new → Fills model at old new
written_fills model at old new w = fills model at old new (record {
  inputs = w.inputs;
  inputs_long = w.inputs_long;
  holds = w.holds;
  same = w.same;
  base_long = ap length w.base_is ∙ w.base_long;
  takes = subst (λ b. Takes old.pure model.flat w.inputs b new.moment.told) (sym w.base_is) w.takes;
  answered = w.answers_is ∙ w.answered ∙ ap (λ b. map (λ condition. truth_in (value_of condition (views_of b))) model.clocking.sites) (sym w.base_is);
  tells = subst (λ b. TellsFirst b model.clocking.sites new.moment.site) (sym w.base_is) w.tells;
  noted = subst (λ a. NotedTo a old.low old.plan (length a) new.plan new.low) (sym w.answers_is) w.noted;
  ticks = w.ticks;
  ticks_told = subst (IsWritten (λ class was. w.ticks class) old.moment.ticks.items) (sym w.row_is) w.ticks_told;
  ticks_are = w.ticks_are;
  at_is = w.at_is;
})
