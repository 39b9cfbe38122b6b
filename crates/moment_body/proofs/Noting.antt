-- What the sites answer over what the pure uses left, and what is noted of them.
use Rattle.std.proofs.Common.{◌≡◌, refl, ap, ◌∙◌, sym, subst, ℕ, zero, suc, ◌<◌, ◌^◌, Bool, true, false, List, [], ◌∷◌, length, map, Option, Some, None, slice_get, unwrap_or, inl, inr, arith}
use Rattle.std.proofs.lemmas.Bool.{cases_lt, true≢false}
use Rattle.std.proofs.lemmas.List.{length-map}
use Rattle.std.proofs.lemmas.Option.{slice_get_past}
use Rattle.rational_time.specs.declared.ratio.Ratio.{Ratio}
use Rattle.sync_values.specs.declared.value.Value.TheVariants as value
use Rattle.flat_model.specs.declared.clock.Moment.{Moment}
use Rattle.flat_model.specs.declared.clock.Moment.TheVariants.{At}
use Rattle.flat_model.specs.declared.expression.Expr.{Expr}
use Rattle.flat_model.specs.Values.{value_in, truth_in, views_of}
use Rattle.flat_model.specs.Assignment.{Assignment}
use Rattle.flat_model.specs.Given.{with_row}
use Rattle.flat_model.specs.Meaning.{value_of}
use Rattle.flat_model.specs.Moments.{moment_at}
use Rattle.flat_model.specs.Operators.{Answer, Is, Fails, Absent}
use Rattle.flat_model.specs.Setting.{Setting, answer_in, site_answer, is_true, is_false, unclocked_views}
use Rattle.flat_model.proofs.Agreement.{SameBefore, site_same}
use Rattle.tick_plan.specs.Plans.{Planned}
use Rattle.moment_theory.proofs.Rows.{row_before}
use Rattle.moment_moves.specs.Moments.{IsFirstSite}
use Rattle.moment_moves.proofs.Ending.{risings_same}
use Rattle.run_moments.specs.Moving.{IsPlanTaken, IsPlanAt}
use Rattle.site_risings.specs.declared.answers.SiteFailing.{SiteFailing}
use Rattle.site_risings.specs.SiteFailures.{TellsFirst}
use Rattle.site_risings.specs.Laws.{AreAnswers}
use Rattle.site_risings.specs.Risings.{is_high, is_low, answer_of, was_low, CanNote, NotedTo}
use Rattle.site_risings.proofs.Answering.{answers_are, fails_as, fails_over}
use Rattle.site_risings.proofs.RisingLaw.{noted_at_moment, lows_kept}
use Rattle.moment_body.specs.declared.model.ClockedModel.{ClockedModel}
use Rattle.moment_body.specs.declared.sheet.Sheet.{Sheet}
use Rattle.moment_body.specs.Kept.{IsKeptBy}
use Rattle.moment_body.specs.Stages.{Stages}
use Rattle.moment_body.specs.Stepping.{Values, Standing}
use Rattle.moment_body.proofs.Beginning.{runs}

high_in : (a : Answer) → is_high (truth_in a) ≡ is_true a
high_in (Is (value.Int z)) = refl
high_in (Is (value.Bool b)) = refl
high_in (Fails kind) = refl
high_in Absent = refl

low_in : (a : Answer) → is_low (truth_in a) ≡ is_false a
low_in (Is (value.Int z)) = refl
low_in (Is (value.Bool true)) = refl
low_in (Is (value.Bool false)) = refl
low_in (Fails kind) = refl
low_in Absent = refl

fresh_at : (noted : List Bool) (site : ℕ) → site < length noted → unwrap_or (slice_get noted site) false ≡ false → slice_get noted site ≡ Some false
fresh_at [] site lt e = absurd (omega (arith, lt))
fresh_at (b ∷ noted) zero lt e = ap Some e
fresh_at (b ∷ noted) (suc site) lt e = fresh_at noted site (omega (arith, lt)) e

-- behind Initial a moment is an instant
later_instant : (ts : List Ratio) (k : ℕ) (at : Moment) → moment_at ts (suc k) ≡ Some at → (t : Ratio) × (moment_at ts (suc k) ≡ Some (At t))
later_instant [] k at e = absurd cc
later_instant (t ∷ ts) zero at e = (t, refl)
later_instant (t ∷ ts) (suc k) at e = later_instant ts k at e

module _ (stages : Stages) (stands : Standing) (model : ClockedModel) (sheet : Sheet) (s : Setting) (A : Assignment) (n : ℕ) (kept : IsKeptBy stages stands model sheet s A n) (at : Moment) (here : moment_at s.instants n ≡ Some at)
    (base : Values) (sites : List Expr) (sites_is : sites ≡ model.clocking.sites) where
  abbrev over : Assignment
  over = with_row A n (value_in base)

  own_sites : sites ≡ s.clocking.sites
  own_sites = sites_is ∙ ap (λ c. c.sites) kept.model_is.clocking

  same_before : SameBefore A over n
  same_before = λ x k lt. sym (row_before A n (value_in base) x k lt)

  -- which site fails first
  pub first_site : (site : Option SiteFailing) → TellsFirst base sites site → IsFirstSite s over n site
  first_site site tells = by_site site (subst (λ l. TellsFirst base l site) own_sites tells)
    where
      by_site : (o : Option SiteFailing) → TellsFirst base s.clocking.sites o → IsFirstSite s over n o
      by_site None none = λ j kind fails. none j kind (fails_over s (runs stages stands model sheet s A n kept at here) A n base j kind fails)
      by_site (Some f) first = (
        fails_as s (runs stages stands model sheet s A n kept at here) A n base f.site f.kind first.0,
        λ j kind lt fails. first.1 j kind lt (fails_over s (runs stages stands model sheet s A n kept at here) A n base j kind fails),
      )

  module _ (answers : List (Option Bool)) (answered : answers ≡ map (λ condition. truth_in (value_of condition (views_of base))) sites) where
    -- the answers are those of the sites
    pub answers_at : (site : ℕ) → answer_of answers site ≡ truth_in (site_answer s over site n)
    answers_at site =
        ap (λ a. answer_of a site) (answered ∙ ap (λ l. map (λ condition. truth_in (value_of condition (views_of base))) l) own_sites)
        ∙ sym (answers_are s (runs stages stands model sheet s A n kept at here) A n base site)

    answers_long : length answers ≡ length s.clocking.sites
    answers_long = ap length answered ∙ length-map sites (λ condition. truth_in (value_of condition (views_of base))) ∙ ap length own_sites

    module _ (low : List Bool) (low_is : low ≡ sheet.low.items) where
      low_before : (site k : ℕ) → n ≡ suc k → was_low low site ≡ is_false (site_answer s over site k)
      low_before site k e =
          ap (λ l. was_low l site) low_is ∙ kept.low.before site k e
          ∙ ap is_false (site_same s A over site k k (λ x j le. same_before x j (omega (arith, le, e))) (omega arith))

      are_answers : AreAnswers s over n answers low
      are_answers = record {
        high = λ site. ap is_high (answers_at site) ∙ high_in (site_answer s over site n);
        low_is = λ site. ap is_low (answers_at site) ∙ low_in (site_answer s over site n);
        before = low_before;
        first = λ site e. ap (λ l. was_low l site) low_is ∙ kept.low.first site e;
      }

      module _ (taken : Planned) (plan_is : IsPlanTaken s A n taken) where
        at_instant : (site : ℕ) → was_low low site ≡ true → (t : Ratio) × (taken.given ≡ Some (At t))
        at_instant site was = by_moment n refl
          where
            by_moment : (k : ℕ) → n ≡ k → (t : Ratio) × (taken.given ≡ Some (At t))
            by_moment zero e = absurd (true≢false (sym was ∙ ap (λ l. was_low l site) low_is ∙ kept.low.first site e))
            by_moment (suc k) e =
                let (t, is) = later_instant s.instants k at (sym (ap (λ j. moment_at s.instants j) e) ∙ here) in
                (t, plan_is.given ∙ ap (λ j. moment_at s.instants j) e ∙ is)

        pub can_note : CanNote answers low taken
        can_note = record {
          few = let few = kept.sheet_is.few in let long = answers_long in subst (λ k. k < 2 ^ 32) (sym long) few;
          long = answers_long ∙ sym plan_is.own;
          wide = ap length low_is ∙ kept.sheet_is.low ∙ sym plan_is.own;
          fresh = λ site lt. fresh_at taken.noted site lt (plan_is.fresh site);
          instant = at_instant;
        }

        taken_over : IsPlanTaken s over n taken
        taken_over = record {
          clocks = plan_is.clocks;
          given = plan_is.given;
          ahead = plan_is.ahead;
          sites = plan_is.sites;
          own = plan_is.own;
          risings = λ site. plan_is.risings site ∙ risings_same s A over n n same_before (omega arith) site;
          fresh = plan_is.fresh;
        }

        module _ (plan : Planned) (lows : List Bool) (noted : NotedTo answers low taken (length answers) plan lows) where
          pub plan_at : IsPlanAt s over n plan
          plan_at = noted_at_moment s over n answers low are_answers taken taken_over can_note plan lows noted

          -- what is low is kept
          pub low_at : (site : ℕ) → was_low lows site ≡ is_false (site_answer s over site n)
          low_at site = elim (cases_lt site (length answers)) [
            | inl lt ↦ ap (λ o. unwrap_or o false) (lows_kept s over n answers low are_answers taken taken_over can_note plan lows noted site lt)
            | inr ge ↦ let long : length lows ≡ length s.clocking.sites = noted.wide ∙ ap length low_is ∙ kept.sheet_is.low in
                let all = answers_long in
                ap (λ o. unwrap_or o false) (slice_get_past lows site (omega (arith, ge, long, all)))
                ∙ sym (ap (λ o. is_false (answer_in (unclocked_views over n) o)) (slice_get_past s.clocking.sites site (omega (arith, ge, all))))
          ]
