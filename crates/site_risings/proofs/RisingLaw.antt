-- What is noted at a moment are the risings of an assignment, so that the plan tells its ticks.
use Rattle.std.proofs.Common.{◌≡◌, refl, ap, ap₂, ◌∙◌, sym, subst, ℕ, zero, suc, ◌+◌, ◌<◌, ◌≤◌, ◌&&◌, Bool, true, false, List, [], ◌∷◌, length, drop, Option, Some, None, unwrap_or, slice_get, ◌⊎◌, inl, inr, arith}
use Rattle.std.proofs.lemmas.Bool.{cases_lt}
use Rattle.flat_model.specs.Assignment.{Assignment}
use Rattle.flat_model.specs.Setting.{Setting, site_answer, is_true, is_false, rises, risings_before}
use Rattle.tick_plan.specs.Plans.{Planned, risings_of, is_noted, moments_of}
use Rattle.run_moments.specs.Moving.{IsPlanTaken, IsPlanAt}
use Rattle.site_risings.specs.Risings.{is_high, is_low, answer_of, was_low, CanNote, NotedTo}
use Rattle.site_risings.specs.Laws.{AreAnswers}

and_false : (b : Bool) → b && false ≡ false
and_false true = refl
and_false false = refl

past_end : (answers : List (Option Bool)) (site : ℕ) → length answers ≤ site → answer_of answers site ≡ None
past_end [] site le = refl
past_end (a ∷ answers) zero le = absurd (omega (arith, le))
past_end (a ∷ answers) (suc site) le = past_end answers site (omega (arith, le))

module _ (s : Setting) (S : Assignment) (n : ℕ) (answers : List (Option Bool)) (low : List Bool) (are : AreAnswers s S n answers low) where
  rising : (site : ℕ) → (is_high (answer_of answers site) && was_low low site) ≡ rises s S site n
  rising site = by_moment n refl
    where
      by_moment : (k : ℕ) → n ≡ k → (is_high (answer_of answers site) && was_low low site) ≡ rises s S site k
      by_moment zero e = ap (λ b. is_high (answer_of answers site) && b) (are.first site e) ∙ and_false (is_high (answer_of answers site))
      by_moment (suc k) e = ap₂ (λ a b. a && b) (are.high site ∙ ap (λ m. is_true (site_answer s S site m)) e) (are.before site k e)

  module _ (old : Planned) (taken : IsPlanTaken s S n old) (can : CanNote answers low old) (new : Planned) (kept : List Bool) (noted : NotedTo answers low old (length answers) new kept) where
    pub noted_at_moment : IsPlanAt s S n new
    noted_at_moment = record {
      clocks = noted.clocks ∙ taken.clocks;
      given = noted.given ∙ taken.given;
      ahead = noted.ahead ∙ taken.ahead;
      sites = noted.long ∙ taken.sites ∙ ap length (sym noted.risings);
      own = noted.long ∙ taken.own;
      risings = λ site. ap (λ r. unwrap_or (slice_get r site) 0) noted.risings ∙ taken.risings site;
      noted = λ site. elim (cases_lt site (length answers)) [
        | inl lt ↦ ap (λ o. unwrap_or o false) (noted.noted site lt) ∙ rising site
        | inr ge ↦ ap (λ o. unwrap_or o false) (noted.fresh site ge) ∙ taken.fresh site ∙ sym (ap (λ o. is_high o && was_low low site) (past_end answers site ge)) ∙ rising site
      ];
    }

    -- what is low is kept
    pub lows_kept : (site : ℕ) → site < length answers → slice_get kept site ≡ Some (is_false (site_answer s S site n))
    lows_kept site lt = noted.lows site lt ∙ ap Some (are.low_is site)
