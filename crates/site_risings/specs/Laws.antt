-- What is answered and noted of sites, as the definitions of a run have it.
use Rattle.std.specs.Prelude.{◌≡◌, ℕ, suc, ◌<◌, Bool, false, List, length, map, Option, Some, slice_get}
use Rattle.sync_values.specs.declared.value.Value.{Value}
use Rattle.sync_values.specs.declared.value.Fail.{Fail}
use Rattle.flat_model.specs.Values.{value_in, views_of, truth_in}
use Rattle.flat_model.specs.Assignment.{Assignment}
use Rattle.flat_model.specs.Faults.{SiteFails}
use Rattle.flat_model.specs.Given.{with_row}
use Rattle.flat_model.specs.Meaning.{value_of}
use Rattle.flat_model.specs.Runnable.{IsRunnable}
use Rattle.flat_model.specs.Setting.{Setting, site_answer, is_true, is_false}
use Rattle.tick_plan.specs.Plans.{Planned}
use Rattle.run_moments.specs.Moving.{IsPlanTaken, IsPlanAt}
use Rattle.site_risings.specs.SiteFailures.{SiteFailsOver}
use Rattle.site_risings.specs.Risings.{is_high, is_low, answer_of, was_low, CanNote, NotedTo}

-- the answers of the conditions at a moment, and which were low at the moment before, are those of S
pub record AreAnswers (s : Setting) (S : Assignment) (n : ℕ) (answers : List (Option Bool)) (low : List Bool) : Type 0 where
  pub high : (site : ℕ) → is_high (answer_of answers site) ≡ is_true (site_answer s S site n)
  pub low_is : (site : ℕ) → is_low (answer_of answers site) ≡ is_false (site_answer s S site n)
  pub before : (site k : ℕ) → n ≡ suc k → was_low low site ≡ is_false (site_answer s S site k)
  pub first : (site : ℕ) → n ≡ 0 → was_low low site ≡ false

-- the answers over the values of a moment are those of the sites, and a condition fails over them exactly where its site fails
abbrev pub AnswersLaw : Type 0
AnswersLaw = (s : Setting) → IsRunnable s → (S : Assignment) (m : ℕ) (now : List (Option Value))
    → ((site : ℕ) → truth_in (site_answer s (with_row S m (value_in now)) site m) ≡ answer_of (map (λ condition. truth_in (value_of condition (views_of now))) s.clocking.sites) site)
    × ((site : ℕ) (kind : Fail) → SiteFailsOver now s.clocking.sites site kind → SiteFails s (with_row S m (value_in now)) m site kind)
    × ((site : ℕ) (kind : Fail) → SiteFails s (with_row S m (value_in now)) m site kind → SiteFailsOver now s.clocking.sites site kind)

-- what is noted at a moment are the risings of S at it, and what is kept low is so
abbrev pub RisingsLaw : Type 0
RisingsLaw = (s : Setting) (S : Assignment) (n : ℕ) (answers : List (Option Bool)) (low : List Bool) → AreAnswers s S n answers low
    → (old : Planned) → IsPlanTaken s S n old → CanNote answers low old → (new : Planned) (kept : List Bool) → NotedTo answers low old (length answers) new kept
    → IsPlanAt s S n new × ((site : ℕ) → site < length answers → slice_get kept site ≡ Some (is_false (site_answer s S site n)))
