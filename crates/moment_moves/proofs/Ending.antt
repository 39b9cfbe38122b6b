-- A moment that was run by its stages goes on, or ends with the first fault.
use Rattle.std.proofs.Common.{◌≡◌, refl, ap₂, ◌∙◌, sym, subst, ℕ, zero, suc, ◌+◌, ◌<◌, ◌≤◌, ◌&&◌, if◌then◌else◌, List, ◌++◌, Option, Some, None, inl, inr, arith}
use Rattle.sync_values.specs.declared.value.Fail.{Fail}
use Rattle.flat_model.specs.declared.clock.Moment.{Moment}
use Rattle.flat_model.specs.declared.fault.FaultPlace.TheVariants as place
use Rattle.flat_model.specs.Assignment.{Assignment}
use Rattle.flat_model.specs.Faults.{SiteFails, EquationFails}
use Rattle.flat_model.specs.Given.{Row, with_row}
use Rattle.flat_model.specs.Setting.{Setting, site_answer, is_true, is_false, rises, risings_before}
use Rattle.flat_model.specs.Uses.{Use}
use Rattle.flat_model.proofs.Agreement.{SameBefore, site_same}
use Rattle.tick_plan.specs.Plans.{Planned}
use Rattle.moment_theory.specs.Division.{joined}
use Rattle.moment_theory.specs.Going.{HasRun, IsOnlyBefore, SitesHold}
use Rattle.moment_theory.specs.Taken.{AreTaken}
use Rattle.moment_theory.proofs.Answered.{moment_within}
use Rattle.moment_theory.proofs.Members.{contains_member}
use Rattle.moment_theory.proofs.Rows.{row_before}
use Rattle.moment_theory.proofs.Settled.{met_has_run, none_meet, first_fault_is}
use Rattle.first_failure.specs.declared.least.EquationFailing.{EquationFailing}
use Rattle.first_failure.specs.Turns.{FailsAmong, IsLeast}
use Rattle.moment_join.specs.Sites.{AnswerAlike}
use Rattle.moment_join.proofs.GoesOn.{goes_on, sites_alike}
use Rattle.moment_join.proofs.Joined.{all_taken, pure_alike}
use Rattle.moment_join.proofs.PureValues.{sites_hold}
use Rattle.moment_join.proofs.Tells.{told_least}
use Rattle.run_moments.specs.Moving.{IsPlanAt}
use Rattle.run_moments.proofs.OnPlan.{plan_after}
use Rattle.site_risings.specs.declared.answers.SiteFailing.{SiteFailing}
use Rattle.moment_moves.specs.Moments.{fault_of, IsFirstSite, IsRunMoment, EndsWith}

-- risings before a moment rest on what comes before it
pub rises_same : (s : Setting) (S T : Assignment) (m k : ℕ) → SameBefore S T m → k < m → (site : ℕ) → rises s S site k ≡ rises s T site k
rises_same s S T m zero same lt site = refl
rises_same s S T m (suc k) same lt site = ap₂ (λ a b. is_true a && is_false b)
    (site_same s S T site (suc k) (suc k) (λ x j le. same x j (omega (arith, lt, le))) (omega arith))
    (site_same s S T site (suc k) k (λ x j le. same x j (omega (arith, lt, le))) (omega arith))

pub risings_same : (s : Setting) (S T : Assignment) (m k : ℕ) → SameBefore S T m → k ≤ m → (site : ℕ) → risings_before s S site k ≡ risings_before s T site k
risings_same s S T m zero same le site = refl
risings_same s S T m (suc k) same le site =
    ap₂ (λ b n. if b then n + 1 else n) (rises_same s S T m k same (omega (arith, le)) site) (risings_same s S T m k same (omega (arith, le)) site)

-- and at it on the answer of the site besides
rises_now : (s : Setting) (S T : Assignment) (m : ℕ) → SameBefore S T m → (site : ℕ) → site_answer s S site m ≡ site_answer s T site m → rises s S site m ≡ rises s T site m
rises_now s S T zero same site now = refl
rises_now s S T (suc k) same site now = ap₂ (λ a b. is_true a && is_false b) now (site_same s S T site k k (λ x j le. same x j (omega (arith, le))) (omega arith))

moved_plan : (s : Setting) (S T : Assignment) (n : ℕ) (plan : Planned) → SameBefore S T n → ((site : ℕ) → site_answer s S site n ≡ site_answer s T site n) → IsPlanAt s S n plan → IsPlanAt s T n plan
moved_plan s S T n plan same answers is = record {
  clocks = is.clocks;
  given = is.given;
  ahead = is.ahead;
  sites = is.sites;
  own = is.own;
  risings = λ site. is.risings site ∙ risings_same s S T n n same (omega arith) site;
  noted = λ site. is.noted site ∙ rises_now s S T n same site (answers site);
}

module _ (s : Setting) (uses pure : List Use) (pieces : List (List Use)) (waiting : List Use) (A : Assignment) (n : ℕ) (at : Moment) (base last : Row) (site : Option SiteFailing) (told : Option EquationFailing)
    (is : IsRunMoment s uses pure pieces waiting A n at base last site told) (plan : Planned) (plan_is : IsPlanAt s (with_row A n base) n plan) where
  abbrev order : List Use
  order = pure ++ (joined pieces ++ waiting)

  known : HasRun s uses A n
  known = let within = moment_within s.instants n at is.here in met_has_run s uses order is.stages.ordered A n (omega (arith, within)) is.alone.meets

  before : IsOnlyBefore s A n
  before = record { meets = known.meets; only = known.only n (omega arith) }

  taken : AreTaken s A n order is.inputs last
  taken = all_taken s uses pure pieces waiting is.stages A n is.inputs base is.owns is.row last is.staged

  least : IsLeast (EquationFails s (with_row A n last) uses n) told
  least = subst (IsLeast (EquationFails s (with_row A n last) uses n)) (sym is.told_is)
      (told_least s uses pure pieces waiting is.stages A n is.inputs base is.owns is.row last is.staged is.first is.each is.behind is.tells)

  alike : AnswerAlike s A n base last
  alike = sites_alike s uses pure pieces waiting is.stages is.reach A n is.inputs base is.owns is.row last is.staged

  site_fault : (f : SiteFailing) → IsFirstSite s (with_row A n base) n (Some f) → EndsWith s A n last plan (fault_of at (Some f) told)
  site_fault f first = (
    is.here,
    first_fault_is s uses order is.stages.ordered A n is.inputs last is.staged.are taken known (place.Site f.site) f.kind
        (alike.fails f.site f.kind first.0, λ j kind lt fails. first.1 j kind lt (alike.back j kind fails)),
    none_meet s uses order is.stages.ordered A n is.inputs last is.staged.are taken before (inl (f.site, f.kind, alike.fails f.site f.kind first.0)),
  )

  module _ (fine : (j : ℕ) (kind : Fail) → SiteFails s (with_row A n base) n j kind → ⊥) where
    equation_fault : (f : EquationFailing) → IsLeast (EquationFails s (with_row A n last) uses n) (Some f) → EndsWith s A n last plan (fault_of at None (Some f))
    equation_fault f first = (
      is.here,
      first_fault_is s uses order is.stages.ordered A n is.inputs last is.staged.are taken known (place.Equation f.equation) f.kind
          (first.0, (λ j kind fails. fine j kind (alike.back j kind fails)), first.1),
      none_meet s uses order is.stages.ordered A n is.inputs last is.staged.are taken before (inr (f.equation, f.kind, first.0)),
    )

    module _ (none : IsLeast (EquationFails s (with_row A n last) uses n) None) where
      pure_fine : IsLeast (FailsAmong s uses A n pure base) None
      pure_fine i kind (entry, used, same, fails) =
          none i kind (subst (λ j. EquationFails s (with_row A n last) uses n j kind) same
          ((pure_alike s uses pure pieces waiting is.stages A n is.inputs base is.owns is.row last is.staged entry (contains_member entry pure used)).0.fails kind
          (subst (λ j. EquationFails s (with_row A n base) uses n j kind) (sym same) fails)))

      base_holds : SitesHold s (with_row A n base) n
      base_holds = sites_hold s uses pure (joined pieces ++ waiting) is.stages.ordered is.stages.clockless A n at is.here is.inputs base is.staged.are is.staged.first pure_fine is.reach fine

      last_holds : SitesHold s (with_row A n last) n
      last_holds j condition found = let h = base_holds j condition found in (h.0, sym (alike.answers j) ∙ h.1)

      went : HasRun s uses (with_row A n last) (suc n)
      went = goes_on s uses order is.stages.ordered A n is.inputs last is.staged.are taken known at is.here last_holds none

      well : EndsWith s A n last plan None
      well = (
        record { meets = went.meets; only = went.only },
        plan_after s (with_row A n last) n plan
            (moved_plan s (with_row A n base) (with_row A n last) n plan (λ x k lt. row_before A n base x k lt ∙ sym (row_before A n last x k lt)) alike.answers plan_is),
      )

    by_told : (o : Option EquationFailing) → IsLeast (EquationFails s (with_row A n last) uses n) o → EndsWith s A n last plan (fault_of at None o)
    by_told None none = well none
    by_told (Some f) first = equation_fault f first

  by_site : (o : Option SiteFailing) → IsFirstSite s (with_row A n base) n o → EndsWith s A n last plan (fault_of at o told)
  by_site None fine = by_told fine told least
  by_site (Some f) first = site_fault f first

  pub moment_ends : EndsWith s A n last plan (fault_of at site told)
  moment_ends = by_site site is.site_told
