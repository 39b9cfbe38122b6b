-- A moment that was run by its stages, sites first. This project's own.
use Rattle.std.specs.Prelude.{◌≡◌, ℕ, suc, ◌<◌, List, ◌∷◌, Option, Some, None}
use Rattle.sync_values.specs.declared.value.Fail.{Fail}
use Rattle.flat_model.specs.declared.clock.Moment.{Moment}
use Rattle.flat_model.specs.declared.fault.Fault.{Fault}
use Rattle.flat_model.specs.declared.fault.FaultPlace.TheVariants as place
use Rattle.flat_model.specs.Assignment.{Assignment}
use Rattle.flat_model.specs.Faults.{SiteFails, IsFirstFault}
use Rattle.flat_model.specs.Given.{Row, with_row}
use Rattle.flat_model.specs.Meets.{Meets}
use Rattle.flat_model.specs.Moments.{moment_at}
use Rattle.flat_model.specs.Setting.{Setting}
use Rattle.flat_model.specs.Uses.{Use}
use Rattle.tick_plan.specs.Plans.{Planned}
use Rattle.first_failure.specs.declared.least.EquationFailing.{EquationFailing}
use Rattle.moment_join.specs.Sites.{ReachSites}
use Rattle.moment_join.specs.Staged.{AreStagesOf, IsStaged, AreTold}
use Rattle.moment_join.specs.Told.{earliest}
use Rattle.run_ahead.specs.Ahead.{IsAloneBefore}
use Rattle.run_moments.specs.Moving.{IsPlanBefore}
use Rattle.site_risings.specs.declared.answers.SiteFailing.{SiteFailing}

-- the fault of a moment: a site that fails comes before an equation
abbrev pub fault_of : Moment → Option SiteFailing → Option EquationFailing → Option Fault
fault_of at (Some f) told = Some (record { moment = at; place = place.Site f.site; kind = f.kind })
fault_of at None (Some f) = Some (record { moment = at; place = place.Equation f.equation; kind = f.kind })
fault_of at None None = None

-- the site of least number that fails is told, or none fails
abbrev pub IsFirstSite : Setting → Assignment → ℕ → Option SiteFailing → Type 0
IsFirstSite s S m None = (site : ℕ) (kind : Fail) → SiteFails s S m site kind → ⊥
IsFirstSite s S m (Some f) = SiteFails s S m f.site f.kind × ((site : ℕ) (kind : Fail) → site < f.site → SiteFails s S m site kind → ⊥)

-- moment n of a run, before which A alone meets the model, by its stages: what the pure uses left decides of the sites, and each stage tells its failures
pub record IsRunMoment (s : Setting) (uses pure : List Use) (pieces : List (List Use)) (waiting : List Use) (A : Assignment) (n : ℕ) (at : Moment) (base last : Row) (site : Option SiteFailing) (told : Option EquationFailing) : Type 0 where
  pub stages : AreStagesOf s uses pure pieces waiting
  pub reach : ReachSites s pure
  pub alone : IsAloneBefore s A n
  pub here : moment_at s.instants n ≡ Some at
  pub inputs : Row
  pub owns : ℕ → Row
  pub row : Row
  pub staged : IsStaged s A n pure pieces waiting inputs base owns row last
  pub first : Option EquationFailing
  pub each : List (Option EquationFailing)
  pub behind : Option EquationFailing
  pub tells : AreTold s uses A n pure pieces waiting base owns last first each behind
  pub told_is : told ≡ earliest (first ∷ (behind ∷ each))
  pub site_told : IsFirstSite s (with_row A n base) n site

-- how it ends: the last row alone meets the model and the plan stands before the next moment, or the fault is the first one and nothing meets the model up to it
abbrev pub EndsWith : Setting → Assignment → ℕ → Row → Planned → Option Fault → Type 0
EndsWith s A n last plan None = IsAloneBefore s (with_row A n last) (suc n) × IsPlanBefore s (with_row A n last) (suc n) plan
EndsWith s A n last plan (Some f) = (moment_at s.instants n ≡ Some f.moment) × IsFirstFault s A n f.place f.kind × ((T : Assignment) → Meets s T n → ⊥)
