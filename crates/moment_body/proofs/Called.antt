-- What the calls of a moment may ask, and how it moves, whatever it runs.
use Rattle.std.proofs.Common.{◌≡◌, ap, ◌∙◌, sym, subst, ℕ, Bool, List, length, map, Option, Some, None}
use Rattle.flat_model.specs.declared.clock.Moment.{Moment}
use Rattle.flat_model.specs.declared.expression.Expr.{Expr}
use Rattle.flat_model.specs.declared.fault.Fault.{Fault}
use Rattle.flat_model.specs.Values.{value_in, truth_in, views_of}
use Rattle.flat_model.specs.Meaning.{value_of}
use Rattle.tick_plan.specs.Plans.{Planned, ticks_in_plan}
use Rattle.first_failure.specs.declared.least.EquationFailing.{EquationFailing}
use Rattle.moment_join.specs.Told.{earlier}
use Rattle.moment_moves.specs.Moments.{fault_of}
use Rattle.run_moments.specs.Moving.{IsThere, Moves}
use Rattle.site_risings.specs.declared.answers.SiteFailing.{SiteFailing}
use Rattle.site_risings.specs.Risings.{CanNote}
use Rattle.moment_body.specs.declared.model.ClockedModel.{ClockedModel}
use Rattle.moment_body.specs.declared.sheet.Sheet.{Sheet}
use Rattle.moment_body.specs.Kept.{IsKeptBy}
use Rattle.moment_body.specs.Stages.{Stages}
use Rattle.moment_body.specs.Stepping.{Values, Standing, Based, Ended, CanTakeRest, TakesRest, CanKeep, Keeps}
use Rattle.moment_body.proofs.Noting.{can_note}
use Rattle.moment_body.proofs.Moving.{Noted, between, behind, moved_well, moved_badly}
use Rattle.moment_body.proofs.Written.{IsWritten}

-- the fault that is told, by what each stage tells
pub fault_told : (at : Moment) (site : Option SiteFailing) (first rest both : Option EquationFailing) (fault : Option Fault) → both ≡ earlier first rest → fault ≡ fault_of at site both → fault_of at site (earlier first rest) ≡ fault
fault_told at site first rest both fault both_is fault_is = ap (fault_of at site) (sym both_is) ∙ sym fault_is

pub may_note : (stages : Stages) (stands : Standing) (model : ClockedModel) (sheet : Sheet) (taken : Planned) (at : Moment) → IsThere (IsKeptBy stages stands model sheet) taken at
    → (base : Values) (sites : List Expr) → sites ≡ model.clocking.sites → (answers : List (Option Bool)) → answers ≡ map (λ condition. truth_in (value_of condition (views_of base))) sites
    → (low : List Bool) → low ≡ sheet.low.items → CanNote answers low taken
may_note stages stands model sheet taken at (s, A, n, kept, plan_is, here, alone) base sites sites_is answers answered low low_is =
    can_note stages stands model sheet s A n kept at here base sites sites_is answers answered low low_is taken plan_is

module _ (stages : Stages) (stands : Standing) (based : Based) (model : ClockedModel) (sheet : Sheet) (taken : Planned) (at : Moment) (found : Noted stages stands based model sheet taken at)
    (ticks : ℕ → Bool) (ticks_are : (class : ℕ) → ticks class ≡ ticks_in_plan found.plan class) (first : Stages) (first_same : first ≡ stages) where
  pub may_take_rest : IsThere (IsKeptBy stages stands model sheet) taken at → CanTakeRest first based model at ticks found.answers found.base
  may_take_rest (s, A, n, kept, plan_is, here, alone) =
      subst (λ st. CanTakeRest st based model at ticks found.answers found.base) (sym first_same)
      (s, kept.uses, A, n, between stages stands based model sheet taken at found ticks ticks_are s A n kept plan_is here alone)

  module _ (ended : Ended) (last : Values) (last_long : length last ≡ length found.base) (told : Option EquationFailing)
      (rests : TakesRest first based model at ticks found.answers found.base ended last told) where
    rests_so : TakesRest stages based model at ticks found.answers found.base ended last told
    rests_so = subst (λ st. TakesRest st based model at ticks found.answers found.base ended last told) first_same rests

    module _ (none : fault_of at found.site (earlier found.first told) ≡ None) (second : Stages) (second_same : second ≡ first) where
      second_is : second ≡ stages
      second_is = subst (λ st. second ≡ st) first_same second_same

      pub may_keep : IsThere (IsKeptBy stages stands model sheet) taken at → CanKeep second ended last
      may_keep (s, A, n, kept, plan_is, here, alone) =
          subst (λ st. CanKeep st ended last) (sym second_is)
          (s, kept.uses, A, n, value_in found.base, behind stages stands based model sheet taken at found ticks ticks_are s A n kept plan_is here alone ended last last_long told rests_so none)

      pub moves_well : (third : Stages) → third ≡ second → (after : Standing) → Keeps second ended last after → (new : Sheet) → IsWritten sheet new last found.lows
          → Moves (IsKeptBy stages stands model sheet) taken at (IsKeptBy third after model new) found.plan new.row.items None
      moves_well third third_same after keeps new written = λ s A n kept plan_is here alone.
          moved_well stages stands based model sheet taken at found ticks ticks_are s A n kept plan_is here alone ended last last_long told rests_so none third (subst (λ st. third ≡ st) second_is third_same) after
          (subst (λ st. Keeps st ended last after) second_is keeps) new written

    pub moves_badly : (fault : Fault) → fault_of at found.site (earlier found.first told) ≡ Some fault → (third : Stages) (after : Standing) (new : Sheet) (row : Values)
        → Moves (IsKeptBy stages stands model sheet) taken at (IsKeptBy third after model new) found.plan row (Some fault)
    moves_badly fault is third after new row = λ s A n kept plan_is here alone.
        moved_badly stages stands based model sheet taken at found ticks ticks_are s A n kept plan_is here alone ended last last_long told rests_so fault is (IsKeptBy third after model new) row
