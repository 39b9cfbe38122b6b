-- How a moment goes on or ends.
use Rattle.std.proofs.Common.{◌≡◌, refl, ap, ap₂, ◌∙◌, sym, subst, ℕ, Bool, List, [], ◌∷◌, length, map, Option, Some, None}
use Rattle.sync_values.specs.declared.value.Value.{Value}
use Rattle.flat_model.specs.declared.clock.Moment.{Moment}
use Rattle.flat_model.specs.declared.expression.Expr.{Expr}
use Rattle.flat_model.specs.declared.fault.Fault.{Fault}
use Rattle.flat_model.specs.Values.{value_in, truth_in, views_of}
use Rattle.flat_model.specs.Assignment.{Assignment}
use Rattle.flat_model.specs.Given.{Row, with_row}
use Rattle.flat_model.specs.Meaning.{value_of}
use Rattle.flat_model.specs.Moments.{moment_at}
use Rattle.flat_model.specs.Setting.{Setting, is_false}
use Rattle.flat_model.specs.Trace.{columns_of}
use Rattle.tick_plan.specs.Plans.{Planned, ticks_in_plan}
use Rattle.moment_theory.proofs.Rows.{row_now, row_before}
use Rattle.first_failure.specs.declared.least.EquationFailing.{EquationFailing}
use Rattle.moment_join.specs.Sites.{AnswerAlike}
use Rattle.moment_join.specs.Staged.{IsStaged}
use Rattle.moment_join.specs.Told.{earlier}
use Rattle.moment_join.proofs.GoesOn.{sites_alike}
use Rattle.moment_moves.specs.Moments.{fault_of, IsRunMoment, EndsWith}
use Rattle.moment_moves.proofs.Ending.{moment_ends}
use Rattle.moment_moves.proofs.Ticking.{ticks_told}
use Rattle.run_ahead.specs.Ahead.{IsAloneBefore}
use Rattle.run_moments.specs.Moving.{IsPlanTaken, HasMoved}
use Rattle.site_risings.specs.declared.answers.SiteFailing.{SiteFailing}
use Rattle.site_risings.specs.SiteFailures.{TellsFirst}
use Rattle.site_risings.specs.Risings.{NotedTo}
use Rattle.moment_body.specs.declared.model.ClockedModel.{ClockedModel}
use Rattle.moment_body.specs.declared.sheet.Sheet.{Sheet}
use Rattle.moment_body.specs.Kept.{IsKeptBy}
use Rattle.moment_body.specs.Stages.{Stages, AreStages}
use Rattle.moment_body.specs.Stepping.{Values, Standing, Based, Ended, FillsInputs, IsBefore, HasTakenPure, TakesPure, IsBetween, HasTakenRest, TakesRest, IsBehind, Keeps}
use Rattle.moment_body.proofs.Beginning.{moment_of, before_at}
use Rattle.moment_body.proofs.Noting.{first_site, answers_at, plan_at, low_at}
use Rattle.moment_body.proofs.Written.{IsWritten, sheet_still, low_next}

map_same : (f g : ℕ → Option Value) → ((x : ℕ) → f x ≡ g x) → (xs : List ℕ) → map f xs ≡ map g xs
map_same f g same [] = refl
map_same f g same (x ∷ xs) = ap₂ (λ v vs. v ∷ vs) (same x) (map_same f g same xs)

-- what was found up to the sites
pub record Noted (stages : Stages) (stands : Standing) (based : Based) (model : ClockedModel) (sheet : Sheet) (taken : Planned) (at : Moment) : Type 0 where
  pub old : Values
  pub inputs : Values
  pub base : Values
  pub first : Option EquationFailing
  pub sites : List Expr
  pub answers : List (Option Bool)
  pub low : List Bool
  pub plan : Planned
  pub lows : List Bool
  pub site : Option SiteFailing
  pub old_is : old ≡ sheet.now.items
  pub inputs_long : length inputs ≡ length old
  pub base_long : length base ≡ length inputs
  pub sites_is : sites ≡ model.clocking.sites
  pub low_is : low ≡ sheet.low.items
  pub fills : FillsInputs model at old inputs
  pub takes : TakesPure stages stands model inputs based base first
  pub answered : answers ≡ map (λ condition. truth_in (value_of condition (views_of base))) sites
  pub tells : TellsFirst base sites site
  pub noted : NotedTo answers low taken (length answers) plan lows

module _ (stages : Stages) (stands : Standing) (based : Based) (model : ClockedModel) (sheet : Sheet) (taken : Planned) (at : Moment) (found : Noted stages stands based model sheet taken at)
    (ticks : ℕ → Bool) (ticks_are : (class : ℕ) → ticks class ≡ ticks_in_plan found.plan class)
    (s : Setting) (A : Assignment) (n : ℕ) (kept : IsKeptBy stages stands model sheet s A n) (plan_is : IsPlanTaken s A n taken) (here : moment_at s.instants n ≡ Some at) (alone : IsAloneBefore s A n) where
  abbrev base : Row
  base = value_in found.base

  before : IsBefore stages stands model found.inputs s kept.uses A n
  before = before_at stages stands model sheet s A n kept at here alone.meets found.old found.inputs found.old_is found.inputs_long found.fills

  pure : HasTakenPure stages based found.inputs found.base found.first s kept.uses A n
  pure = found.takes s kept.uses A n before

  pub between : IsBetween stages based model at ticks found.answers found.base s kept.uses A n
  between = record {
    moment = moment_of stages stands model sheet s A n kept at here alone.meets;
    model_is = kept.model_is;
    wide = found.base_long ∙ before.wide;
    inputs = value_in found.inputs;
    are = before.are;
    taken = pure.taken;
    based = pure.based;
    answers_are = answers_at stages stands model sheet s A n kept at here found.base found.sites found.sites_is found.answers found.answered;
    ticks_are = λ class. ticks_are class ∙ ticks_told s (with_row A n base) n found.plan class
        (plan_at stages stands model sheet s A n kept at here found.base found.sites found.sites_is found.answers found.answered found.low found.low_is taken plan_is found.plan found.lows found.noted);
  }

  module _ (ended : Ended) (last : Values) (last_long : length last ≡ length found.base) (told : Option EquationFailing)
      (rests : TakesRest stages based model at ticks found.answers found.base ended last told) where
    rest : HasTakenRest stages ended found.base last told s kept.uses A n
    rest = rests s kept.uses A n between

    staged : IsStaged s A n stages.pure stages.pieces stages.waiting (value_in found.inputs) base rest.owns rest.row (value_in last)
    staged = record { are = before.are; first = pure.taken; alone = rest.alone; beside = rest.beside; behind = rest.waited }

    alike : AnswerAlike s A n base (value_in last)
    alike = sites_alike s kept.uses stages.pure stages.pieces stages.waiting kept.staged.are kept.staged.reach A n (value_in found.inputs) base rest.owns rest.row (value_in last) staged

    run_moment : IsRunMoment s kept.uses stages.pure stages.pieces stages.waiting A n at base (value_in last) found.site (earlier found.first told)
    run_moment = record {
      stages = kept.staged.are;
      reach = kept.staged.reach;
      alone = alone;
      here = here;
      inputs = value_in found.inputs;
      owns = rest.owns;
      row = rest.row;
      staged = staged;
      first = found.first;
      each = rest.each;
      behind = rest.behind;
      tells = record { first_told = pure.told_is; each_told = rest.each_told; no_more = rest.no_more; behind_told = rest.behind_told };
      told_is = ap (earlier found.first) rest.told_is;
      site_told = first_site stages stands model sheet s A n kept at here found.base found.sites found.sites_is found.site found.tells;
    }

    ends : EndsWith s A n (value_in last) found.plan (fault_of at found.site (earlier found.first told))
    ends = moment_ends s kept.uses stages.pure stages.pieces stages.waiting A n at base (value_in last) found.site (earlier found.first told) run_moment found.plan
        (plan_at stages stands model sheet s A n kept at here found.base found.sites found.sites_is found.answers found.answered found.low found.low_is taken plan_is found.plan found.lows found.noted)

    module _ (none : fault_of at found.site (earlier found.first told) ≡ None) where
      ends_well : EndsWith s A n (value_in last) found.plan None
      ends_well = subst (EndsWith s A n (value_in last) found.plan) none ends

      pub behind : IsBehind stages ended last s kept.uses A n base
      behind = record {
        at = at;
        moment = moment_of stages stands model sheet s A n kept at here alone.meets;
        wide = last_long ∙ found.base_long ∙ before.wide;
        ended = rest.ended;
        alike = alike;
        meets = ends_well.0.meets;
      }

      pub moved_well : (next : Stages) → next ≡ stages → (after : Standing) → Keeps stages ended last after → (new : Sheet) → IsWritten sheet new last found.lows
          → HasMoved (IsKeptBy next after model new) s A n found.plan new.row.items None
      moved_well next same after keeps new written = record {
        after = with_row A n (value_in last);
        agrees = λ x k lt. sym (row_before A n (value_in last) x k lt);
        ends = (
          ends_well.0,
          record {
            model_is = kept.model_is;
            sheet_is = sheet_still s sheet new last found.lows kept.sheet_is written;
            uses = kept.uses;
            staged = subst (AreStages s kept.uses) (sym same) kept.staged;
            low = low_next s (with_row A n (value_in last)) n sheet new last found.lows written (λ site.
                low_at stages stands model sheet s A n kept at here found.base found.sites found.sites_is found.answers found.answered found.low found.low_is taken plan_is found.plan found.lows found.noted site
                ∙ ap is_false (alike.answers site));
            stands_for = keeps s kept.uses A n base behind;
          },
          ends_well.1,
          written.row_is ∙ ap (λ l. map (λ x. value_in last x) l) kept.sheet_is.columns ∙ map_same (λ x. value_in last x) (λ x. with_row A n (value_in last) x n) (λ x. sym (row_now A n (value_in last) x)) (columns_of s.model.names),
        );
      }

    pub moved_badly : (fault : Fault) → fault_of at found.site (earlier found.first told) ≡ Some fault → (after : Setting → Assignment → ℕ → Type 0) (row : Values) → HasMoved after s A n found.plan row (Some fault)
    moved_badly fault is after row =
        let bad = subst (EndsWith s A n (value_in last) found.plan) is ends in record {
          after = A;
          agrees = λ x k lt. refl;
          ends = (alone, bad.0, bad.1, bad.2);
        }
