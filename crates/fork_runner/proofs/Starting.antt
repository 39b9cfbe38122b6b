-- A runner that was prepared stands before its first moment.
use Rattle.std.proofs.Common.{◌≡◌, refl, sym, subst, ap, ◌∙◌, ℕ, zero, suc, ◌^◌, ◌<◌, false, List, map, length, None, unwrap_or, slice_get, replicate, arith}
use Rattle.std.proofs.lemmas.List.{length-replicate}
use Rattle.flat_model.specs.declared.clock.Clocking.{Clocking}
use Rattle.flat_model.specs.Assignment.{Assignment}
use Rattle.flat_model.specs.Setting.{Setting}
use Rattle.flat_model.specs.Trace.{columns_of}
use Rattle.eq_order.specs.declared.uses.Use as answered
use Rattle.eq_order.specs.Order.{use_of}
use Rattle.tick_plan.specs.Plans.{Planned, counted}
use Rattle.site_risings.specs.Risings.{was_low}
use Rattle.run_ahead.specs.Ahead.{IsAloneBefore, Stands}
use Rattle.run_moments.specs.Moving.{IsPlanBefore, one_window}
use Rattle.moment_body.specs.declared.model.ClockedModel.{ClockedModel}
use Rattle.moment_body.specs.declared.sheet.Sheet.{Sheet}
use Rattle.moment_body.specs.Kept.{IsKeptBy, IsSheetOf, AreLow}
use Rattle.moment_steps.specs.declared.staged.StagedSteps.{StagedSteps}
use Rattle.moment_steps.specs.Steps.{stages_of, stands_of}
use Rattle.steps_ready.specs.Ready.{ArePrepared}
use Rattle.fork_runner.specs.Preparing.{IsPrepared, IsNewSheet, new_plan}

-- where no site was noted nothing is counted
none_counted : (n site : ℕ) → unwrap_or (slice_get (counted (replicate n 0) (replicate n false)) site) 0 ≡ 0
none_counted zero site = refl
none_counted (suc n) zero = refl
none_counted (suc n) (suc site) = none_counted n site

none_low : (n site : ℕ) → was_low (replicate n false) site ≡ false
none_low zero site = refl
none_low (suc n) zero = refl
none_low (suc n) (suc site) = none_low n site

zeros : (n x : ℕ) → length (replicate n x) ≡ n
zeros n x = length-replicate n x

-- a new plan is one before the first moment
new_before : (s : Setting) (S : Assignment) → IsPlanBefore s S 0 (new_plan s)
new_before s S = record {
  clocks = refl;
  ahead = refl;
  sites = length-replicate (length s.clocking.sites) false ∙ sym (zeros (length s.clocking.sites) 0);
  own = length-replicate (length s.clocking.sites) false;
  risings = λ site. none_counted (length s.clocking.sites) site;
}

module _ (s : Setting) (model : ClockedModel) (order : List answered.Use) (plan : Planned) (steps : StagedSteps) (sheet : Sheet)
    (prepared : IsPrepared s model.flat model.clocking order model.table plan) (fresh : IsNewSheet model.flat model.clocking sheet) (few : length model.clocking.sites < 2 ^ 32)
    (ready : ArePrepared model.flat model.clocking order steps) where
  sheet_is : IsSheetOf s sheet
  sheet_is = record {
    columns = fresh.columns ∙ ap (λ m. columns_of m.names) (sym prepared.from.model);
    few = subst (λ (c : Clocking). length c.sites < 2 ^ 32) (sym prepared.from.clocking_is) few;
    now = fresh.now ∙ ap (λ m. length m.names) (sym prepared.from.model);
    answers = fresh.answers ∙ ap (λ (c : Clocking). length c.sites) (sym prepared.from.clocking_is);
    low = ap length fresh.low ∙ length-replicate (length model.clocking.sites) false ∙ ap (λ (c : Clocking). length c.sites) (sym prepared.from.clocking_is);
    row = fresh.row ∙ ap (λ m. length (columns_of m.names)) (sym prepared.from.model);
  }

  low_is : (S : Assignment) → AreLow s S 0 sheet
  low_is S = record {
    before = λ site k none. absurd (let e : 0 ≡ suc k = none in omega (arith, e));
    first = λ site none. ap (λ low. was_low low site) fresh.low ∙ none_low (length model.clocking.sites) site;
  }

  kept : (S : Assignment) → IsKeptBy (stages_of steps) (stands_of steps) model sheet s S 0
  kept S = record {
    model_is = record { flat = sym prepared.from.model; clocking = sym prepared.from.clocking_is; table = sym prepared.table_is };
    sheet_is = sheet_is;
    uses = map use_of order;
    staged = (ready s prepared.from).staged;
    low = low_is S;
    stands_for = (ready s prepared.from).stand S;
  }

  nothing_before : (S : Assignment) → IsAloneBefore s S 0
  nothing_before S = record { meets = λ k lt. absurd (omega (arith, lt)); only = λ k le T meets x j lt. absurd (omega (arith, le, lt)) }

  -- it stands for every assignment
  pub first_stands : (S : Assignment) → Stands (λ t A n. IsKeptBy (stages_of steps) (stands_of steps) model sheet t A n × IsPlanBefore t A n plan) (record { window = one_window None sheet.row.items None; given = 0 }) s S 0
  first_stands S = record {
    some = prepared.some;
    ahead = S;
    agrees = λ x k lt. refl;
    run = 0;
    run_is = refl;
    within = omega arith;
    alone = nothing_before S;
    shows = record { moments = λ j lt. absurd (omega (arith, lt)); there = λ j lt. absurd (omega (arith, lt)); rows = λ j lt. absurd (omega (arith, lt)) };
    ends = (kept S, subst (λ p. IsPlanBefore s S 0 p) (sym prepared.plan_is) (new_before s S));
  }
