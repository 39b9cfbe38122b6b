-- A window that shares ran side by side, moment by moment.
use Rattle.std.proofs.Common.{◌≡◌, refl, ap, ◌∙◌, sym, subst, ℕ, zero, suc, ◌+◌, ◌<◌, ◌≤◌, List, length, Option, Some, None, slice_get, inl, inr, arith}
use Rattle.std.proofs.lemmas.Bool.{cases_eq}
use Rattle.std.proofs.lemmas.Option.{same_Some}
use Rattle.first_failure.specs.declared.least.EquationFailing.{EquationFailing}
use Rattle.flat_model.specs.Values.{value_in}
use Rattle.flat_model.specs.Assignment.{Assignment}
use Rattle.flat_model.specs.Setting.{Setting}
use Rattle.flat_model.specs.Uses.{Use}
use Rattle.moment_body.specs.Stages.{Stages}
use Rattle.moment_theory.specs.Free.{IsReachedBy}
use Rattle.partition_step.proofs.Lists.{some_at}
use Rattle.run_ahead.specs.Ahead.{IsAloneBefore}
use Rattle.share_join.specs.Shares.{own_uses, AreSharesOf}
use Rattle.share_join.proofs.Places.{at_map}
use Rattle.share_run.specs.Standing.{IsShareBefore}
use Rattle.share_window.specs.Windows.{ArePlanned, GoesByShare}
use Rattle.side_theory.specs.Typed.{valued_before}
use Rattle.window_join.specs.Moments.{IsRunAt, AreRun}
use Rattle.window_join.proofs.Windowed.{alone_behind}
use Rattle.window_plan.specs.declared.moment.PlannedMoment.{PlannedMoment}
use Rattle.window_plan.specs.Moments.{base_of, AnswersAs}
use Rattle.window_shares.specs.Sharing.{ShareRan, share_in, shares_in, stages_by, HaveRun, AreQuiet, told_by, HasWindow}
use Rattle.window_shares.proofs.Joined.{Joined, joined_window}
use Rattle.window_shares.proofs.Moment as one

module _ (s : Setting) (uses : List Use) (stages : Stages) (moments : List PlannedMoment) (A : Assignment) (n : ℕ) (runs : List ShareRan) (count : ℕ) (shares_are : AreSharesOf s uses stages.pure (shares_in runs))
    (alone : IsAloneBefore s A n) (planned : ArePlanned s uses stages A n moments) (have : HaveRun s uses moments A n runs) (quiet : AreQuiet moments runs count) (joint : Joined s uses moments A n runs have) where
  abbrev U : Assignment
  U = joint.after

  abbrev whole : Stages
  whole = stages_by stages.pure (shares_in runs)

  abbrev Goes : ℕ → Type 0
  Goes j = one.GoesSoFar s uses stages moments A n runs shares_are planned have joint j

  -- U has the first moments, and each was run
  record IsSoFar (j : ℕ) : Type 0 where
    goes : Goes j
    run : AreRun s uses whole U n j

  alone_far : (j : ℕ) → IsSoFar j → IsAloneBefore s U (n + j)
  alone_far j far = alone_behind s uses whole U A n j joint.agrees alone far.run

  far_first : IsSoFar 0
  far_first = record {
    goes = record {
      goes = record {
        valued = λ k lt. valued_before s U n (let moved = alone_behind s uses whole U A n 0 joint.agrees alone (λ i under. absurd (omega (arith, under))) in λ l under. moved.meets l (omega (arith, under))) k (omega (arith, lt));
        alike = λ i moment lt. absurd (omega (arith, lt));
      };
      values = λ i ran found k x lt. absurd (omega (arith, lt));
    };
    run = λ i lt. absurd (omega (arith, lt));
  }

  module _ (j : ℕ) (lt : j < count) (far : IsSoFar j) (moment : PlannedMoment) (here : slice_get moments j ≡ Some moment) where
    on : (i : ℕ) (ran : ShareRan) → slice_get runs i ≡ Some ran → j < ran.done
    on i ran found = let le = quiet.went i ran found in omega (arith, lt, le)

    not_past : (i : ℕ) (ran : ShareRan) → slice_get runs i ≡ Some ran → j ≤ ran.done
    not_past i ran found = let le = on i ran found in omega (arith, le)

    run_next : AreRun s uses whole U n (suc j)
    run_next i under before = elim (cases_eq i j) [
      | inl at ↦ subst (λ k. IsRunAt s uses whole U (n + k) None None) (sym at)
          (one.run_well s uses stages moments A n runs shares_are planned have joint j moment here far.goes not_past (quiet.quiet j moment lt here) on (subst (λ k. IsAloneBefore s U (n + k)) at before))
      | inr away ↦ far.run i (omega (arith, under, away)) before
    ]

    alone_next : IsAloneBefore s U (n + suc j)
    alone_next = alone_behind s uses whole U A n (suc j) joint.agrees alone run_next

    alike_next : (i : ℕ) (other : PlannedMoment) → i < suc j → slice_get moments i ≡ Some other → AnswersAs s U (n + i) (base_of other)
    alike_next i other under there = elim (cases_eq i j) [
      | inl at ↦
          let same : moment ≡ other = same_Some moment other (sym here ∙ subst (λ k. slice_get moments k ≡ Some other) at there) in
          subst (λ k. AnswersAs s U (n + k) (base_of other)) (sym at) (subst (λ p. AnswersAs s U (n + j) (base_of p)) same
          (one.alike_here s uses stages moments A n runs shares_are planned have joint j moment here far.goes not_past (alone_far j far)))
      | inr away ↦ far.goes.goes.alike i other (omega (arith, under, away)) there
    ]

    values_next : (i : ℕ) (ran : ShareRan) (found : slice_get runs i ≡ Some ran) (k x : ℕ) → k < suc j → (IsReachedBy x (one.others s uses stages moments A n runs shares_are planned have joint i) → ⊥) → U x (n + k) ≡ value_in ((have i ran found).lasts k) x
    values_next i ran found k x under away = elim (cases_eq k j) [
      | inl at ↦ subst (λ l. U x (n + l) ≡ value_in ((have i ran found).lasts l) x) (sym at) (one.values_here s uses stages moments A n runs shares_are planned have joint j moment here far.goes not_past i ran found x away)
      | inr other ↦ far.goes.values i ran found k x (omega (arith, under, other)) away
    ]

    far_next : IsSoFar (suc j)
    far_next = record {
      goes = record {
        goes = record { valued = valued_before s U (n + suc j) alone_next.meets; alike = alike_next };
        values = values_next;
      };
      run = run_next;
    }

  so_far : (j : ℕ) → j ≤ count → IsSoFar j
  so_far zero le = far_first
  so_far (suc j) le =
      let (moment, here) = some_at moments j (let within = quiet.within in omega (arith, le, within)) in
      far_next j (omega (arith, le)) (so_far j (omega (arith, le))) moment here

  -- ---- behind the last moment at which nothing failed

  behind : IsSoFar count
  behind = so_far count (omega arith)

  stops : (moment : PlannedMoment) → slice_get moments count ≡ Some moment → IsRunAt s uses whole U (n + count) moment.site (told_by moment runs count)
  stops moment here = one.run_here s uses stages moments A n runs shares_are planned have joint count moment here behind.goes quiet.went (alone_far count behind)

  stand : count ≡ length moments → (i : ℕ) (ran : ShareRan) → slice_get runs i ≡ Some ran → IsShareBefore s uses (one.others s uses stages moments A n runs shares_are planned have joint i) U (n + count) ran.new
  stand all i ran found = by_told ran.told refl
    where
      by_told : (o : Option EquationFailing) → ran.told ≡ o → IsShareBefore s uses (one.others s uses stages moments A n runs shares_are planned have joint i) U (n + count) ran.new
      by_told None none =
          let run = have i ran found in
          let same : count ≡ ran.done = all ∙ sym (run.whole none) in
          subst (λ k. IsShareBefore s uses (one.others s uses stages moments A n runs shares_are planned have joint i) U (n + k) ran.new) (sym same)
          (run.stands none U joint.agrees (subst (GoesByShare s (one.others s uses stages moments A n runs shares_are planned have joint i) U n moments (λ k. value_in (run.lasts k))) same
          (one.by_share s uses stages moments A n runs shares_are planned have joint count behind.goes i ran found)))
      by_told (Some failing) fails = absurd (let lt = (have i ran found).within failing fails in let le = quiet.went i ran found in omega (arith, all, lt, le))

  -- a name that a share reaches has the value that its row shows
  shown : (i : ℕ) (ran : ShareRan) (j at name : ℕ) → slice_get runs i ≡ Some ran → j < count → slice_get ran.own at ≡ Some name → at < length (ran.rows j) → IsReachedBy name (own_uses (share_in ran))
      → U name (n + j) ≡ value_in (ran.rows j) at
  shown i ran j at name found lt named wide reached =
      let (moment, here) = some_at moments j (let within = quiet.within in omega (arith, lt, within)) in
      let share = share_in ran in
      (joint.joins j moment here).own i (own_uses share) name (at_map own_uses (shares_in runs) i share (at_map share_in runs i ran found)) reached
      ∙ ap (λ row. value_in (row j) name) (joint.lasts_are i ran found)
      ∙ sym ((have i ran found).shown j at name (let le = quiet.went i ran found in omega (arith, lt, le)) named wide)

  pub window_is : HasWindow s uses stages.pure moments A n runs have count U
  window_is = record {
    agrees = joint.agrees;
    alone = alone_far count behind;
    goes = behind.goes.goes;
    beside = one.by_share s uses stages moments A n runs shares_are planned have joint count behind.goes;
    shown = shown;
    rest = λ j x moment lt here none. (joint.joins j moment here).rest x none;
    run = behind.run;
    stops = stops;
    stand = stand;
  }

pub across : (s : Setting) (uses : List Use) (stages : Stages) (moments : List PlannedMoment) (A : Assignment) (n : ℕ) (runs : List ShareRan) (count : ℕ) → AreSharesOf s uses stages.pure (shares_in runs)
    → IsAloneBefore s A n → ArePlanned s uses stages A n moments → (have : HaveRun s uses moments A n runs) → AreQuiet moments runs count → (U : Assignment) × HasWindow s uses stages.pure moments A n runs have count U
across s uses stages moments A n runs count shares_are alone planned have quiet =
    let joint = joined_window s uses stages.pure moments A n runs shares_are have in
    (joint.after, window_is s uses stages moments A n runs count shares_are alone planned have quiet joint)
