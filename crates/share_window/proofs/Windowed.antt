-- A share over the moments of a window, one behind the other.
use Rattle.std.proofs.Common.{◌≡◌, ◌≢◌, refl, ap, ◌∙◌, sym, subst, ℕ, suc, ◌+◌, ◌<◌, ◌≤◌, ◌==◌, List, [], ◌++◌, length, Option, Some, None, slice_get, if◌then◌else◌, eq-eqb, ne_eqb, inl, inr, arith}
use Rattle.std.proofs.lemmas.Bool.{cases_eq, cases_lt}
use Rattle.std.proofs.lemmas.Option.{none-some, same_Some, slice_get_past}
use Rattle.sync_values.specs.declared.value.Value.{Value}
use Rattle.first_failure.specs.declared.least.EquationFailing.{EquationFailing}
use Rattle.first_failure.specs.Turns.{FailsAmong, IsLeast}
use Rattle.flat_model.specs.Values.{value_in}
use Rattle.flat_model.specs.Assignment.{Assignment}
use Rattle.flat_model.specs.Given.{with_row}
use Rattle.flat_model.specs.Setting.{Setting, flattened}
use Rattle.flat_model.specs.Uses.{Use}
use Rattle.flat_model.proofs.OneSolution.{AreSitesUnclocked}
use Rattle.flat_model.proofs.Sites.{class_ticks_by_site}
use Rattle.moment_body.specs.declared.model.ClockedModel.{ClockedModel}
use Rattle.moment_body.specs.Stages.{Stages}
use Rattle.moment_moves.specs.Moments.{IsFirstSite}
use Rattle.moment_steps.specs.Ticked.{row_ticks}
use Rattle.moment_theory.specs.Division.{joined}
use Rattle.moment_theory.specs.Free.{IsReachedBy}
use Rattle.moment_theory.specs.Going.{AgreeBefore}
use Rattle.moment_theory.proofs.Rows.{row_before}
use Rattle.moment_theory.proofs.Settled.{model}
use Rattle.partition_step.specs.Writing.{IsWritten}
use Rattle.partition_step.proofs.Lists.{some_at, written_at}
use Rattle.share_run.specs.Shares.{IsShareOf}
use Rattle.share_run.specs.Standing.{Holding, IsShareBefore, division_of, pieces_of}
use Rattle.share_run.specs.Taking.{Values, plan_of, IsShareAt, CanTakeShare, GoesOnBeside, HasNext, TakesShare, KeepsShare, GoesOnShare}
use Rattle.share_window.specs.private.Owning.{own_from, own_by}
use Rattle.share_window.specs.Windows.{GoesByShare, IsShareWindow, CanRunShare, WasTaken, HasRunShare}
use Rattle.share_window.proofs.Moved.{over_row, answers_moved, valued_moved, before_moved}
use Rattle.side_theory.specs.Typed.{AreValuedAt}
use Rattle.tree_step.specs.Starts.{uses_of}
use Rattle.window_plan.specs.declared.moment.PlannedMoment.{PlannedMoment}
use Rattle.window_plan.specs.Moments.{base_of, AnswersAs, IsPlannedAt, IsQuiet}

-- ---- rows of moments

-- the values of one moment more
abbrev placed : (ℕ → Values) → ℕ → Values → ℕ → Values
placed lasts done last j = if j == done then last else lasts j

placed_here : (lasts : ℕ → Values) (done : ℕ) (last : Values) → placed lasts done last done ≡ last
placed_here lasts done last = ap (λ b. if b then last else lasts done) (eq-eqb done done refl)

placed_before : (lasts : ℕ → Values) (done : ℕ) (last : Values) (j : ℕ) → j < done → placed lasts done last j ≡ lasts j
placed_before lasts done last j lt = ap (λ b. if b then last else lasts j) (ne_eqb j done (λ e. omega (arith, e, lt)))

-- what goes by moments goes by fewer of them, and by the same rows
fewer : (s : Setting) (others : List Use) (U : Assignment) (n : ℕ) (moments : List PlannedMoment) (rows other : ℕ → Values) (count less : ℕ) → less ≤ count → ((j : ℕ) → j < less → rows j ≡ other j)
    → GoesByShare s others U n moments (λ i. value_in (rows i)) count → GoesByShare s others U n moments (λ i. value_in (other i)) less
fewer s others U n moments rows other count less le same goes = record {
  goes = record {
    valued = λ m lt. goes.goes.valued m (omega (arith, lt, le));
    alike = λ j moment lt. goes.goes.alike j moment (omega (arith, lt, le));
  };
  values = λ j x lt own. goes.values j x (omega (arith, lt, le)) own ∙ ap (λ row. value_in row x) (same j lt);
}

place_below : (moments : List PlannedMoment) (j : ℕ) (moment : PlannedMoment) → slice_get moments j ≡ Some moment → j < length moments
place_below moments j moment found = elim (cases_lt j (length moments)) [
  | inl lt ↦ lt
  | inr past ↦ absurd (none-some moment (sym (slice_get_past moments j past) ∙ found))
]

-- ---- what a share left so far

-- it was taken at the first moments of a window, where nothing of it failed, and something goes by them where one more is left
pub record HasRunSoFar (h new : Holding) (moments : List PlannedMoment) (own : List ℕ) (rows : ℕ → List (Option Value)) (done : ℕ) (s : Setting) (uses others : List Use) (A : Assignment) (n : ℕ) : Type 0 where
  pub same : pieces_of new ≡ pieces_of h
  pub waiting : new.waiting ≡ h.waiting
  pub lasts : ℕ → Values
  pub taken : (U : Assignment) → AgreeBefore A U n → (j : ℕ) (moment : PlannedMoment) → j < done → slice_get moments j ≡ Some moment → GoesByShare s others U n moments (λ i. value_in (lasts i)) j → WasTaken h moment (lasts j) None s uses others U (n + j)
  pub shown : (j at name : ℕ) → j < done → slice_get own at ≡ Some name → at < length (rows j) → value_in (rows j) at ≡ value_in (lasts j) name
  pub stands : (U : Assignment) → AgreeBefore A U n → GoesByShare s others U n moments (λ i. value_in (lasts i)) done → IsShareBefore s uses others U (n + done) new
  pub next : done < length moments → (S : Assignment) × AgreeBefore A S n × GoesByShare s others S n moments (λ i. value_in (lasts i)) done

-- whatever run it is
abbrev pub RunsSoFar : Holding → Holding → ClockedModel → List PlannedMoment → Values → List ℕ → (ℕ → List (Option Value)) → ℕ → Type 0
RunsSoFar h new flat moments now own rows done =
    (s : Setting) (uses : List Use) (stages : Stages) (others : List Use) (A : Assignment) (n : ℕ) → IsShareWindow h flat moments now s uses stages others A n → HasRunSoFar h new moments own rows done s uses others A n

pub run_first : (h : Holding) (flat : ClockedModel) (moments : List PlannedMoment) (now : Values) (own : List ℕ) (rows : ℕ → List (Option Value)) → RunsSoFar h h flat moments now own rows 0
run_first h flat moments now own rows s uses stages others A n is =
    let first : n ≡ n + 0 = omega arith in record {
      same = refl;
      waiting = refl;
      lasts = λ j. [];
      taken = λ U agrees j moment lt. absurd (omega (arith, lt));
      shown = λ j at name lt. absurd (omega (arith, lt));
      stands = λ U agrees goes. subst (λ m. IsShareBefore s uses others U m h) first (before_moved s A U n agrees uses others h is.before);
      next = λ some. (
        A,
        λ x k lt. refl,
        record {
          goes = record { valued = λ m lt. is.valued m (omega (arith, lt)); alike = λ j moment lt. absurd (omega (arith, lt)) };
          values = λ j x lt. absurd (omega (arith, lt));
        },
      );
    }

-- ---- one moment more

module _ (h new : Holding) (flat : ClockedModel) (moments : List PlannedMoment) (now : Values) (own : List ℕ) (rows : ℕ → List (Option Value)) (done : ℕ) (s : Setting) (uses : List Use) (stages : Stages) (others : List Use) (A : Assignment) (n : ℕ)
    (is : IsShareWindow h flat moments now s uses stages others A n) (far : HasRunSoFar h new moments own rows done s uses others A n) (moment : PlannedMoment) (found : slice_get moments done ≡ Some moment) where
  abbrev Goes : Assignment → Type 0
  Goes U = GoesByShare s others U n moments (λ i. value_in (far.lasts i)) done

  within : done < length moments
  within = place_below moments done moment found

  division : IsShareOf s uses (division_of stages.pure others new)
  division =
      subst (λ waiting. IsShareOf s uses (record { pure = stages.pure; pieces = pieces_of new; waiting = uses_of waiting; others = others })) (sym far.waiting)
      (subst (λ pieces. IsShareOf s uses (record { pure = stages.pure; pieces = pieces; waiting = uses_of h.waiting; others = others })) (sym far.same) is.division)

  unclocked : AreSitesUnclocked s
  unclocked = (model s uses (stages.pure ++ (joined (pieces_of h) ++ (uses_of h.waiting ++ others))) is.division.staged.ordered).unclocked

  module _ (U : Assignment) (agrees : AgreeBefore A U n) (goes : Goes U) where
    planned : IsPlannedAt s uses stages U (n + done) moment
    planned = is.planned U agrees done moment found goes.goes

    share_at : IsShareAt new flat (plan_of moment) moment.base.items s uses stages.pure others U (n + done)
    share_at = record {
      division = division;
      model_is = is.model_is;
      here = planned.here;
      valued = goes.goes.valued;
      wide = planned.room.base;
      inputs = planned.inputs;
      are = planned.are;
      taken = planned.taken;
      answers_are = planned.answers_are;
      ticks_are = planned.ticks_are;
      before = far.stands U agrees goes;
    }

  -- the room of a moment
  moment_wide : length now ≡ length moment.base.items
  moment_wide = let (S, agrees, goes) = far.next within in is.wide ∙ sym (planned S agrees goes).room.base

  can_take : CanTakeShare new flat (plan_of moment) moment.base.items
  can_take = let (S, agrees, goes) = far.next within in (s, uses, stages.pure, others, S, n + done, share_at S agrees goes)

  module _ (newer : Holding) (last : Values) (told : Option EquationFailing) (waits : newer.waiting ≡ new.waiting) (takes : TakesShare new flat (plan_of moment) newer.slots moment.base.items last told) where
    abbrev lasts : ℕ → Values
    lasts = placed far.lasts done last

    before : (U : Assignment) (count less : ℕ) → less ≤ count → less ≤ done → GoesByShare s others U n moments (λ i. value_in (lasts i)) count → GoesByShare s others U n moments (λ i. value_in (far.lasts i)) less
    before U count less le early = fewer s others U n moments lasts far.lasts count less le (λ j lt. placed_before far.lasts done last j (omega (arith, lt, early)))

    same_next : pieces_of newer ≡ pieces_of h
    same_next = let (S, agrees, goes) = far.next within in (takes s uses stages.pure others S (n + done) (share_at S agrees goes)).same ∙ far.same

    was_taken : (U : Assignment) (agrees : AgreeBefore A U n) (goes : Goes U) → WasTaken h moment last told s uses others U (n + done)
    was_taken U agrees goes = record {
      held = new;
      slots = newer.slots;
      pieces = far.same;
      waiting = far.waiting;
      taken = takes s uses stages.pure others U (n + done) (share_at U agrees goes);
    }

    -- the moments before it
    taken_before : (U : Assignment) → AgreeBefore A U n → (j : ℕ) (other : PlannedMoment) → j < done → slice_get moments j ≡ Some other → GoesByShare s others U n moments (λ i. value_in (lasts i)) j → WasTaken h other (lasts j) None s uses others U (n + j)
    taken_before U agrees j other lt there goes =
        subst (λ row. WasTaken h other row None s uses others U (n + j)) (sym (placed_before far.lasts done last j lt)) (far.taken U agrees j other lt there (before U j j (omega arith) (omega (arith, lt)) goes))

    shown_before : (j at name : ℕ) → j < done → slice_get own at ≡ Some name → at < length (rows j) → value_in (rows j) at ≡ value_in (lasts j) name
    shown_before j at name lt named wide = far.shown j at name lt named wide ∙ ap (λ row. value_in row name) (sym (placed_before far.lasts done last j lt))

    -- what fails ends the run
    run_failed : (told ≡ None → ⊥) → HasRunShare h newer moments own rows done told s uses others A n
    run_failed fails = record {
      same = same_next;
      lasts = lasts;
      taken = taken_before;
      shown = shown_before;
      fails = λ failing is_told U agrees other there goes.
          subst (λ row. WasTaken h other row told s uses others U (n + done)) (sym (placed_here far.lasts done last))
          (subst (λ m. WasTaken h m last told s uses others U (n + done)) (same_Some moment other (sym found ∙ there)) (was_taken U agrees (before U done done (omega arith) (omega arith) goes)));
      within = λ failing is_told. within;
      whole = λ none. absurd (fails none);
      stands = λ none. absurd (fails none);
    }

    module _ (none : told ≡ None) (goes_on : GoesOnShare new flat (plan_of moment) moment.base.items last told) (keeps : KeepsShare new newer flat (plan_of moment) moment.base.items last told) where
      -- what goes by the moment too goes on beside the others
      beside : (U : Assignment) (agrees : AgreeBefore A U n) → (goes : GoesByShare s others U n moments (λ i. value_in (lasts i)) (done + 1)) → GoesOnBeside s others U (n + done) (value_in last) (row_ticks moment.ticks.items) U
      beside U agrees goes =
          let early : Goes U = before U (done + 1) done (omega arith) (omega arith) goes in
          let plan = planned U agrees early in record {
            agrees = λ x k lt. refl;
            meets = goes.goes.valued (n + done) (omega arith);
            values = λ x alone. goes.values done x (omega arith) alone ∙ ap (λ row. value_in row x) (placed_here far.lasts done last);
            ticks_are = λ class. plan.ticks_are class
                ∙ class_ticks_by_site s (with_row U (n + done) (base_of moment)) U (Some class) (n + done) (row_before U (n + done) (base_of moment)) (λ site factor shift e. goes.goes.alike done moment (omega arith) found site);
          }

      stands_next : (U : Assignment) → AgreeBefore A U n → GoesByShare s others U n moments (λ i. value_in (lasts i)) (done + 1) → IsShareBefore s uses others U (n + (done + 1)) newer
      stands_next U agrees goes =
          let early : Goes U = before U (done + 1) done (omega arith) (omega arith) goes in
          let later : suc (n + done) ≡ n + (done + 1) = omega arith in
          subst (λ m. IsShareBefore s uses others U m newer) later (keeps none s uses stages.pure others U (n + done) (share_at U agrees early) U (beside U agrees goes))

      taken_next : (U : Assignment) → AgreeBefore A U n → (j : ℕ) (other : PlannedMoment) → j < done + 1 → slice_get moments j ≡ Some other → GoesByShare s others U n moments (λ i. value_in (lasts i)) j → WasTaken h other (lasts j) None s uses others U (n + j)
      taken_next U agrees j other lt there goes = elim (cases_eq j done) [
        | inl here ↦
            let goes_here : GoesByShare s others U n moments (λ i. value_in (lasts i)) done = subst (GoesByShare s others U n moments (λ i. value_in (lasts i))) here goes in
            let same : moment ≡ other = same_Some moment other (sym found ∙ subst (λ k. slice_get moments k ≡ Some other) here there) in
            subst (λ k. WasTaken h other (lasts k) None s uses others U (n + k)) (sym here)
            (subst (λ row. WasTaken h other row None s uses others U (n + done)) (sym (placed_here far.lasts done last))
            (subst (λ m. WasTaken h m last None s uses others U (n + done)) same
            (subst (λ o. WasTaken h moment last o s uses others U (n + done)) none (was_taken U agrees (before U done done (omega arith) (omega arith) goes_here)))))
        | inr away ↦ taken_before U agrees j other (omega (arith, lt, away)) there goes
      ]

      -- something goes by this moment too, where it is quiet
      module _ (S : Assignment) (agrees : AgreeBefore A S n) (goes : Goes S) (quiet : IsQuiet moment) where
        abbrev m : ℕ
        m = n + done

        has_next : HasNext s others S m (base_of moment) (value_in last) (row_ticks moment.ticks.items)
        has_next =
            let plan = planned S agrees goes in
            goes_on none s uses stages.pure others S m (share_at S agrees goes) (record {
              pure_told = subst (IsLeast (FailsAmong s uses S m stages.pure (base_of moment))) quiet.told plan.told_is;
              site_told = subst (IsFirstSite s (with_row S m (base_of moment)) m) quiet.site plan.site_is;
            })

        abbrev T : Assignment
        T = has_next.next

        old : AgreeBefore S T m
        old = has_next.goes_on.agrees

        valued_at_next : (k : ℕ) → k < n + (done + 1) → AreValuedAt s T k
        valued_at_next k lt = elim (cases_eq k m) [
          | inl here ↦ subst (AreValuedAt s T) (sym here) has_next.goes_on.meets
          | inr away ↦
              let less : k < m = omega (arith, lt, away) in
              valued_moved s S T k (λ x j le. old x j (omega (arith, le, less))) (goes.goes.valued k less)
        ]

        alike_at_next : (j : ℕ) (other : PlannedMoment) → j < done + 1 → slice_get moments j ≡ Some other → AnswersAs s T (n + j) (base_of other)
        alike_at_next j other lt there = elim (cases_eq j done) [
          | inl here ↦
              let same : moment ≡ other = same_Some moment other (sym found ∙ subst (λ k. slice_get moments k ≡ Some other) here there) in
              let now_alike : AnswersAs s T m (base_of moment) = λ site. over_row s unclocked T S m (base_of moment) site ∙ has_next.alike site in
              subst (λ k. AnswersAs s T (n + k) (base_of other)) (sym here) (subst (λ p. AnswersAs s T m (base_of p)) same now_alike)
          | inr away ↦
              let less : j < done = omega (arith, lt, away) in
              answers_moved s unclocked S T (n + j) (base_of other) (λ y. old y (n + j) (omega (arith, less))) (goes.goes.alike j other less there)
        ]

        values_next : (j x : ℕ) → j < done + 1 → (IsReachedBy x others → ⊥) → T x (n + j) ≡ value_in (lasts j) x
        values_next j x lt alone = elim (cases_eq j done) [
          | inl here ↦ subst (λ k. T x (n + k) ≡ value_in (lasts k) x) (sym here) (has_next.goes_on.values x alone ∙ ap (λ row. value_in row x) (sym (placed_here far.lasts done last)))
          | inr away ↦
              let less : j < done = omega (arith, lt, away) in
              sym (old x (n + j) (omega (arith, less))) ∙ goes.values j x less alone ∙ ap (λ row. value_in row x) (sym (placed_before far.lasts done last j less))
        ]

        goes_next : (S : Assignment) × AgreeBefore A S n × GoesByShare s others S n moments (λ i. value_in (lasts i)) (done + 1)
        goes_next = (
          T,
          λ x k lt. agrees x k lt ∙ old x k (omega (arith, lt)),
          record {
            goes = record { valued = valued_at_next; alike = alike_at_next };
            values = values_next;
          },
        )

      next_one : done + 1 < length moments → (S : Assignment) × AgreeBefore A S n × GoesByShare s others S n moments (λ i. value_in (lasts i)) (done + 1)
      next_one more = let (S, agrees, goes) = far.next within in goes_next S agrees goes (is.quiet done moment (omega (arith, more)) found)

      module _ (rows_next : ℕ → List (Option Value)) (written : IsWritten (own_by own last) (rows done) (rows_next done)) (kept : (j : ℕ) → j ≢ done → rows_next j ≡ rows j) where
        shown_here : (at name : ℕ) → slice_get own at ≡ Some name → at < length (rows_next done) → value_in (rows_next done) at ≡ value_in last name
        shown_here at name named wide =
            let (there, there_is) = some_at (rows done) at (let size = written.size in omega (arith, wide, size)) in
            ap flattened (written_at (own_by own last) (rows done) (rows_next done) at there written there_is ∙ ap (λ o. Some (own_from o last there)) named)

        shown_next : (j at name : ℕ) → j < done + 1 → slice_get own at ≡ Some name → at < length (rows_next j) → value_in (rows_next j) at ≡ value_in (lasts j) name
        shown_next j at name lt named wide = elim (cases_eq j done) [
          | inl here ↦
              subst (λ k. value_in (rows_next k) at ≡ value_in (lasts k) name) (sym here)
              (shown_here at name named (subst (λ k. at < length (rows_next k)) here wide) ∙ ap (λ row. value_in row name) (sym (placed_here far.lasts done last)))
          | inr away ↦
              ap (λ row. value_in row at) (kept j away) ∙ shown_before j at name (omega (arith, lt, away)) named (subst (λ row. at < length row) (kept j away) wide)
        ]

        run_more : HasRunSoFar h newer moments own rows_next (done + 1) s uses others A n
        run_more = record {
          same = same_next;
          waiting = waits ∙ far.waiting;
          lasts = lasts;
          taken = taken_next;
          shown = shown_next;
          stands = stands_next;
          next = next_one;
        }

-- ---- whatever run it is

module _ (h new : Holding) (flat : ClockedModel) (moments : List PlannedMoment) (now : Values) (own : List ℕ) (rows : ℕ → List (Option Value)) (done : ℕ) (far : RunsSoFar h new flat moments now own rows done) where
  -- the last moment was run
  pub runs_whole : done ≡ length moments → (s : Setting) (uses : List Use) (stages : Stages) (others : List Use) (A : Assignment) (n : ℕ) → IsShareWindow h flat moments now s uses stages others A n → HasRunShare h new moments own rows done None s uses others A n
  runs_whole all s uses stages others A n is =
      let run = far s uses stages others A n is in record {
        same = run.same;
        lasts = run.lasts;
        taken = run.taken;
        shown = run.shown;
        fails = λ failing some. absurd (none-some failing some);
        within = λ failing some. absurd (none-some failing some);
        whole = λ none. all;
        stands = λ none. run.stands;
      }

  module _ (moment : PlannedMoment) (found : slice_get moments done ≡ Some moment) where
    pub may_take : CanRunShare h flat moments now → CanTakeShare new flat (plan_of moment) moment.base.items
    may_take (s, uses, stages, others, A, n, is) = can_take h new flat moments now own rows done s uses stages others A n is (far s uses stages others A n is) moment found

    pub is_wide : CanRunShare h flat moments now → length now ≡ length moment.base.items
    is_wide (s, uses, stages, others, A, n, is) = moment_wide h new flat moments now own rows done s uses stages others A n is (far s uses stages others A n is) moment found

    module _ (newer : Holding) (last : Values) (told : Option EquationFailing) (waits : newer.waiting ≡ new.waiting) (takes : TakesShare new flat (plan_of moment) newer.slots moment.base.items last told) where
      pub runs_failed : (told ≡ None → ⊥) → (s : Setting) (uses : List Use) (stages : Stages) (others : List Use) (A : Assignment) (n : ℕ) → IsShareWindow h flat moments now s uses stages others A n → HasRunShare h newer moments own rows done told s uses others A n
      runs_failed fails s uses stages others A n is = run_failed h new flat moments now own rows done s uses stages others A n is (far s uses stages others A n is) moment found newer last told waits takes fails

      pub runs_more : told ≡ None → GoesOnShare new flat (plan_of moment) moment.base.items last told → KeepsShare new newer flat (plan_of moment) moment.base.items last told
          → (rows_next : ℕ → List (Option Value)) → IsWritten (own_by own last) (rows done) (rows_next done) → ((j : ℕ) → j ≢ done → rows_next j ≡ rows j) → RunsSoFar h newer flat moments now own rows_next (done + 1)
      runs_more none goes_on keeps rows_next written kept s uses stages others A n is =
          run_more h new flat moments now own rows done s uses stages others A n is (far s uses stages others A n is) moment found newer last told waits takes none goes_on keeps rows_next written kept
