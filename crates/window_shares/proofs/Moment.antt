-- One moment of a window that shares ran side by side.
use Rattle.std.proofs.Common.{◌≡◌, refl, ap, ap₂, ◌∙◌, sym, subst, ℕ, zero, suc, ◌+◌, ◌<◌, ◌≤◌, List, [], ◌∷◌, map, Option, Some, None, slice_get, if◌then◌else◌, eq-eqb, ne_eqb, ◌⊎◌, inl, inr, arith}
use Rattle.std.proofs.lemmas.Bool.{cases_eq}
use Rattle.std.proofs.lemmas.Option.{none-some, same_Some, slice_get_within}
use Rattle.first_failure.specs.declared.least.EquationFailing.{EquationFailing}
use Rattle.flat_model.specs.Values.{value_in}
use Rattle.flat_model.specs.Assignment.{Assignment}
use Rattle.flat_model.specs.Given.{Row, with_row}
use Rattle.flat_model.specs.Setting.{Setting, site_answer}
use Rattle.flat_model.specs.Uses.{Use}
use Rattle.flat_model.proofs.OneSolution.{AreSitesUnclocked}
use Rattle.moment_body.specs.Stages.{Stages}
use Rattle.moment_join.specs.Told.{earlier, earliest}
use Rattle.moment_join.proofs.Fronts.{reached_or}
use Rattle.moment_join.proofs.GoesOn.{sites_alike}
use Rattle.moment_theory.specs.Free.{IsReachedBy}
use Rattle.moment_theory.proofs.Beside.{reached_either, reached_first, reached_second}
use Rattle.moment_theory.proofs.Ran.{with_own_row}
use Rattle.moment_theory.proofs.Taking.{unchanged}
use Rattle.moment_moves.specs.Moments.{IsRunMoment}
use Rattle.run_ahead.specs.Ahead.{IsAloneBefore}
use Rattle.share_join.specs.Shares.{Share, own_uses, all_pieces, all_waiting, all_uses, others_of, AreSharesOf}
use Rattle.share_join.specs.Taking.{HasTaken, HaveTaken, AreRunBeside}
use Rattle.share_join.proofs.Apart.{settled}
use Rattle.share_join.proofs.Places.{at_map, map_at, piece_uses}
use Rattle.share_join.proofs.Telling.{run_moment}
use Rattle.share_moments.specs.Sharing.{share_of, uses_beside}
use Rattle.share_moments.proofs.Took.{took_beside}
use Rattle.share_run.specs.Taking.{plan_of}
use Rattle.share_window.specs.Windows.{ArePlanned, GoesByShare, HasRunShare, WasTaken}
use Rattle.tree_step.specs.declared.taking.Entry.{Entry}
use Rattle.tree_step.specs.Starts.{uses_of}
use Rattle.window_join.specs.Moments.{IsRunAt}
use Rattle.window_plan.specs.declared.moment.PlannedMoment.{PlannedMoment}
use Rattle.window_plan.specs.Moments.{base_of, AnswersAs, GoesBy, IsPlannedAt, IsQuiet}
use Rattle.window_shares.specs.Sharing.{ShareRan, share_in, shares_in, stages_by, HaveRun, told_at, told_by}
use Rattle.window_shares.proofs.Joined.{Joined}
use Rattle.window_shares.proofs.Plans.{plan_there}

-- what any share reaches, a share itself does or the others do
reached_beside : (shares : List Share) (i : ℕ) (share : Share) (x : ℕ) → slice_get shares i ≡ Some share → IsReachedBy x (all_uses shares) → IsReachedBy x (own_uses share) ⊎ IsReachedBy x (uses_beside i shares)
reached_beside [] i share x found reached = absurd (none-some share found)
reached_beside (first ∷ shares) zero share x found reached = elim (reached_either (own_uses first) (all_uses shares) x reached) [
  | inl own ↦ inl (subst (λ h. IsReachedBy x (own_uses h)) (same_Some first share found) own)
  | inr other ↦ inr other
]
reached_beside (first ∷ shares) (suc i) share x found reached = elim (reached_either (own_uses first) (all_uses shares) x reached) [
  | inl own ↦ inr (reached_first (own_uses first) (all_uses (others_of i shares)) x own)
  | inr later ↦ elim (reached_beside shares i share x found later) [
    | inl own ↦ inl own
    | inr other ↦ inr (reached_second (own_uses first) (all_uses (others_of i shares)) x other)
  ]
]

-- where none is told there is no earliest
none_told : (tolds : List (Option EquationFailing)) → ((i : ℕ) (told : Option EquationFailing) → slice_get tolds i ≡ Some told → told ≡ None) → earliest tolds ≡ None
none_told [] none = refl
none_told (told ∷ tolds) none = ap (λ o. earlier o (earliest tolds)) (none 0 told refl) ∙ none_told tolds (λ i other found. none (suc i) other found)

abbrev uses_by : List (List Use) → List Entry → Share
uses_by pieces waiting = record { pieces = pieces; waiting = uses_of waiting }

module _ (s : Setting) (uses : List Use) (stages : Stages) (moments : List PlannedMoment) (A : Assignment) (n : ℕ) (runs : List ShareRan) (shares_are : AreSharesOf s uses stages.pure (shares_in runs))
    (planned : ArePlanned s uses stages A n moments) (have : HaveRun s uses moments A n runs) (joint : Joined s uses moments A n runs have) where
  abbrev pub shares : List Share
  shares = shares_in runs

  abbrev pub others : ℕ → List Use
  others i = uses_beside i shares

  abbrev pub U : Assignment
  U = joint.after

  unclocked : AreSitesUnclocked s
  unclocked = (settled s uses stages.pure shares shares_are).unclocked

  -- U goes by the first moments, as each share left them
  pub record GoesSoFar (j : ℕ) : Type 0 where
    pub goes : GoesBy s U n moments j
    pub values : (i : ℕ) (ran : ShareRan) (found : slice_get runs i ≡ Some ran) (k x : ℕ) → k < j → (IsReachedBy x (others i) → ⊥) → U x (n + k) ≡ value_in ((have i ran found).lasts k) x

  pub by_share : (j : ℕ) → GoesSoFar j → (i : ℕ) (ran : ShareRan) (found : slice_get runs i ≡ Some ran) → GoesByShare s (others i) U n moments (λ k. value_in ((have i ran found).lasts k)) j
  by_share j far i ran found = record { goes = far.goes; values = far.values i ran found }

  module _ (j : ℕ) (moment : PlannedMoment) (here : slice_get moments j ≡ Some moment) (far : GoesSoFar j) (went : (i : ℕ) (ran : ShareRan) → slice_get runs i ≡ Some ran → j ≤ ran.done) where
    abbrev m : ℕ
    m = n + j

    abbrev base : Row
    base = base_of moment

    abbrev lasts : ℕ → Row
    lasts i = value_in (joint.lasts i j)

    planned_here : IsPlannedAt s uses stages U m moment
    planned_here = planned U joint.agrees j moment here far.goes

    -- ---- what a share took

    module _ (i : ℕ) (ran : ShareRan) (found : slice_get runs i ≡ Some ran) where
      abbrev run : HasRunShare ran.old ran.new moments ran.own ran.rows ran.done ran.told s uses (others i) A n
      run = have i ran found

      abbrev share : Share
      share = share_in ran

      -- it stopped at this moment
      stopped : j ≡ ran.done → (o : Option EquationFailing) → ran.told ≡ o → WasTaken ran.old moment (run.lasts j) ran.told s uses (others i) U m
      stopped at None none = absurd (let all = run.whole none in let lt = slice_get_within moments j moment here in omega (arith, at, all, lt))
      stopped at (Some failing) fails =
          subst (λ k. WasTaken ran.old moment (run.lasts k) ran.told s uses (others i) U (n + k)) (sym at)
          (run.fails failing fails U joint.agrees moment (subst (λ k. slice_get moments k ≡ Some moment) at here)
          (subst (GoesByShare s (others i) U n moments (λ k. value_in (run.lasts k))) at (by_share j far i ran found)))

      was_taken : WasTaken ran.old moment (run.lasts j) (told_at j ran) s uses (others i) U m
      was_taken = elim (cases_eq j ran.done) [
        | inl at ↦ subst (λ o. WasTaken ran.old moment (run.lasts j) o s uses (others i) U m) (sym (ap (λ b. if b then ran.told else None) (eq-eqb ran.done j (sym at)))) (stopped at ran.told refl)
        | inr away ↦
            subst (λ o. WasTaken ran.old moment (run.lasts j) o s uses (others i) U m) (sym (ap (λ b. if b then ran.told else None) (ne_eqb ran.done j (λ e. away (sym e)))))
            (run.taken U joint.agrees j moment (let le = went i ran found in omega (arith, le, away)) here (by_share j far i ran found))
      ]

      same_uses : share_of was_taken.held ≡ share
      same_uses = ap₂ uses_by was_taken.pieces was_taken.waiting

      has_taken : HasTaken s uses U m base share (lasts i) (told_at j ran)
      has_taken =
          subst (λ row. HasTaken s uses U m base share (value_in (row j)) (told_at j ran)) (sym (joint.lasts_are i ran found))
          (subst (λ own. HasTaken s uses U m base own (value_in (run.lasts j)) (told_at j ran)) same_uses
          (took_beside s uses (others i) U m (plan_of moment) was_taken.held was_taken.slots moment.base.items (run.lasts j) (told_at j ran) was_taken.taken))

      -- what its uses do not reach it left as in the base
      left_alone : (x : ℕ) → (IsReachedBy x (own_uses share) → ⊥) → lasts i x ≡ base x
      left_alone x none =
          unchanged s unclocked U m share.waiting has_taken.row (lasts i) has_taken.waited x (λ h. none (reached_second (piece_uses share) share.waiting x h))
          ∙ has_taken.beside.rest x (λ h. none (reached_first (piece_uses share) share.waiting x h))

      pub values_here : (x : ℕ) → (IsReachedBy x (others i) → ⊥) → U x m ≡ value_in (run.lasts j) x
      values_here x alone = by_own (reached_or (own_uses share) x) ∙ ap (λ row. value_in (row j) x) (joint.lasts_are i ran found)
        where
          at : slice_get shares i ≡ Some share
          at = at_map share_in runs i ran found

          by_own : IsReachedBy x (own_uses share) ⊎ (IsReachedBy x (own_uses share) → ⊥) → U x m ≡ lasts i x
          by_own (inl own) = (joint.joins j moment here).own i (own_uses share) x (at_map own_uses shares i share at) own
          by_own (inr none) = (joint.joins j moment here).rest x (λ reached. elim (reached_beside shares i share x at reached) [
            | inl own ↦ none own
            | inr other ↦ alone other
          ]) ∙ sym (left_alone x none)

    -- ---- what all took

    have_taken : HaveTaken s uses U m base shares lasts (map (told_at j) runs)
    have_taken = record {
      each = λ i share found.
          let (ran, at, same) = map_at share_in runs i share found in
          (told_at j ran, at_map (told_at j) runs i ran at, subst (λ one. HasTaken s uses U m base one (lasts i) (told_at j ran)) same (has_taken i ran at));
      no_more = λ i told found. let (ran, at, same) = map_at (told_at j) runs i told found in (share_in ran, at_map share_in runs i ran at);
    }

    beside_run : AreRunBeside s uses stages.pure shares U m planned_here.inputs base lasts (λ x. U x m) moment.told (map (told_at j) runs)
    beside_run = record {
      shares_are = shares_are;
      are = planned_here.are;
      taken = planned_here.taken;
      first_told = planned_here.told_is;
      have_taken = have_taken;
      joins = joint.joins j moment here;
    }

    ran_here : IsAloneBefore s U m → IsRunMoment s uses stages.pure (all_pieces shares) (all_waiting shares) U m moment.at base (λ x. U x m) moment.site (told_by moment runs j)
    ran_here alone = run_moment s uses stages.pure shares U m planned_here.inputs base lasts (λ x. U x m) moment.told (map (told_at j) runs) beside_run alone moment.at planned_here.here moment.site planned_here.site_is

    pub run_here : IsAloneBefore s U m → IsRunAt s uses (stages_by stages.pure shares) U m moment.site (told_by moment runs j)
    run_here alone =
        let (plan, plan_at) = plan_there s (with_row U m base) m in record {
          at = moment.at;
          base = base;
          run = ran_here alone;
          plan = plan;
          plan_at = plan_at;
        }

    -- sites answer as over what the pure uses left
    pub alike_here : IsAloneBefore s U m → AnswersAs s U m base
    alike_here alone site =
        let run = ran_here alone in
        subst (λ S. site_answer s (with_row U m base) site m ≡ site_answer s S site m) (with_own_row U m)
        ((sites_alike s uses stages.pure (all_pieces shares) (all_waiting shares) run.stages run.reach U m run.inputs base run.owns run.row (λ x. U x m) run.staged).answers site)

    -- nothing fails where the moment is quiet and no share stops
    module _ (still : IsQuiet moment) (on : (i : ℕ) (ran : ShareRan) → slice_get runs i ≡ Some ran → j < ran.done) where
      none_stops : (i : ℕ) (told : Option EquationFailing) → slice_get (map (told_at j) runs) i ≡ Some told → told ≡ None
      none_stops i told found =
          let (ran, at, same) = map_at (told_at j) runs i told found in
          sym same ∙ ap (λ b. if b then ran.told else None) (ne_eqb ran.done j (λ e. let lt = on i ran at in omega (arith, lt, e)))

      none_here : told_by moment runs j ≡ None
      none_here = ap (λ o. earlier o (earliest (map (told_at j) runs))) still.told ∙ none_told (map (told_at j) runs) none_stops

      pub run_well : IsAloneBefore s U m → IsRunAt s uses (stages_by stages.pure shares) U m None None
      run_well alone =
          subst (λ o. IsRunAt s uses (stages_by stages.pure shares) U m o None) still.site
          (subst (IsRunAt s uses (stages_by stages.pure shares) U m moment.site) none_here (run_here alone))
