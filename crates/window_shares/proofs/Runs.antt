-- A window that was planned and run by shares is one of a run.
use Rattle.std.proofs.Common.{◌≡◌, ◌∙◌, sym, subst, ℕ, ◌+◌, ◌<◌, List, length, take, Option, Some, None, slice_get, arith}
use Rattle.std.proofs.lemmas.List.{length-take-le}
use Rattle.std.proofs.lemmas.Option.{same_Some}
use Rattle.flat_model.specs.declared.fault.Fault.{Fault}
use Rattle.flat_model.specs.Assignment.{Assignment}
use Rattle.flat_model.specs.Moments.{moment_at}
use Rattle.flat_model.specs.Setting.{Setting}
use Rattle.flat_model.specs.Uses.{Use}
use Rattle.moment_body.specs.Stages.{Stages}
use Rattle.moment_moves.specs.Moments.{fault_of}
use Rattle.partition_step.proofs.Lists.{some_at}
use Rattle.run_ahead.specs.Ahead.{Window, IsAloneBefore, HasRunOn}
use Rattle.share_moments.specs.Sharing.{uses_beside}
use Rattle.share_run.specs.Standing.{IsShareBefore}
use Rattle.window_join.specs.Laws.{Closes}
use Rattle.window_join.proofs.Windowed.{KeepsWhereNone, has_run_on}
use Rattle.window_plan.specs.declared.moment.PlannedMoment.{PlannedMoment}
use Rattle.window_plan.specs.Moments.{GoesBy}
use Rattle.window_plan.specs.Windows.{Course}
use Rattle.window_shares.specs.Running.{IsRunBy, IsBehind, ClosesAs}
use Rattle.window_shares.specs.Sharing.{ShareRan, shares_in, stages_by, HasWindow, told_by}
use Rattle.window_shares.proofs.Across.{across}
use Rattle.window_shares.proofs.Coursed.{took_at, goes_whole, planned, none_left}
use Rattle.window_shares.proofs.Shown.{shows_from}

module _ (s : Setting) (uses : List Use) (stages : Stages) (A : Assignment) (n : ℕ) (old course : Course) (count : ℕ) (runs : List ShareRan) (done : ℕ) (window : Window) (alone : IsAloneBefore s A n)
    (is : IsRunBy s uses stages A n old course count runs done window) (keeps : Setting → Assignment → ℕ → Type 0) (keep : (S : Assignment) → IsBehind uses stages runs course s S (n + count) → keeps s S (n + count)) where
  abbrev moments : List PlannedMoment
  moments = take count course.moments

  abbrev whole : Stages
  whole = stages_by stages.pure (shares_in runs)

  long : length moments ≡ count
  long = length-take-le count course.moments is.ends.within

  places : (j : ℕ) (moment : PlannedMoment) → slice_get moments j ≡ Some moment → moment_at s.instants (n + j) ≡ Some moment.at
  places j moment found = let (lt, at) = took_at count course.moments j moment found in is.planned.here j moment lt at

  module _ (U : Assignment) (has : HasWindow s uses stages.pure moments A n runs is.ran done U) where
    -- where nothing failed all stands behind the window
    stands : done ≡ length moments → IsBehind uses stages runs course s U (n + count)
    stands all =
        let same : done ≡ count = all ∙ long in
        let (plan_is, were_low) = is.planned.behind U has.agrees (goes_whole s U n course.moments count count (omega arith) (subst (λ k. GoesBy s U n moments k) same has.goes)) in record {
          shares_stand = λ i ran found. subst (λ k. IsShareBefore s uses (uses_beside i (shares_in runs)) U (n + k) ran.new) same (has.stand all i ran found);
          same = λ i ran found. (is.ran i ran found).same;
          pure = is.planned.pure;
          room = is.planned.room;
          plan_is = plan_is;
          lows = is.planned.ready.lows;
          were_low = were_low;
        }

    closes : (fault : Option Fault) → ClosesAs moments runs done fault → KeepsWhereNone s uses whole U keeps fault (n + done) × Closes s uses whole U (n + done) fault
    closes None all = (subst (λ k. keeps s U (n + k)) (sym (all ∙ long)) (keep U (stands all)), tt)
    closes (Some fault) (moment, here, is_fault) =
        let run = has.stops moment here in
        let same : moment.at ≡ run.at = same_Some moment.at run.at (sym (places done moment here) ∙ run.run.here) in
        (tt, (moment.site, told_by moment runs done, run, subst (λ at. fault_of at moment.site (told_by moment runs done) ≡ Some fault) same is_fault))

    progress : length window.moments ≡ 0 → window.fault ≡ None → length s.instants < n
    progress empty none =
        let all : done ≡ length moments = subst (ClosesAs moments runs done) none is.closes in
        let shown = is.shows.long in
        let size = long in
        none_left s uses stages A n course count is.planned old is.ends is.some (omega (arith, empty, all, shown, size))

    run_on : HasRunOn keeps s A n window
    run_on =
        let size = is.shows.long in
        has_run_on s uses whole U keeps A n window has.agrees alone (λ j lt before. has.run j (omega (arith, lt, size)) before)
        (shows_from s uses stages.pure moments A n runs is.ran done U has (λ j lt. some_at moments j (let within = is.quiet.within in omega (arith, lt, within))) places window is.shows)
        (λ behind. subst (λ k. KeepsWhereNone s uses whole U keeps window.fault (n + k) × Closes s uses whole U (n + k) window.fault) (sym size) (closes window.fault is.closes))
        progress

  pub runs_on : HasRunOn keeps s A n window
  runs_on =
      let (U, has) = across s uses stages moments A n runs done is.shares_are alone (planned s uses stages A n course count is.planned) is.ran is.quiet in
      run_on U has
