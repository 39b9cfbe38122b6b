-- The rows of a window are those of what the shares left.
use Rattle.std.proofs.Common.{◌≡◌, ap, ◌∙◌, sym, subst, ℕ, ◌+◌, ◌<◌, List, length, map, Option, Some, slice_get, ◌⊎◌, inl, inr, arith}
use Rattle.std.proofs.lemmas.Bool.{cases_lt}
use Rattle.std.proofs.lemmas.List.{length-map}
use Rattle.std.proofs.lemmas.Option.{slice_get_past}
use Rattle.sync_values.specs.declared.value.Value.{Value}
use Rattle.flat_model.specs.Values.{value_in}
use Rattle.flat_model.specs.Assignment.{Assignment}
use Rattle.flat_model.specs.Moments.{moment_at}
use Rattle.flat_model.specs.Setting.{Setting, flattened}
use Rattle.flat_model.specs.Trace.{columns_of}
use Rattle.flat_model.specs.Uses.{Use}
use Rattle.moment_join.proofs.Fronts.{reached_or}
use Rattle.moment_theory.specs.Free.{IsReachedBy}
use Rattle.partition_step.proofs.Lists.{some_at, at_map, lists_same}
use Rattle.run_ahead.specs.Ahead.{Window, ShowsFrom}
use Rattle.share_join.specs.Shares.{own_uses, all_uses}
use Rattle.share_join.proofs.Places.{map_at, of_one}
use Rattle.window_plan.specs.declared.moment.PlannedMoment.{PlannedMoment}
use Rattle.window_shares.specs.Running.{IsLeftBy, IsRowOf, ShowsLeft}
use Rattle.window_shares.specs.Sharing.{ShareRan, share_in, shares_in, HaveRun, HasWindow}

-- a row of which each cell is f of its column
row_of_cells : (f : ℕ → Option Value) (columns : List ℕ) (row : List (Option Value)) → length row ≡ length columns → ((c x : ℕ) → slice_get columns c ≡ Some x → value_in row c ≡ f x) → row ≡ map f columns
row_of_cells f columns row long cells = lists_same row (map f columns) at
  where
    at : (c : ℕ) → slice_get row c ≡ slice_get (map f columns) c
    at c = elim (cases_lt c (length columns)) [
      | inl lt ↦
          let (x, column) = some_at columns c lt in
          let (value, there) = some_at row c (omega (arith, lt, long)) in
          there ∙ ap Some (sym (ap flattened there) ∙ cells c x column) ∙ sym (at_map f columns c x column)
      | inr past ↦ slice_get_past row c (omega (arith, past, long)) ∙ sym (slice_get_past (map f columns) c (let same = length-map columns f in omega (arith, past, same)))
    ]

module _ (s : Setting) (uses pure : List Use) (moments : List PlannedMoment) (A : Assignment) (n : ℕ) (runs : List ShareRan) (have : HaveRun s uses moments A n runs) (done : ℕ) (U : Assignment)
    (is : HasWindow s uses pure moments A n runs have done U) where
  -- what the shares left of a name is its value
  left_value : (j x : ℕ) (moment : PlannedMoment) (value : Option Value) → j < done → slice_get moments j ≡ Some moment → IsLeftBy runs moment j x value → value ≡ U x (n + j)
  left_value j x moment value lt here left = by_reach (reached_or (all_uses (shares_in runs)) x)
    where
      by_reach : IsReachedBy x (all_uses (shares_in runs)) ⊎ (IsReachedBy x (all_uses (shares_in runs)) → ⊥) → value ≡ U x (n + j)
      by_reach (inl reached) =
          let (i, share, found, own) = of_one own_uses (shares_in runs) x reached in
          let (ran, there, same) = map_at share_in runs i share found in
          let reaches : IsReachedBy x (own_uses (share_in ran)) = subst (λ h. IsReachedBy x (own_uses h)) (sym same) own in
          let (at, named, wide, shows) = left.own i ran there reaches in
          shows ∙ sym (is.shown i ran j at x there lt named wide reaches)
      by_reach (inr none) = left.rest none ∙ sym (is.rest j x moment lt here none)

  row_is : (columns : List ℕ) (j : ℕ) (moment : PlannedMoment) (row : List (Option Value)) → j < done → slice_get moments j ≡ Some moment → IsRowOf columns runs moment j row → row ≡ map (λ x. U x (n + j)) columns
  row_is columns j moment row lt here cells =
      row_of_cells (λ x. U x (n + j)) columns row cells.long (λ c x column. left_value j x moment (value_in row c) lt here (cells.cells c x column))

  module _ (within : (j : ℕ) → j < done → (moment : PlannedMoment) × (slice_get moments j ≡ Some moment)) (places : (j : ℕ) (moment : PlannedMoment) → slice_get moments j ≡ Some moment → moment_at s.instants (n + j) ≡ Some moment.at)
      (window : Window) (shows : ShowsLeft (columns_of s.model.names) moments runs done window) where
    under : (j : ℕ) → 0 + j < length window.moments → j < done
    under j lt = let long = shows.long in omega (arith, lt, long)

    pub shows_from : ShowsFrom s U n 0 window
    shows_from = record {
      moments = λ j lt.
          let (moment, here) = within j (under j lt) in
          let same : j ≡ 0 + j = omega arith in
          subst (λ k. slice_get window.moments k ≡ moment_at s.instants (n + j)) same (shows.moments_are j moment (under j lt) here ∙ sym (places j moment here));
      there = λ j lt. let (moment, here) = within j (under j lt) in (moment.at, places j moment here);
      rows = λ j lt.
          let (moment, here) = within j (under j lt) in
          let (row, there, cells) = shows.rows_are j moment (under j lt) here in
          let same : j ≡ 0 + j = omega arith in
          subst (λ k. slice_get window.rows k ≡ Some (map (λ x. U x (n + j)) (columns_of s.model.names))) same
          (there ∙ ap Some (row_is (columns_of s.model.names) j moment row (under j lt) here cells));
    }
