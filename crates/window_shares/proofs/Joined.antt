-- One assignment with what all shares left of a window.
use Rattle.std.proofs.Common.{◌≡◌, refl, ap, ◌∙◌, ℕ, ◌+◌, List, [], Option, Some, None, slice_get}
use Rattle.std.proofs.Math.Path.{path_j}
use Rattle.flat_model.specs.Values.{value_in}
use Rattle.flat_model.specs.Assignment.{Assignment}
use Rattle.flat_model.specs.Given.{Row}
use Rattle.flat_model.specs.Setting.{Setting}
use Rattle.flat_model.specs.Uses.{Use}
use Rattle.moment_theory.specs.Going.{AgreeBefore}
use Rattle.share_join.specs.Shares.{AreSharesOf}
use Rattle.share_join.specs.Taking.{JoinsShares}
use Rattle.share_join.proofs.Apart.{joins_shares}
use Rattle.share_run.specs.Taking.{Values}
use Rattle.window_join.specs.Moments.{windowed}
use Rattle.window_join.proofs.Windowed.{windowed_before, windowed_row}
use Rattle.window_plan.specs.declared.moment.PlannedMoment.{PlannedMoment}
use Rattle.window_plan.specs.Moments.{base_of}
use Rattle.window_shares.specs.Sharing.{ShareRan, shares_in, HaveRun}

-- an assignment of which each moment of a window joins what the shares left at it
pub record Joined (s : Setting) (uses : List Use) (moments : List PlannedMoment) (A : Assignment) (n : ℕ) (runs : List ShareRan) (have : HaveRun s uses moments A n runs) : Type 0 where
  pub lasts : ℕ → ℕ → Values
  pub lasts_are : (i : ℕ) (ran : ShareRan) (found : slice_get runs i ≡ Some ran) → lasts i ≡ (have i ran found).lasts
  pub after : Assignment
  pub agrees : AgreeBefore A after n
  pub joins : (j : ℕ) (moment : PlannedMoment) → slice_get moments j ≡ Some moment → JoinsShares (base_of moment) (λ i. value_in (lasts i j)) (shares_in runs) (λ x. after x (n + j))

module _ (s : Setting) (uses pure : List Use) (moments : List PlannedMoment) (A : Assignment) (n : ℕ) (runs : List ShareRan) (shares_are : AreSharesOf s uses pure (shares_in runs)) (have : HaveRun s uses moments A n runs) where
  -- what the share in a place left at each moment
  lasts_at : (i : ℕ) (o : Option ShareRan) → slice_get runs i ≡ o → ℕ → Values
  lasts_at i None e j = []
  lasts_at i (Some ran) e j = (have i ran e).lasts j

  lasts_in : ℕ → ℕ → Values
  lasts_in i = lasts_at i (slice_get runs i) refl

  lasts_same : (i : ℕ) (ran : ShareRan) (found : slice_get runs i ≡ Some ran) → lasts_in i ≡ (have i ran found).lasts
  unfolding lasts_in lasts_at
  lasts_same i ran found = path_j (λ o e. lasts_at i (slice_get runs i) refl ≡ lasts_at i o e) refl found

  base_in : Option PlannedMoment → Row
  base_in None x = None
  base_in (Some moment) x = base_of moment x

  joined_at : (j : ℕ) → (last : Row) × JoinsShares (base_in (slice_get moments j)) (λ i. value_in (lasts_in i j)) (shares_in runs) last
  joined_at j = joins_shares s uses pure (shares_in runs) shares_are (base_in (slice_get moments j)) (λ i. value_in (lasts_in i j))

  rows : ℕ → Row
  rows j = (joined_at j).0

  pub joined_window : Joined s uses moments A n runs have
  unfolding rows base_in
  joined_window = record {
    lasts = lasts_in;
    lasts_are = lasts_same;
    after = windowed A n rows;
    agrees = windowed_before A n rows;
    joins = λ j moment found. record {
      own = λ i us y at reached. windowed_row A n rows y j ∙ (joined_at j).1.own i us y at reached;
      rest = λ y none. windowed_row A n rows y j ∙ (joined_at j).1.rest y none ∙ ap (λ o. base_in o y) found;
    };
  }
