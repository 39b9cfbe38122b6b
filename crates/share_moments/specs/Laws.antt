-- Laws of shares that took a moment.
use Rattle.std.specs.Prelude.{◌≡◌, ℕ, List, ◌∷◌, map, Option, Some, slice_get}
use Rattle.first_failure.specs.declared.least.EquationFailing.{EquationFailing}
use Rattle.first_failure.specs.Turns.{FailsAmong, IsLeast}
use Rattle.flat_model.specs.declared.clock.Moment.{Moment}
use Rattle.flat_model.specs.Values.{value_in}
use Rattle.flat_model.specs.Assignment.{Assignment}
use Rattle.flat_model.specs.Given.{Row, with_row}
use Rattle.flat_model.specs.Moments.{moment_at}
use Rattle.flat_model.specs.Setting.{Setting}
use Rattle.flat_model.specs.Uses.{Use}
use Rattle.fork_steps.specs.declared.slot.Slot.{Slot}
use Rattle.moment_join.specs.Sites.{ReachSites}
use Rattle.moment_join.specs.Staged.{AreStagesOf}
use Rattle.moment_join.specs.Told.{earliest}
use Rattle.moment_moves.specs.Moments.{IsFirstSite, IsRunMoment}
use Rattle.moment_order.specs.declared.stage.Stage.{Stage}
use Rattle.moment_order.specs.declared.stage.Stage.TheVariants.{Waiting}
use Rattle.moment_order.specs.Stages.{uses_at, parts_at}
use Rattle.moment_steps.specs.declared.piece.Piece.{Piece}
use Rattle.moment_theory.specs.Taken.{AreInputs, AreTaken}
use Rattle.part_groups.specs.Groups.{AreGroups}
use Rattle.run_ahead.specs.Ahead.{IsAloneBefore}
use Rattle.share_join.specs.Dealing.{Deal, dealt_shares, IsDealOf}
use Rattle.share_join.specs.Shares.{Share, all_pieces, all_waiting, AreSharesOf}
use Rattle.share_join.specs.Taking.{HasTaken, JoinsShares}
use Rattle.share_run.specs.Shares.{IsShareOf}
use Rattle.share_run.specs.Standing.{Holding}
use Rattle.share_run.specs.Taking.{Values, Plan, HasTakenShare}
use Rattle.site_risings.specs.declared.answers.SiteFailing.{SiteFailing}
use Rattle.share_moments.specs.Grouping.{KeepsGroups}
use Rattle.share_moments.specs.Sharing.{share_of, AskApart, AreShares, division_at, TookEach}

-- the stages of a moment, however dealt, are shares, where none names what another reaches
abbrev pub DealLaw : Type 0
DealLaw = (s : Setting) (uses pure : List Use) (pieces : List (List Use)) (waiting : List Use) → AreStagesOf s uses pure pieces waiting → ReachSites s pure → (deal : Deal) → IsDealOf deal pieces waiting
    → AskApart s (dealt_shares deal pieces waiting) → AreShares s uses pure (dealt_shares deal pieces waiting)

-- so it is where whole groups are dealt
abbrev pub GroupsLaw : Type 0
GroupsLaw = (s : Setting) (uses : List Use) (count : ℕ) (stages : List Stage) (groups : List ℕ) → AreGroups s.model.equations count stages uses groups
    → (deal : Deal) → IsDealOf deal (parts_at stages uses 0 count) (uses_at Waiting stages uses) → KeepsGroups groups deal → AskApart s (dealt_shares deal (parts_at stages uses 0 count) (uses_at Waiting stages uses))

-- such shares may run side by side, and each by itself beside all others
abbrev pub NamesLaw : Type 0
NamesLaw = (s : Setting) (uses pure : List Use) (shares : List Share) → AreShares s uses pure shares
    → AreSharesOf s uses pure shares × ((i : ℕ) (share : Share) → slice_get shares i ≡ Some share → IsShareOf s uses (division_at pure shares i share))

-- what a share took by itself, it took beside others
abbrev pub TakenLaw : Type 0
TakenLaw = (s : Setting) (uses others : List Use) (U : Assignment) (m : ℕ) (plan : Plan) (h : Holding) (slots : List (Slot Piece)) (base last : Values) (told : Option EquationFailing)
    → HasTakenShare h slots plan base last told s uses others U m → HasTaken s uses U m (value_in base) (share_of h) (value_in last) told

-- where each share took a moment of U before which U alone meets the model, and a row joins theirs, it is a moment that was run by its stages, with the least of all failures that were told
abbrev pub RunLaw : Type 0
RunLaw = (s : Setting) (uses pure : List Use) (holdings : List Holding) → AreShares s uses pure (map share_of holdings)
    → (U : Assignment) (m : ℕ) → IsAloneBefore s U m → (at : Moment) → moment_at s.instants m ≡ Some at
    → (inputs : Row) (base : Values) → AreInputs s m inputs → AreTaken s U m pure inputs (value_in base)
    → (first : Option EquationFailing) → IsLeast (FailsAmong s uses U m pure (value_in base)) first → (site : Option SiteFailing) → IsFirstSite s (with_row U m (value_in base)) m site
    → (plan : Plan) (lasts : ℕ → Values) (tolds : List (Option EquationFailing)) → TookEach s uses U m plan base holdings lasts tolds
    → (last : Row) → JoinsShares (value_in base) (λ i. value_in (lasts i)) (map share_of holdings) last
    → IsRunMoment s uses pure (all_pieces (map share_of holdings)) (all_waiting (map share_of holdings)) U m at (value_in base) last site (earliest (first ∷ tolds))
