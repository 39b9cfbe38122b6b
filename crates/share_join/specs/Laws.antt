-- Laws of shares that were run side by side.
use Rattle.std.specs.Prelude.{◌≡◌, ℕ, List, ◌∷◌, ◌++◌, Option, Some, slice_get}
use Rattle.flat_model.specs.declared.clock.Moment.{Moment}
use Rattle.flat_model.specs.Assignment.{Assignment}
use Rattle.flat_model.specs.Given.{Row, with_row}
use Rattle.flat_model.specs.Moments.{moment_at}
use Rattle.flat_model.specs.Setting.{Setting}
use Rattle.flat_model.specs.Uses.{Use}
use Rattle.first_failure.specs.declared.least.EquationFailing.{EquationFailing}
use Rattle.moment_join.specs.Staged.{AreStagesOf}
use Rattle.moment_join.specs.Told.{earliest}
use Rattle.run_ahead.specs.Ahead.{IsAloneBefore}
use Rattle.site_risings.specs.declared.answers.SiteFailing.{SiteFailing}
use Rattle.moment_moves.specs.Moments.{IsFirstSite, IsRunMoment}
use Rattle.moment_join.specs.Sites.{ReachSites}
use Rattle.share_join.specs.Dealing.{Deal, dealt_shares, IsDealOf, ReadApart}
use Rattle.share_join.specs.Shares.{Share, all_pieces, all_waiting, AreSharesOf, others_of, all_uses}
use Rattle.share_join.specs.Taking.{JoinsShares, AreRunBeside, AreStages}

-- the stages of a moment, however dealt, are shares, where what waits in one share reads nothing of another
abbrev pub DealLaw : Type 0
DealLaw = (s : Setting) (uses pure : List Use) (pieces : List (List Use)) (waiting : List Use) → AreStagesOf s uses pure pieces waiting → ReachSites s pure → (deal : Deal) → IsDealOf deal pieces waiting
    → ReadApart s (dealt_shares deal pieces waiting) → AreSharesOf s uses pure (dealt_shares deal pieces waiting)

-- a share may be taken before all others: behind the pure uses its pieces, then its waiting uses and all uses of the others, are stages too
abbrev pub FirstLaw : Type 0
FirstLaw = (s : Setting) (uses pure : List Use) (shares : List Share) → AreSharesOf s uses pure shares → (i : ℕ) (share : Share) → slice_get shares i ≡ Some share
    → AreStagesOf s uses pure share.pieces (share.waiting ++ all_uses (others_of i shares))

-- there is a row that joins those of the shares
abbrev pub RowLaw : Type 0
RowLaw = (s : Setting) (uses pure : List Use) (shares : List Share) → AreSharesOf s uses pure shares → (base : Row) (lasts : ℕ → Row) → (last : Row) × JoinsShares base lasts shares last

-- what shares took side by side are the stages of a moment
abbrev pub JoinLaw : Type 0
JoinLaw = (s : Setting) (uses pure : List Use) (shares : List Share) (U : Assignment) (m : ℕ) (inputs base : Row) (lasts : ℕ → Row) (last : Row) (first : Option EquationFailing) (tolds : List (Option EquationFailing))
    → AreRunBeside s uses pure shares U m inputs base lasts last first tolds → AreStages s uses pure shares U m inputs base last first tolds

-- so, where U alone meets the model before it, it is a moment that was run by its stages, with the least of all failures that were told
abbrev pub MomentLaw : Type 0
MomentLaw = (s : Setting) (uses pure : List Use) (shares : List Share) (U : Assignment) (m : ℕ) (inputs base : Row) (lasts : ℕ → Row) (last : Row) (first : Option EquationFailing) (tolds : List (Option EquationFailing))
    → AreRunBeside s uses pure shares U m inputs base lasts last first tolds → IsAloneBefore s U m → (at : Moment) → moment_at s.instants m ≡ Some at
    → (site : Option SiteFailing) → IsFirstSite s (with_row U m base) m site
    → IsRunMoment s uses pure (all_pieces shares) (all_waiting shares) U m at base last site (earliest (first ∷ tolds))
