-- Shares of which none names what another reaches.
use Rattle.std.proofs.Common.{◌≡◌, ℕ, List, Some, slice_get, inl, inr, arith}
use Rattle.flat_model.specs.declared.equation.Equation.{Equation}
use Rattle.flat_model.specs.declared.equation.Equation.TheVariants.{Valued, Clocks}
use Rattle.flat_model.specs.declared.expression.Expr.{Expr}
use Rattle.flat_model.specs.Setting.{Setting}
use Rattle.flat_model.specs.Uses.{Use, ReadsIn, EquationReads}
use Rattle.flat_model.proofs.Links.{asked_bare, asked_last}
use Rattle.moment_theory.specs.Division.{joined}
use Rattle.moment_theory.proofs.Members.{contains_member, member_contains}
use Rattle.first_failure.proofs.Turning.{member_front, member_back}
use Rattle.moment_join.specs.Sites.{ReachSites}
use Rattle.moment_join.specs.Staged.{AreStagesOf}
use Rattle.moment_join.proofs.Joined.{piece_within}
use Rattle.part_groups.specs.Units.{Names, EquationNames}
use Rattle.share_join.specs.Dealing.{Deal, dealt_shares, IsDealOf, ReadApart}
use Rattle.share_join.specs.Shares.{Share, own_uses, AreSharesOf, ReadNothingOf, others_of}
use Rattle.share_join.proofs.Dealing.{deals}
use Rattle.share_join.proofs.Leading.{leads, other_at}
use Rattle.share_join.proofs.Places.{of_one}
use Rattle.share_run.specs.Shares.{AskNothingOf, IsShareOf}
use Rattle.share_moments.specs.Sharing.{AskApart, AreShares, uses_beside, division_at}

-- ---- what is read is named

side_names : (s : Setting) (i : ℕ) (e : Expr) (y : ℕ) → ReadsIn s i e y → Names e y
side_names s i e y (inl bare) = (0, inl (let same = asked_bare y e in omega (arith, bare, same)))
side_names s i e y (inr (inl held)) = (0, inr (inl (let same = asked_last y e in omega (arith, held, same))))
side_names s i e y (inr (inr (converted, meet))) = (0, inr (inl (let same = asked_last y e in omega (arith, converted, same))))

reads_names : (s : Setting) (i : ℕ) (equation : Equation) (y : ℕ) → EquationReads s i equation y → EquationNames equation y
reads_names s i (Valued left right clause) y (inl reads) = inl (side_names s i left y reads)
reads_names s i (Valued left right clause) y (inr reads) = inr (side_names s i right y reads)
reads_names s i (Clocks left right clause) y reads = absurd reads

pub read_nothing : (s : Setting) (own others : List Use) → AskNothingOf s own others → ReadNothingOf s own others
read_nothing s own others asks entry y used (equation, found, reads) reached = asks entry equation y used found (reads_names s entry.equation equation y reads) reached

read_apart : (s : Setting) (shares : List Share) → AskApart s shares → ReadApart s shares
read_apart s shares asks i j share other apart found there = read_nothing s share.waiting (own_uses other)
    (λ entry equation y used. asks i j share other apart found there entry equation y
    (member_contains entry (own_uses share) (member_back (joined share.pieces) share.waiting entry (contains_member entry share.waiting used))))

pub dealt_apart : (s : Setting) (uses pure : List Use) (pieces : List (List Use)) (waiting : List Use) → AreStagesOf s uses pure pieces waiting → ReachSites s pure → (deal : Deal) → IsDealOf deal pieces waiting
    → AskApart s (dealt_shares deal pieces waiting) → AreShares s uses pure (dealt_shares deal pieces waiting)
dealt_apart s uses pure pieces waiting is reach deal of asks = record {
  staged = (deals s uses pure pieces waiting is reach deal of (read_apart s (dealt_shares deal pieces waiting) asks)).staged;
  reach = reach;
  asks = asks;
}

module _ (s : Setting) (uses pure : List Use) (shares : List Share) (are : AreShares s uses pure shares) where
  pub beside : AreSharesOf s uses pure shares
  beside = record {
    staged = are.staged;
    reach = are.reach;
    apart = read_apart s shares are.asks;
  }

  module _ (i : ℕ) (share : Share) (found : slice_get shares i ≡ Some share) where
    -- a share names nothing of all others
    asks_beside : AskNothingOf s (own_uses share) (uses_beside i shares)
    asks_beside entry equation y used at names reached =
        let (k, other, there, own) = of_one own_uses (others_of i shares) y reached in
        let (j, apart, place) = other_at shares i k other there in
        are.asks i j share other apart found place entry equation y used at names own

    pub is_share : IsShareOf s uses (division_at pure shares i share)
    is_share = record {
      staged = leads s uses pure shares beside i share found;
      reach = are.reach;
      pieces_alone = λ j piece at entry equation y used. asks_beside entry equation y
          (member_contains entry (own_uses share) (member_front (joined share.pieces) share.waiting entry (piece_within share.pieces j piece at entry (contains_member entry piece used))));
      waiting_alone = λ entry equation y used. asks_beside entry equation y
          (member_contains entry (own_uses share) (member_back (joined share.pieces) share.waiting entry (contains_member entry share.waiting used)));
    }
