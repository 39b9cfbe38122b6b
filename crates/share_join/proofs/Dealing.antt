-- The stages of a moment, dealt to shares.
use Rattle.std.proofs.Common.{◌≡◌, ◌≢◌, ap, ◌∙◌, sym, subst, ℕ, ◌<◌, List, ◌++◌, map, Contains, Option, Some, slice_get, inl, inr, arith}
use Rattle.std.proofs.lemmas.Bool.{cases_eq, false≢true}
use Rattle.std.proofs.lemmas.Option.{same_Some}
use Rattle.flat_model.specs.declared.equation.Equation.TheVariants.{Valued}
use Rattle.flat_model.specs.Setting.{Setting}
use Rattle.flat_model.specs.Uses.{Use, Reads, SiteReads}
use Rattle.moment_theory.specs.Division.{joined}
use Rattle.moment_theory.specs.Free.{IsReachedBy, AreFree, IsOrdered}
use Rattle.moment_theory.specs.Pieces.{AreApart}
use Rattle.moment_theory.proofs.Beside.{reached_second}
use Rattle.moment_theory.proofs.Facts.{facts_of_use}
use Rattle.moment_theory.proofs.GivenByOrder.{not_input}
use Rattle.moment_theory.proofs.Members.{IsMember, contains_member, member_contains}
use Rattle.moment_theory.proofs.Pieces.{free_front, free_back, reached_twice}
use Rattle.moment_theory.proofs.Settled.{model}
use Rattle.moment_theory.proofs.Stands.{stands_bare}
use Rattle.first_failure.proofs.Turning.{member_front, member_back}
use Rattle.moment_join.specs.Sites.{ReachSites}
use Rattle.moment_join.specs.Staged.{AreStagesOf}
use Rattle.moment_join.proofs.Fronts.{reached_piece}
use Rattle.moment_join.proofs.Joined.{piece_within}
use Rattle.share_join.specs.Dealing.{Deal, dealt_share, dealt_shares, IsDealOf, ReadApart}
use Rattle.share_join.specs.Shares.{Share, all_pieces, all_waiting, AreSharesOf}
use Rattle.share_join.proofs.Apart.{waiting_of}
use Rattle.share_join.proofs.Dealt.{dealt_at, at_dealt, place_of, dealt_member, member_dealt, dealt_free, dealt_within, dealt_pieces_free, share_is, share_found}
use Rattle.share_join.proofs.Frees.{Touches, Clear, free_append, front_clear, joined_free, reach_within}
use Rattle.share_join.proofs.Members.{member_either, piece_member, member_joined}
use Rattle.share_join.proofs.Places.{at_map, map_at, piece_uses, joined_pieces, reached_once, OfShare, piece_of_share}

module _ (s : Setting) (uses pure : List Use) (pieces : List (List Use)) (waiting : List Use) (is : AreStagesOf s uses pure pieces waiting) (reach : ReachSites s pure)
    (deal : Deal) (of : IsDealOf deal pieces waiting) (apart : ReadApart s (dealt_shares deal pieces waiting)) where
  abbrev shares : List Share
  shares = dealt_shares deal pieces waiting

  abbrev later : List Use
  later = joined pieces ++ waiting

  later_free : AreFree s later
  later_free = free_back s pure later is.ordered.free

  -- no condition of a site reads what is reached behind the pure uses
  site_early : (class : Option ℕ) (y : ℕ) → SiteReads s class y → IsReachedBy y later → ⊥
  site_early class y (site, factor, shift, condition, clock, at, some) reached = elim (reach site y condition at some) [
    | inl early ↦ reached_twice s pure later is.ordered.free y early reached
    | inr (name, found, input) ↦ false≢true (sym (not_input s (pure ++ later) (model s uses (pure ++ later) is.ordered).order y (reached_second pure later y reached) name found) ∙ input)
  ]

  -- ---- what a share was dealt

  module _ (i : ℕ) (share : Share) (found : slice_get shares i ≡ Some share) where
    same : dealt_share deal pieces waiting i ≡ share
    same = share_is deal pieces waiting i share found

    piece_from : (j : ℕ) (piece : List Use) → slice_get share.pieces j ≡ Some piece → (k : ℕ) × (slice_get deal.pieces k ≡ Some i) × (slice_get pieces k ≡ Some piece)
    piece_from j piece at = dealt_at i deal.pieces pieces j piece (ap (λ h. slice_get h.pieces j) same ∙ at)

    pieces_from : (entry : Use) → IsMember entry (piece_uses share) → IsMember entry (joined pieces)
    pieces_from entry member = dealt_within i deal.pieces pieces entry (subst (λ h. IsMember entry (piece_uses h)) (sym same) member)

    waiting_from : (entry : Use) → IsMember entry share.waiting → IsMember entry waiting
    waiting_from entry member = dealt_member i deal.waiting waiting entry (subst (λ h. IsMember entry h.waiting) (sym same) member)

    own_pieces_free : AreFree s (piece_uses share)
    own_pieces_free = subst (λ h. AreFree s (piece_uses h)) same (dealt_pieces_free s i deal.pieces pieces (free_front s (joined pieces) waiting later_free))

    own_waiting_free : AreFree s share.waiting
    own_waiting_free = subst (λ h. AreFree s h.waiting) same (dealt_free s i deal.waiting waiting (free_back s (joined pieces) waiting later_free))

    in_uses : (entry : Use) → IsMember entry share.waiting → Contains uses entry
    in_uses entry member = is.ordered.same.only entry (member_contains entry (pure ++ later) (member_back pure later entry (member_back (joined pieces) waiting entry (waiting_from entry member))))

    -- a use reads its own name
    reads_own : (entry : Use) → IsMember entry share.waiting → Reads s entry.equation entry.name
    reads_own entry member =
        let facts = facts_of_use s uses is.ordered.uses_are.uses_are entry (in_uses entry member) in (
          Valued facts.left facts.right facts.clause,
          facts.found,
          elim facts.solvable.1 [
            | inl left ↦ inl (inl (stands_bare entry.name facts.left left))
            | inr right ↦ inr (inl (stands_bare entry.name facts.right right))
          ],
        )

    -- no piece of it touches what another share's pieces reach
    pieces_clear : (j : ℕ) (other : Share) → i ≢ j → slice_get shares j ≡ Some other → Clear s (piece_uses share) (piece_uses other)
    pieces_clear j other differ there entry y member touches reached =
        let (a, one, one_at, own) = piece_member share.pieces entry member in
        let (b, two, two_at, reaches) = reached_piece other.pieces y reached in
        let (k, k_of, k_at) = piece_from a one one_at in
        let (n, n_of, n_at) = dealt_at j deal.pieces pieces b two (ap (λ h. slice_get h.pieces b) (share_is deal pieces waiting j other there) ∙ two_at) in
        is.apart k n one two entry y (λ e. differ (same_Some i j (sym k_of ∙ ap (slice_get deal.pieces) e ∙ n_of))) k_at n_at (member_contains entry one own) touches reaches

    waiting_clear : (j : ℕ) (other : Share) → i ≢ j → slice_get shares j ≡ Some other → Clear s share.waiting other.waiting
    waiting_clear j other differ there entry y member touches reached = by_touch touches
      where
        own_other : IsReachedBy y (piece_uses other ++ other.waiting)
        own_other = reached_second (piece_uses other) other.waiting y reached

        in_later : IsReachedBy y later
        in_later = reached_second (joined pieces) waiting y (reach_within other.waiting waiting (λ e h. dealt_member j deal.waiting waiting e (subst (λ z. IsMember e z.waiting) (sym (share_is deal pieces waiting j other there)) h)) y reached)

        by_touch : Touches s entry y → ⊥
        by_touch (inl at) = apart i j share other differ found there entry y (member_contains entry share.waiting member) (subst (Reads s entry.equation) (sym at) (reads_own entry member)) own_other
        by_touch (inr (inl (not_own, reads))) = apart i j share other differ found there entry y (member_contains entry share.waiting member) reads own_other
        by_touch (inr (inr (class, asks, reads))) = site_early class y reads in_later

  -- ---- all shares

  below : (i j : ℕ) → i < j → i ≢ j
  below i j lt e = omega (arith, lt, e)

  all_pieces_free : AreFree s (joined (all_pieces shares))
  all_pieces_free = subst (AreFree s) (sym (joined_pieces shares)) (joined_free s (map piece_uses shares)
      (λ i us at. let (share, found, e) = map_at piece_uses shares i us at in subst (AreFree s) e (own_pieces_free i share found))
      (λ i j us ws lt at there.
      let (share, found, e) = map_at piece_uses shares i us at in
      let (other, other_found, f) = map_at piece_uses shares j ws there in
      subst (λ xs. Clear s xs ws) e (subst (Clear s (piece_uses share)) f (pieces_clear i share found j other (below i j lt) other_found))))

  all_waiting_free : AreFree s (all_waiting shares)
  all_waiting_free = joined_free s (map waiting_of shares)
      (λ i us at. let (share, found, e) = map_at waiting_of shares i us at in subst (AreFree s) e (own_waiting_free i share found))
      (λ i j us ws lt at there.
      let (share, found, e) = map_at waiting_of shares i us at in
      let (other, other_found, f) = map_at waiting_of shares j ws there in
      subst (λ xs. Clear s xs ws) e (subst (Clear s share.waiting) f (waiting_clear i share found j other (below i j lt) other_found)))

  pieces_within : (entry : Use) → IsMember entry (joined (all_pieces shares)) → IsMember entry (joined pieces)
  pieces_within entry member =
      let (i, share, found, own) = member_joined piece_uses shares entry (subst (IsMember entry) (joined_pieces shares) member) in
      pieces_from i share found entry own

  waiting_within : (entry : Use) → IsMember entry (all_waiting shares) → IsMember entry waiting
  waiting_within entry member = let (i, share, found, own) = member_joined waiting_of shares entry member in waiting_from i share found entry own

  abbrev dealt_later : List Use
  dealt_later = joined (all_pieces shares) ++ all_waiting shares

  later_within : (entry : Use) → IsMember entry dealt_later → IsMember entry later
  later_within entry member = elim (member_either (joined (all_pieces shares)) (all_waiting shares) entry member) [
    | inl early ↦ member_front (joined pieces) waiting entry (pieces_within entry early)
    | inr late ↦ member_back (joined pieces) waiting entry (waiting_within entry late)
  ]

  dealt_later_free : AreFree s dealt_later
  dealt_later_free = free_append s (joined (all_pieces shares)) (all_waiting shares) all_pieces_free all_waiting_free (λ entry y member touches reached.
      front_clear s (joined pieces) waiting later_free entry y (pieces_within entry member) touches (reach_within (all_waiting shares) waiting waiting_within y reached))

  order_free : AreFree s (pure ++ dealt_later)
  order_free = free_append s pure dealt_later (free_front s pure later is.ordered.free) dealt_later_free (λ entry y member touches reached.
      front_clear s pure later is.ordered.free entry y member touches (reach_within dealt_later later later_within y reached))

  -- ---- each use goes to a share

  pieces_dealt : (entry : Use) → IsMember entry (joined pieces) → IsMember entry (joined (all_pieces shares))
  pieces_dealt entry member =
      let (n, piece, at, own) = piece_member pieces entry member in
      let (k, place) = place_of deal.pieces pieces of.pieces_long n piece at in
      let (j, there) = at_dealt k deal.pieces pieces n piece place at in
      subst (IsMember entry) (sym (joined_pieces shares))
      (piece_within (map piece_uses shares) k (piece_uses (dealt_share deal pieces waiting k)) (at_map piece_uses shares k (dealt_share deal pieces waiting k) (share_found deal pieces waiting k (of.pieces_within n k place))) entry
      (piece_within (dealt_share deal pieces waiting k).pieces j piece there entry own))

  waiting_dealt : (entry : Use) → IsMember entry waiting → IsMember entry (all_waiting shares)
  waiting_dealt entry member =
      let (k, n, place, there) = member_dealt deal.waiting waiting of.waiting_long entry member in
      piece_within (map waiting_of shares) k (waiting_of (dealt_share deal pieces waiting k)) (at_map waiting_of shares k (dealt_share deal pieces waiting k) (share_found deal pieces waiting k (of.waiting_within n k place))) entry there

  later_dealt : (entry : Use) → IsMember entry later → IsMember entry dealt_later
  later_dealt entry member = elim (member_either (joined pieces) waiting entry member) [
    | inl early ↦ member_front (joined (all_pieces shares)) (all_waiting shares) entry (pieces_dealt entry early)
    | inr late ↦ member_back (joined (all_pieces shares)) (all_waiting shares) entry (waiting_dealt entry late)
  ]

  moved : (xs ys : List Use) → ((entry : Use) → IsMember entry xs → IsMember entry ys) → (entry : Use) → Contains (pure ++ xs) entry → Contains (pure ++ ys) entry
  moved xs ys within entry own = member_contains entry (pure ++ ys) (elim (member_either pure xs entry (contains_member entry (pure ++ xs) own)) [
    | inl early ↦ member_front pure ys entry early
    | inr behind ↦ member_back pure ys entry (within entry behind)
  ])

  dealt_ordered : IsOrdered s uses (pure ++ dealt_later)
  dealt_ordered = record {
    runs = is.ordered.runs;
    uses_are = is.ordered.uses_are;
    same = record {
      all = λ entry used. moved later dealt_later later_dealt entry (is.ordered.same.all entry used);
      only = λ entry own. is.ordered.same.only entry (moved dealt_later later later_within entry own);
    };
    free = order_free;
  }

  -- pieces of all shares need nothing of each other
  dealt_apart : AreApart s (all_pieces shares)
  dealt_apart n p piece other entry y differ at there own touches reached =
      let one : OfShare shares piece = piece_of_share shares n piece at in
      let two : OfShare shares other = piece_of_share shares p other there in
      let (k, k_of, k_at) = piece_from one.place one.share one.found one.number piece one.at in
      let (l, l_of, l_at) = piece_from two.place two.share two.found two.number other two.at in elim (cases_eq k l) [
        | inl same_place ↦ differ (reached_once s (all_pieces shares) all_pieces_free n p piece other at there y (subst (IsReachedBy y) (same_Some other piece (sym l_at ∙ ap (slice_get pieces) (sym same_place) ∙ k_at)) reached) reached)
        | inr apart_places ↦ is.apart k l piece other entry y apart_places k_at l_at own touches reached
      ]

  pub deals : AreSharesOf s uses pure shares
  deals = record {
    staged = record { ordered = dealt_ordered; clockless = is.clockless; apart = dealt_apart };
    reach = reach;
    apart = apart;
  }
