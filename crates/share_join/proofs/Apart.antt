-- What shares need and reach of each other, and a row that joins theirs.
use Rattle.std.proofs.Common.{◌≡◌, ◌≢◌, refl, ap, ◌∙◌, sym, subst, ℕ, List, ◌++◌, map, Contains, Option, Some, slice_get, ◌⊎◌, inl, inr}
use Rattle.std.proofs.lemmas.Bool.{false≢true}
use Rattle.sync_values.specs.declared.value.Value.{Value}
use Rattle.flat_model.specs.Given.{Row}
use Rattle.flat_model.specs.Setting.{Setting}
use Rattle.flat_model.specs.Uses.{Use, SiteReads}
use Rattle.moment_theory.specs.Division.{joined}
use Rattle.moment_theory.specs.Free.{IsReachedBy, AreFree}
use Rattle.moment_theory.specs.Pieces.{Needs}
use Rattle.moment_theory.proofs.Beside.{reached_either, reached_first, reached_second}
use Rattle.moment_theory.proofs.GivenByOrder.{not_input}
use Rattle.moment_theory.proofs.Members.{contains_member, reached_member}
use Rattle.moment_theory.proofs.Pieces.{free_front, free_back, reached_twice}
use Rattle.moment_theory.proofs.Running.{IsReady}
use Rattle.moment_theory.proofs.Settled.{model}
use Rattle.moment_join.proofs.Fronts.{reached_or}
use Rattle.share_join.specs.Shares.{Share, own_uses, all_pieces, all_waiting, AreSharesOf}
use Rattle.share_join.specs.Taking.{JoinsShares}
use Rattle.share_join.proofs.Places.{at_map, map_at, piece_uses, joined_pieces, reached_once, of_one, in_all}

-- the waiting uses of a share
abbrev pub waiting_of : Share → List Use
waiting_of share = share.waiting

module _ (s : Setting) (uses pure : List Use) (shares : List Share) (is : AreSharesOf s uses pure shares) where
  -- the uses behind the pure ones
  abbrev pub later : List Use
  later = joined (all_pieces shares) ++ all_waiting shares

  abbrev pub order : List Use
  order = pure ++ later

  pub settled : IsReady s order
  settled = model s uses order is.staged.ordered

  pub later_free : AreFree s later
  later_free = free_back s pure later is.staged.ordered.free

  pub waiting_free : AreFree s (all_waiting shares)
  waiting_free = free_back s (joined (all_pieces shares)) (all_waiting shares) later_free

  pub pieces_free : AreFree s (joined (map piece_uses shares))
  pieces_free = subst (AreFree s) (joined_pieces shares) (free_front s (joined (all_pieces shares)) (all_waiting shares) later_free)

  -- ---- what a share reaches

  pub pieces_reach : (i : ℕ) (share : Share) → slice_get shares i ≡ Some share → (y : ℕ) → IsReachedBy y (piece_uses share) → IsReachedBy y (joined (all_pieces shares))
  pieces_reach i share found y reached = subst (IsReachedBy y) (sym (joined_pieces shares)) (in_all piece_uses shares i share found y reached)

  pub pieces_of_one : (y : ℕ) → IsReachedBy y (joined (all_pieces shares)) → (i : ℕ) × (share : Share) × (slice_get shares i ≡ Some share) × IsReachedBy y (piece_uses share)
  pieces_of_one y reached = of_one piece_uses shares y (subst (IsReachedBy y) (joined_pieces shares) reached)

  pub waiting_reach : (i : ℕ) (share : Share) → slice_get shares i ≡ Some share → (y : ℕ) → IsReachedBy y share.waiting → IsReachedBy y (all_waiting shares)
  waiting_reach i share found y reached = in_all waiting_of shares i share found y reached

  pub own_reach : (i : ℕ) (share : Share) → slice_get shares i ≡ Some share → (y : ℕ) → IsReachedBy y (own_uses share) → IsReachedBy y later
  own_reach i share found y reached = elim (reached_either (piece_uses share) share.waiting y reached) [
    | inl own ↦ reached_first (joined (all_pieces shares)) (all_waiting shares) y (pieces_reach i share found y own)
    | inr waits ↦ reached_second (joined (all_pieces shares)) (all_waiting shares) y (waiting_reach i share found y waits)
  ]

  -- what the pieces reach, no waiting use does
  pub not_both : (y : ℕ) → IsReachedBy y (joined (all_pieces shares)) → IsReachedBy y (all_waiting shares) → ⊥
  not_both y one two = reached_twice s (joined (all_pieces shares)) (all_waiting shares) later_free y one two

  -- no two shares reach the same name
  pub own_once : (i j : ℕ) (share other : Share) → slice_get shares i ≡ Some share → slice_get shares j ≡ Some other → (y : ℕ) → IsReachedBy y (own_uses share) → IsReachedBy y (own_uses other) → i ≡ j
  own_once i j share other found there y here two = by_stage (reached_either (piece_uses share) share.waiting y here) (reached_either (piece_uses other) other.waiting y two)
    where
      by_stage : IsReachedBy y (piece_uses share) ⊎ IsReachedBy y share.waiting → IsReachedBy y (piece_uses other) ⊎ IsReachedBy y other.waiting → i ≡ j
      by_stage (inl a) (inl b) = reached_once s (map piece_uses shares) pieces_free i j (piece_uses share) (piece_uses other) (at_map piece_uses shares i share found) (at_map piece_uses shares j other there) y a b
      by_stage (inr a) (inr b) = reached_once s (map waiting_of shares) waiting_free i j share.waiting other.waiting (at_map waiting_of shares i share found) (at_map waiting_of shares j other there) y a b
      by_stage (inl a) (inr b) = absurd (not_both y (pieces_reach i share found y a) (waiting_reach j other there y b))
      by_stage (inr a) (inl b) = absurd (not_both y (pieces_reach j other there y b) (waiting_reach i share found y a))

  -- ---- what a share needs

  -- no condition of a site reads what is reached behind the pure uses
  pub site_early : (class : Option ℕ) (y : ℕ) → SiteReads s class y → IsReachedBy y later → ⊥
  site_early class y (site, factor, shift, condition, clock, at, some) reached = elim (is.reach site y condition at some) [
    | inl early ↦ reached_twice s pure later is.staged.ordered.free y early reached
    | inr (name, found, input) ↦ false≢true (sym (not_input s order settled.order y (reached_second pure later y reached) name found) ∙ input)
  ]

  -- a waiting use needs and reaches nothing that another share reaches
  pub needs_apart : (i j : ℕ) (share other : Share) → i ≢ j → slice_get shares i ≡ Some share → slice_get shares j ≡ Some other → (entry : Use) (y : ℕ) → Contains share.waiting entry → (y ≡ entry.name) ⊎ Needs s entry y → IsReachedBy y (own_uses other) → ⊥
  needs_apart i j share other apart found there entry y own (inl at) reached = apart (own_once i j share other found there y
      (reached_second (piece_uses share) share.waiting y (subst (λ z. IsReachedBy z share.waiting) (sym at) (reached_member share.waiting entry (contains_member entry share.waiting own)))) reached)
  needs_apart i j share other apart found there entry y own (inr (inl (not_own, reads))) reached = is.apart i j share other apart found there entry y own reads reached
  needs_apart i j share other apart found there entry y own (inr (inr (class, asks, reads))) reached = site_early class y reads (own_reach j other there y reached)

  -- ---- a joined row

  module _ (base : Row) (lasts : ℕ → Row) where
    abbrev all : List Use
    all = joined (map own_uses shares)

    abbrev joined_at : (y : ℕ) → IsReachedBy y all ⊎ (IsReachedBy y all → ⊥) → Option Value
    joined_at y (inl reached) = lasts (of_one own_uses shares y reached).0 y
    joined_at y (inr none) = base y

    abbrev joined_row : Row
    joined_row y = joined_at y (reached_or all y)

    own_at : (i : ℕ) (share : Share) (y : ℕ) → slice_get shares i ≡ Some share → IsReachedBy y (own_uses share) → (d : IsReachedBy y all ⊎ (IsReachedBy y all → ⊥)) → joined_at y d ≡ lasts i y
    own_at i share y found reached (inr none) = absurd (none (in_all own_uses shares i share found y reached))
    own_at i share y found reached (inl there) =
        let (j, other, at, also) = of_one own_uses shares y there in
        ap (λ k. lasts k y) (own_once j i other share at found y also reached)

    rest_at : (y : ℕ) → (IsReachedBy y all → ⊥) → (d : IsReachedBy y all ⊎ (IsReachedBy y all → ⊥)) → joined_at y d ≡ base y
    rest_at y none (inl reached) = absurd (none reached)
    rest_at y none (inr also) = refl

    pub joins_shares : (last : Row) × JoinsShares base lasts shares last
    joins_shares = (
      joined_row,
      record {
        own = λ i us y found reached. let (share, at, same) = map_at own_uses shares i us found in own_at i share y at (subst (IsReachedBy y) (sym same) reached) (reached_or all y);
        rest = λ y none. rest_at y none (reached_or all y);
      },
    )
