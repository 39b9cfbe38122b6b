-- What of a list goes to a share.
use Rattle.std.proofs.Common.{◌≡◌, refl, ap, ◌∙◌, sym, subst, ℕ, zero, suc, ◌+◌, ◌<◌, ◌==◌, Bool, true, false, if◌then◌else◌, List, [], ◌∷◌, ◌++◌, length, Some, slice_get, ◌⊎◌, inl, inr, eq-eqb, arith}
use Rattle.std.proofs.lemmas.Bool.Decides.{eqb_tells}
use Rattle.std.proofs.lemmas.Option.{none-some, same_Some}
use Rattle.flat_model.specs.Setting.{Setting}
use Rattle.flat_model.specs.Uses.{Use}
use Rattle.moment_theory.specs.Division.{joined}
use Rattle.moment_theory.specs.Free.{AreFree}
use Rattle.moment_theory.proofs.Members.{IsMember}
use Rattle.moment_theory.proofs.Pieces.{free_front, free_back}
use Rattle.first_failure.proofs.Turning.{member_front, member_back}
use Rattle.share_join.specs.Dealing.{dealt, Deal, dealt_share, shares_from}
use Rattle.share_join.specs.Shares.{Share}
use Rattle.share_join.proofs.Frees.{free_append, front_clear, free_of_fewer, reach_within}
use Rattle.share_join.proofs.Members.{member_either}

module _ {A : Type 0} where
  -- what is dealt stands in the list, at a place of the share
  pub dealt_at : (k : ℕ) (places : List ℕ) (xs : List A) (j : ℕ) (x : A) → slice_get (dealt k places xs) j ≡ Some x → (i : ℕ) × (slice_get places i ≡ Some k) × (slice_get xs i ≡ Some x)
  dealt_at k [] xs j x found = absurd (none-some x found)
  dealt_at k (p ∷ places) [] j x found = absurd (none-some x found)
  dealt_at k (p ∷ places) (own ∷ xs) j x found = by_place (λ n at. let (i, place, there) = dealt_at k places xs n x at in (suc i, place, there)) (eqb_tells p k)
    where
      first_or : ((n : ℕ) → slice_get (dealt k places xs) n ≡ Some x → (i : ℕ) × (slice_get (p ∷ places) i ≡ Some k) × (slice_get (own ∷ xs) i ≡ Some x)) → (n : ℕ) → p ≡ k → slice_get (own ∷ dealt k places xs) n ≡ Some x → (i : ℕ) × (slice_get (p ∷ places) i ≡ Some k) × (slice_get (own ∷ xs) i ≡ Some x)
      first_or later zero same at = (0, ap Some same, at)
      first_or later (suc n) same at = later n at

      by_place : ((n : ℕ) → slice_get (dealt k places xs) n ≡ Some x → (i : ℕ) × (slice_get (p ∷ places) i ≡ Some k) × (slice_get (own ∷ xs) i ≡ Some x))
          → ((p == k ≡ true) × (p ≡ k)) ⊎ ((p == k ≡ false) × (p ≡ k → ⊥)) → (i : ℕ) × (slice_get (p ∷ places) i ≡ Some k) × (slice_get (own ∷ xs) i ≡ Some x)
      by_place later (inl (e, same)) = first_or later j same (subst (λ b. slice_get (if b then (own ∷ dealt k places xs) else dealt k places xs) j ≡ Some x) e found)
      by_place later (inr (e, other)) = later j (subst (λ b. slice_get (if b then (own ∷ dealt k places xs) else dealt k places xs) j ≡ Some x) e found)

  pub at_dealt : (k : ℕ) (places : List ℕ) (xs : List A) (i : ℕ) (x : A) → slice_get places i ≡ Some k → slice_get xs i ≡ Some x → (j : ℕ) × (slice_get (dealt k places xs) j ≡ Some x)
  at_dealt k [] xs i x place found = absurd (none-some k place)
  at_dealt k (p ∷ places) [] i x place found = absurd (none-some x found)
  at_dealt k (p ∷ places) (own ∷ xs) zero x place found = (0, ap (λ b. slice_get (if b then (own ∷ dealt k places xs) else dealt k places xs) 0) (eq-eqb p k (same_Some p k place)) ∙ found)
  at_dealt k (p ∷ places) (own ∷ xs) (suc i) x place found = by_place (eqb_tells p k) (at_dealt k places xs i x place found)
    where
      by_place : ((p == k ≡ true) × (p ≡ k)) ⊎ ((p == k ≡ false) × (p ≡ k → ⊥)) → (j : ℕ) × (slice_get (dealt k places xs) j ≡ Some x)
          → (j : ℕ) × (slice_get (if p == k then (own ∷ dealt k places xs) else dealt k places xs) j ≡ Some x)
      by_place (inl (e, same)) (j, at) = (suc j, ap (λ b. slice_get (if b then (own ∷ dealt k places xs) else dealt k places xs) (suc j)) e ∙ at)
      by_place (inr (e, other)) (j, at) = (j, ap (λ b. slice_get (if b then (own ∷ dealt k places xs) else dealt k places xs) j) e ∙ at)

  -- each has a share
  pub place_of : (places : List ℕ) (xs : List A) → length places ≡ length xs → (i : ℕ) (x : A) → slice_get xs i ≡ Some x → (k : ℕ) × (slice_get places i ≡ Some k)
  place_of places [] long i x found = absurd (none-some x found)
  place_of [] (own ∷ xs) long i x found = absurd (omega (arith, long))
  place_of (p ∷ places) (own ∷ xs) long zero x found = (p, refl)
  place_of (p ∷ places) (own ∷ xs) long (suc i) x found = place_of places xs (omega (arith, long)) i x found

-- ---- uses that are dealt

pub dealt_member : (k : ℕ) (places : List ℕ) (us : List Use) (entry : Use) → IsMember entry (dealt k places us) → IsMember entry us
dealt_member k [] us entry member = absurd member
dealt_member k (p ∷ places) [] entry member = absurd member
dealt_member k (p ∷ places) (u ∷ us) entry member = by_place (λ there. dealt_member k places us entry there) (p == k) member
  where
    by_place : (IsMember entry (dealt k places us) → IsMember entry us) → (b : Bool) → IsMember entry (if b then (u ∷ dealt k places us) else dealt k places us) → IsMember entry (u ∷ us)
    by_place rest true (inl at) = inl at
    by_place rest true (inr behind) = inr (rest behind)
    by_place rest false behind = inr (rest behind)

pub member_dealt : (places : List ℕ) (us : List Use) → length places ≡ length us → (entry : Use) → IsMember entry us → (k : ℕ) × (i : ℕ) × (slice_get places i ≡ Some k) × IsMember entry (dealt k places us)
member_dealt places [] long entry member = absurd member
member_dealt [] (u ∷ us) long entry member = absurd (omega (arith, long))
member_dealt (p ∷ places) (u ∷ us) long entry (inl at) = (p, 0, refl, subst (λ b. IsMember entry (if b then (u ∷ dealt p places us) else dealt p places us)) (sym (eq-eqb p p refl)) (inl at))
member_dealt (p ∷ places) (u ∷ us) long entry (inr behind) =
    let (k, i, place, there) = member_dealt places us (omega (arith, long)) entry behind in
    (k, suc i, place, by_place k (p == k) there)
  where
    by_place : (k : ℕ) (b : Bool) → IsMember entry (dealt k places us) → IsMember entry (if b then (u ∷ dealt k places us) else dealt k places us)
    by_place k true there = inr there
    by_place k false there = there

pub dealt_free : (s : Setting) (k : ℕ) (places : List ℕ) (us : List Use) → AreFree s us → AreFree s (dealt k places us)
dealt_free s k [] us free = tt
dealt_free s k (p ∷ places) [] free = tt
dealt_free s k (p ∷ places) (u ∷ us) (own, free) = by_place (dealt_free s k places us free) (p == k)
  where
    by_place : AreFree s (dealt k places us) → (b : Bool) → AreFree s (if b then (u ∷ dealt k places us) else dealt k places us)
    by_place rest true = (free_of_fewer s u us (dealt k places us) (reach_within (dealt k places us) us (dealt_member k places us)) own, rest)
    by_place rest false = rest

-- ---- pieces that are dealt

pub dealt_within : (k : ℕ) (places : List ℕ) (ps : List (List Use)) (entry : Use) → IsMember entry (joined (dealt k places ps)) → IsMember entry (joined ps)
dealt_within k [] ps entry member = absurd member
dealt_within k (p ∷ places) [] entry member = absurd member
dealt_within k (p ∷ places) (piece ∷ ps) entry member = by_place (λ there. dealt_within k places ps entry there) (p == k) member
  where
    by_place : (IsMember entry (joined (dealt k places ps)) → IsMember entry (joined ps)) → (b : Bool) → IsMember entry (joined (if b then (piece ∷ dealt k places ps) else dealt k places ps)) → IsMember entry (piece ++ joined ps)
    by_place rest true there = elim (member_either piece (joined (dealt k places ps)) entry there) [
      | inl own ↦ member_front piece (joined ps) entry own
      | inr behind ↦ member_back piece (joined ps) entry (rest behind)
    ]
    by_place rest false there = member_back piece (joined ps) entry (rest there)

pub dealt_pieces_free : (s : Setting) (k : ℕ) (places : List ℕ) (ps : List (List Use)) → AreFree s (joined ps) → AreFree s (joined (dealt k places ps))
dealt_pieces_free s k [] ps free = tt
dealt_pieces_free s k (p ∷ places) [] free = tt
dealt_pieces_free s k (p ∷ places) (piece ∷ ps) free = by_place (dealt_pieces_free s k places ps (free_back s piece (joined ps) free)) (p == k)
  where
    by_place : AreFree s (joined (dealt k places ps)) → (b : Bool) → AreFree s (joined (if b then (piece ∷ dealt k places ps) else dealt k places ps))
    by_place rest true = free_append s piece (joined (dealt k places ps)) (free_front s piece (joined ps) free) rest
        (λ entry y member touches reached. front_clear s piece (joined ps) free entry y member touches (reach_within (joined (dealt k places ps)) (joined ps) (dealt_within k places ps) y reached))
    by_place rest false = rest

-- ---- the shares

module _ (deal : Deal) (pieces : List (List Use)) (waiting : List Use) where
  shares_at : (k count i : ℕ) (share : Share) → slice_get (shares_from deal pieces waiting k count) i ≡ Some share → dealt_share deal pieces waiting (k + i) ≡ share
  shares_at k zero i share found = absurd (none-some share found)
  shares_at k (suc count) zero share found = ap (dealt_share deal pieces waiting) (let same : k + 0 ≡ k = omega arith in same) ∙ same_Some (dealt_share deal pieces waiting k) share found
  shares_at k (suc count) (suc i) share found = ap (dealt_share deal pieces waiting) (let same : k + suc i ≡ suc k + i = omega arith in same) ∙ shares_at (suc k) count i share found

  at_shares : (k count i : ℕ) → i < count → slice_get (shares_from deal pieces waiting k count) i ≡ Some (dealt_share deal pieces waiting (k + i))
  at_shares k zero i lt = absurd (omega (arith, lt))
  at_shares k (suc count) zero lt = ap (λ n. Some (dealt_share deal pieces waiting n)) (let same : k ≡ k + 0 = omega arith in same)
  at_shares k (suc count) (suc i) lt = at_shares (suc k) count i (omega (arith, lt)) ∙ ap (λ n. Some (dealt_share deal pieces waiting n)) (let same : suc k + i ≡ k + suc i = omega arith in same)

  pub share_is : (i : ℕ) (share : Share) → slice_get (shares_from deal pieces waiting 0 deal.count) i ≡ Some share → dealt_share deal pieces waiting i ≡ share
  share_is i share found = ap (dealt_share deal pieces waiting) (let same : i ≡ 0 + i = omega arith in same) ∙ shares_at 0 deal.count i share found

  pub share_found : (i : ℕ) → i < deal.count → slice_get (shares_from deal pieces waiting 0 deal.count) i ≡ Some (dealt_share deal pieces waiting i)
  share_found i lt = at_shares 0 deal.count i lt ∙ ap (λ n. Some (dealt_share deal pieces waiting n)) (let same : 0 + i ≡ i = omega arith in same)
