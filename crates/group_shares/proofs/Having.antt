-- What each share has of groups that were given to shares.
use Rattle.std.proofs.Common.{◌≡◌, refl, ap, ◌∙◌, sym, subst, ℕ, zero, suc, ◌+◌, ◌<◌, ◌==◌, Bool, true, false, if◌then◌else◌, List, [], ◌∷◌, map, take, drop, length, Some, slice_get, arith}
use Rattle.std.specs.List.{range_with_len}
use Rattle.std.proofs.lemmas.Option.{none-some, same_Some}
use Rattle.flat_model.specs.Uses.{Use}
use Rattle.moment_order.specs.declared.stage.Stage.{Stage}
use Rattle.moment_order.specs.declared.stage.Stage.TheVariants.{Partition, Waiting}
use Rattle.moment_order.specs.Stages.{uses_at, parts_at}
use Rattle.share_join.specs.Dealing.{dealt, Deal, dealt_share, shares_from}
use Rattle.share_join.specs.Shares.{Share}
use Rattle.share_join.proofs.Dealt.{dealt_at, at_dealt, share_is}
use Rattle.share_join.proofs.Places.{at_map, map_at}
use Rattle.group_shares.specs.Dividing.{group_deal, shares_of_groups, IsGivenTo, partitions_of, HasItsGroups}

-- ---- lists

module _ {A B : Type 0} (f : A → B) where
  -- what is dealt of the images is the images of what is dealt
  dealt_map : (k : ℕ) (places : List ℕ) (xs : List A) → dealt k places (map f xs) ≡ map f (dealt k places xs)
  dealt_map k [] xs = refl
  dealt_map k (p ∷ places) [] = refl
  dealt_map k (p ∷ places) (x ∷ xs) = by_place (p == k) (dealt_map k places xs)
    where
      by_place : (b : Bool) → dealt k places (map f xs) ≡ map f (dealt k places xs) → (if b then (f x ∷ dealt k places (map f xs)) else dealt k places (map f xs)) ≡ map f (if b then (x ∷ dealt k places xs) else dealt k places xs)
      by_place true same = ap (λ ys. f x ∷ ys) same
      by_place false same = same

numbers_at : (a n i p : ℕ) → slice_get (range_with_len a n) i ≡ Some p → (i < n) × (a + i ≡ p)
numbers_at a zero i p found = absurd (none-some p found)
numbers_at a (suc n) zero p found = (omega arith, (let same : a + 0 ≡ a = omega arith in same) ∙ same_Some a p found)
numbers_at a (suc n) (suc i) p found = let (lt, same) = numbers_at (a + 1) n i p found in (omega (arith, lt), omega (arith, same))

at_numbers : (a n i : ℕ) → i < n → slice_get (range_with_len a n) i ≡ Some (a + i)
at_numbers a zero i lt = absurd (omega (arith, lt))
at_numbers a (suc n) zero lt = ap Some (let same : a ≡ a + 0 = omega arith in same)
at_numbers a (suc n) (suc i) lt = at_numbers (a + 1) n i (omega (arith, lt)) ∙ ap Some (let same : a + 1 + i ≡ a + suc i = omega arith in same)

module _ {A : Type 0} where
  at_take : (n : ℕ) (xs : List A) (i : ℕ) (x : A) → slice_get (take n xs) i ≡ Some x → slice_get xs i ≡ Some x
  at_take zero xs i x found = absurd (none-some x found)
  at_take (suc n) [] i x found = absurd (none-some x found)
  at_take (suc n) (own ∷ xs) zero x found = found
  at_take (suc n) (own ∷ xs) (suc i) x found = at_take n xs i x found

  take_at : (n : ℕ) (xs : List A) (i : ℕ) (x : A) → i < n → slice_get xs i ≡ Some x → slice_get (take n xs) i ≡ Some x
  take_at zero xs i x lt found = absurd (omega (arith, lt))
  take_at (suc n) [] i x lt found = absurd (none-some x found)
  take_at (suc n) (own ∷ xs) zero x lt found = found
  take_at (suc n) (own ∷ xs) (suc i) x lt found = take_at n xs i x (omega (arith, lt)) found

  drop_at : (n : ℕ) (xs : List A) (i : ℕ) → slice_get (drop n xs) i ≡ slice_get xs (n + i)
  drop_at zero xs i = ap (slice_get xs) (let same : i ≡ 0 + i = omega arith in same)
  drop_at (suc n) [] i = refl
  drop_at (suc n) (own ∷ xs) i = drop_at n xs i ∙ ap (slice_get (own ∷ xs)) (let same : suc (n + i) ≡ suc n + i = omega arith in same)

parts_are : (stages : List Stage) (uses : List Use) (k count : ℕ) → parts_at stages uses k count ≡ map (λ p. uses_at (Partition p) stages uses) (range_with_len k count)
parts_are stages uses k zero = refl
parts_are stages uses k (suc count) =
    ap (λ rest. uses_at (Partition k) stages uses ∷ rest)
    (parts_are stages uses (suc k) count ∙ ap (λ n. map (λ p. uses_at (Partition p) stages uses) (range_with_len n count)) (let same : suc k ≡ k + 1 = omega arith in same))

-- ---- the shares

shares_long : (deal : Deal) (pieces : List (List Use)) (waiting : List Use) (k count : ℕ) → length (shares_from deal pieces waiting k count) ≡ count
shares_long deal pieces waiting k zero = refl
shares_long deal pieces waiting k (suc count) = ap suc (shares_long deal pieces waiting (suc k) count)

module _ (share_of : ℕ → ℕ) (number count : ℕ) (stages : List Stage) (uses : List Use) (groups : List ℕ) where
  abbrev deal : Deal
  deal = group_deal share_of number count groups

  abbrev pieces : List (List Use)
  pieces = parts_at stages uses 0 count

  abbrev waiting : List Use
  waiting = uses_at Waiting stages uses

  pub so_many : length (shares_of_groups share_of number count stages uses groups) ≡ number
  so_many = shares_long deal pieces waiting 0 number

  module _ (k : ℕ) where
    given : (j p : ℕ) → slice_get (partitions_of share_of count groups k) j ≡ Some p → (p < count) × IsGivenTo share_of groups k p
    given j p found =
        let (i, place, at) = dealt_at k deal.pieces (range_with_len 0 count) j p found in
        let (lt, same) = numbers_at 0 count i p at in
        let here : i ≡ p = omega (arith, same) in
        let (group, there, is) = map_at share_of (take count groups) i k place in
        (omega (arith, lt, here), (group, subst (λ n. slice_get groups n ≡ Some group) here (at_take count groups i group there), is))

    all : (p : ℕ) → p < count → IsGivenTo share_of groups k p → (j : ℕ) × (slice_get (partitions_of share_of count groups k) j ≡ Some p)
    all p lt (group, found, is) =
        at_dealt k deal.pieces (range_with_len 0 count) p p
        (at_map share_of (take count groups) p group (take_at count groups p group lt found) ∙ ap Some is)
        (at_numbers 0 count p lt ∙ ap Some (let same : 0 + p ≡ p = omega arith in same))

    waiting_given : (j : ℕ) (entry : Use) → slice_get (dealt k deal.waiting waiting) j ≡ Some entry → (i : ℕ) × (slice_get waiting i ≡ Some entry) × IsGivenTo share_of groups k (count + i)
    waiting_given j entry found =
        let (i, place, at) = dealt_at k deal.waiting waiting j entry found in
        let (group, there, is) = map_at share_of (drop count groups) i k place in
        (i, at, (group, sym (drop_at count groups i) ∙ there, is))

    waiting_all : (i : ℕ) (entry : Use) → slice_get waiting i ≡ Some entry → IsGivenTo share_of groups k (count + i) → (j : ℕ) × (slice_get (dealt k deal.waiting waiting) j ≡ Some entry)
    waiting_all i entry at (group, found, is) =
        at_dealt k deal.waiting waiting i entry (at_map share_of (drop count groups) i group (drop_at count groups i ∙ found) ∙ ap Some is) at

    dealt_has : HasItsGroups share_of count stages uses groups k (dealt_share deal pieces waiting k)
    dealt_has = record {
      pieces_are = ap (dealt k deal.pieces) (parts_are stages uses 0 count) ∙ dealt_map (λ p. uses_at (Partition p) stages uses) k deal.pieces (range_with_len 0 count);
      given = given;
      all = all;
      waiting_given = waiting_given;
      waiting_all = waiting_all;
    }

    pub has : (share : Share) → slice_get (shares_of_groups share_of number count stages uses groups) k ≡ Some share → HasItsGroups share_of count stages uses groups k share
    has share found = subst (HasItsGroups share_of count stages uses groups k) (share_is deal pieces waiting k share found) dealt_has
