-- A share before all others.
use Rattle.std.proofs.Common.{◌≡◌, ◌≢◌, refl, ap, ◌∙◌, sym, subst, ℕ, zero, suc, ◌+◌, List, [], ◌∷◌, ◌++◌, map, Contains, Some, slice_get, ◌⊎◌, inl, inr, arith}
use Rattle.std.proofs.lemmas.Bool.{cases_eq}
use Rattle.std.proofs.lemmas.Option.{none-some, same_Some}
use Rattle.flat_model.specs.Setting.{Setting}
use Rattle.flat_model.specs.Uses.{Use}
use Rattle.moment_theory.specs.Division.{joined}
use Rattle.moment_theory.specs.Free.{IsReachedBy, AreFree, IsOrdered}
use Rattle.moment_theory.specs.Pieces.{AreApart}
use Rattle.moment_theory.proofs.Beside.{reached_either, reached_first, regroup}
use Rattle.moment_theory.proofs.Members.{IsMember, contains_member, member_contains}
use Rattle.moment_theory.proofs.Pieces.{free_front}
use Rattle.first_failure.proofs.Turning.{member_front, member_back}
use Rattle.moment_join.specs.Staged.{AreStagesOf}
use Rattle.moment_join.proofs.Fronts.{reached_piece}
use Rattle.moment_join.proofs.Joined.{piece_within}
use Rattle.share_join.specs.Shares.{Share, own_uses, all_pieces, all_waiting, AreSharesOf, others_of, all_uses}
use Rattle.share_join.proofs.Apart.{waiting_of, later, later_free, waiting_free, pieces_free, waiting_reach, own_reach, own_once, needs_apart}
use Rattle.share_join.proofs.Frees.{Clear, free_append, front_clear}
use Rattle.share_join.proofs.Members.{member_either, member_joined, piece_member}
use Rattle.share_join.proofs.Places.{at_map, of_one, piece_uses, joined_pieces, reached_joined, free_joined, reached_once, piece_in_all}

-- ---- the others of a share

-- one of the others is another share
pub other_at : (shares : List Share) (i k : ℕ) (other : Share) → slice_get (others_of i shares) k ≡ Some other → (j : ℕ) × (i ≢ j) × (slice_get shares j ≡ Some other)
other_at [] i k other found = absurd (none-some other found)
other_at (share ∷ shares) zero k other found = (suc k, (λ e. omega (arith, e)), found)
other_at (share ∷ shares) (suc i) zero other found = (0, (λ e. omega (arith, e)), found)
other_at (share ∷ shares) (suc i) (suc k) other found = let (j, apart, at) = other_at shares i k other found in (suc j, (λ e. apart (omega (arith, e))), at)

at_other : (shares : List Share) (i j : ℕ) (other : Share) → i ≢ j → slice_get shares j ≡ Some other → (k : ℕ) × (slice_get (others_of i shares) k ≡ Some other)
at_other [] i j other apart found = absurd (none-some other found)
at_other (share ∷ shares) zero zero other apart found = absurd (apart refl)
at_other (share ∷ shares) zero (suc j) other apart found = (j, found)
at_other (share ∷ shares) (suc i) zero other apart found = (0, found)
at_other (share ∷ shares) (suc i) (suc j) other apart found = let (k, at) = at_other shares i j other (λ e. apart (ap suc e)) found in (suc k, at)

-- shares that may be taken in their order
abbrev Forward : Setting → List Share → Type 0
Forward s [] = Unit {0}
Forward s (share ∷ shares) = AreFree s (own_uses share) × ((k : ℕ) (other : Share) → slice_get shares k ≡ Some other → Clear s (own_uses share) (own_uses other)) × Forward s shares

forward_free : (s : Setting) (shares : List Share) → Forward s shares → AreFree s (all_uses shares)
forward_free s [] forward = tt
forward_free s (share ∷ shares) (own, clear, rest) = free_append s (own_uses share) (all_uses shares) own (forward_free s shares rest)
    (λ entry y member touches reached. let (k, other, found, there) = of_one own_uses shares y reached in clear k other found entry y member touches there)

forward_others : (s : Setting) (shares : List Share) (i : ℕ) → Forward s shares → Forward s (others_of i shares)
forward_others s [] i forward = tt
forward_others s (share ∷ shares) zero (own, clear, rest) = rest
forward_others s (share ∷ shares) (suc i) (own, clear, rest) = (
  own,
  (λ k other found. let (j, apart, at) = other_at shares i k other found in clear j other at),
  forward_others s shares i rest,
)

module _ (s : Setting) (uses pure : List Use) (shares : List Share) (is : AreSharesOf s uses pure shares) where
  abbrev pieces : List (List Use)
  pieces = all_pieces shares

  abbrev waiting : List Use
  waiting = all_waiting shares

  -- ---- a share by itself

  module _ (i : ℕ) (share : Share) (found : slice_get shares i ≡ Some share) where
    piece_within_all : (entry : Use) → IsMember entry (piece_uses share) → IsMember entry (joined pieces)
    piece_within_all entry member = subst (IsMember entry) (sym (joined_pieces shares)) (piece_within (map piece_uses shares) i (piece_uses share) (at_map piece_uses shares i share found) entry member)

    own_pieces_free : AreFree s (piece_uses share)
    own_pieces_free = free_joined s (map piece_uses shares) (pieces_free s uses pure shares is) i (piece_uses share) (at_map piece_uses shares i share found)

    own_free : AreFree s (own_uses share)
    own_free = free_append s (piece_uses share) share.waiting own_pieces_free
        (free_joined s (map waiting_of shares) (waiting_free s uses pure shares is) i share.waiting (at_map waiting_of shares i share found))
        (λ entry y member touches reached. front_clear s (joined pieces) waiting (later_free s uses pure shares is) entry y (piece_within_all entry member) touches (waiting_reach s uses pure shares is i share found y reached))

    -- its pieces need nothing of each other
    own_apart : AreApart s share.pieces
    own_apart j k piece other entry y apart at there own touches reached =
        let (n, n_at) = piece_in_all shares i j share piece found at in
        let (p, p_at) = piece_in_all shares i k share other found there in elim (cases_eq n p) [
          | inl same ↦ apart (reached_once s share.pieces own_pieces_free j k piece other at there y (subst (IsReachedBy y) (same_Some other piece (sym p_at ∙ ap (slice_get pieces) (sym same) ∙ n_at)) reached) reached)
          | inr differ ↦ is.staged.apart n p piece other entry y differ n_at p_at own touches reached
        ]

    -- and its uses nothing of another share
    own_clear : (j : ℕ) (other : Share) → i ≢ j → slice_get shares j ≡ Some other → Clear s (own_uses share) (own_uses other)
    own_clear j other apart there entry y member touches reached = by_own (member_either (piece_uses share) share.waiting entry member)
      where
        of_pieces : IsMember entry (piece_uses share) → IsReachedBy y (piece_uses other) ⊎ IsReachedBy y other.waiting → ⊥
        of_pieces member (inr late) = front_clear s (joined pieces) waiting (later_free s uses pure shares is) entry y (piece_within_all entry member) touches (waiting_reach s uses pure shares is j other there y late)
        of_pieces member (inl early) =
            let (a, one, one_at, own) = piece_member share.pieces entry member in
            let (b, two, two_at, of) = reached_piece other.pieces y early in
            let (n, n_at) = piece_in_all shares i a share one found one_at in
            let (p, p_at) = piece_in_all shares j b other two there two_at in elim (cases_eq n p) [
              | inl same ↦ apart (own_once s uses pure shares is i j share other found there y
                  (reached_first (piece_uses share) share.waiting y (reached_joined share.pieces a one one_at y (subst (IsReachedBy y) (same_Some two one (sym p_at ∙ ap (slice_get pieces) (sym same) ∙ n_at)) of))) reached)
              | inr differ ↦ is.staged.apart n p one two entry y differ n_at p_at (member_contains entry one own) touches of
            ]

        by_own : IsMember entry (piece_uses share) ⊎ IsMember entry share.waiting → ⊥
        by_own (inl early) = of_pieces early (reached_either (piece_uses other) other.waiting y reached)
        by_own (inr late) = needs_apart s uses pure shares is i j share other apart found there entry y (member_contains entry share.waiting late) touches reached

  forward_from : (start : ℕ) (some : List Share) → ((k : ℕ) (share : Share) → slice_get some k ≡ Some share → slice_get shares (start + k) ≡ Some share) → Forward s some
  forward_from start [] at = tt
  forward_from start (share ∷ some) at = (
    own_free (start + 0) share (at 0 share refl),
    (λ k other found. own_clear (start + 0) share (at 0 share refl) (start + suc k) other (λ e. omega (arith, e)) (at (suc k) other found)),
    forward_from (suc start) some (λ k other found. subst (λ n. slice_get shares n ≡ Some other) (let same : start + suc k ≡ suc start + k = omega arith in same) (at (suc k) other found)),
  )

  forward : Forward s shares
  forward = forward_from 0 shares (λ k share found. subst (λ n. slice_get shares n ≡ Some share) (let same : k ≡ 0 + k = omega arith in same) found)

  -- ---- a share, then the others

  module _ (i : ℕ) (share : Share) (found : slice_get shares i ≡ Some share) where
    abbrev others : List Share
    others = others_of i shares

    abbrev led : List Use
    led = own_uses share ++ all_uses others

    led_free : AreFree s led
    led_free = forward_free s (share ∷ others) (
      own_free i share found,
      (λ k other at. let (j, apart, there) = other_at shares i k other at in own_clear i share found j other apart there),
      forward_others s shares i forward,
    )

    -- the same names are reached
    led_reach : (y : ℕ) → IsReachedBy y led → IsReachedBy y (later s uses pure shares is)
    led_reach y reached = elim (reached_either (own_uses share) (all_uses others) y reached) [
      | inl own ↦ own_reach s uses pure shares is i share found y own
      | inr rest ↦
          let (k, other, at, of) = of_one own_uses others y rest in
          let (j, apart, there) = other_at shares i k other at in
          own_reach s uses pure shares is j other there y of
    ]

    led_order_free : AreFree s (pure ++ led)
    led_order_free = free_append s pure led (free_front s pure (later s uses pure shares is) is.staged.ordered.free) led_free
        (λ entry y member touches reached. front_clear s pure (later s uses pure shares is) is.staged.ordered.free entry y member touches (led_reach y reached))

    -- and there are the same uses
    own_led : (j : ℕ) (other : Share) → slice_get shares j ≡ Some other → (entry : Use) → IsMember entry (own_uses other) → IsMember entry led
    own_led j other there entry member = elim (cases_eq i j) [
      | inl same ↦ member_front (own_uses share) (all_uses others) entry (subst (λ h. IsMember entry (own_uses h)) (same_Some other share (sym there ∙ ap (slice_get shares) (sym same) ∙ found)) member)
      | inr apart ↦
          let (k, at) = at_other shares i j other apart there in
          member_back (own_uses share) (all_uses others) entry (piece_within (map own_uses others) k (own_uses other) (at_map own_uses others k other at) entry member)
    ]

    later_led : (entry : Use) → IsMember entry (later s uses pure shares is) → IsMember entry led
    later_led entry member = elim (member_either (joined pieces) waiting entry member) [
      | inl early ↦
          let (j, other, there, of) = member_joined piece_uses shares entry (subst (IsMember entry) (joined_pieces shares) early) in
          own_led j other there entry (member_front (piece_uses other) other.waiting entry of)
      | inr late ↦
          let (j, other, there, of) = member_joined waiting_of shares entry late in
          own_led j other there entry (member_back (piece_uses other) other.waiting entry of)
    ]

    own_later : (j : ℕ) (other : Share) → slice_get shares j ≡ Some other → (entry : Use) → IsMember entry (own_uses other) → IsMember entry (later s uses pure shares is)
    own_later j other there entry member = elim (member_either (piece_uses other) other.waiting entry member) [
      | inl early ↦ member_front (joined pieces) waiting entry (piece_within_all j other there entry early)
      | inr late ↦ member_back (joined pieces) waiting entry (piece_within (map waiting_of shares) j other.waiting (at_map waiting_of shares j other there) entry late)
    ]

    led_later : (entry : Use) → IsMember entry led → IsMember entry (later s uses pure shares is)
    led_later entry member = elim (member_either (own_uses share) (all_uses others) entry member) [
      | inl own ↦ own_later i share found entry own
      | inr rest ↦
          let (k, other, at, of) = member_joined own_uses others entry rest in
          let (j, apart, there) = other_at shares i k other at in
          own_later j other there entry of
    ]

    moved : (xs ys : List Use) → ((entry : Use) → IsMember entry xs → IsMember entry ys) → (entry : Use) → Contains (pure ++ xs) entry → Contains (pure ++ ys) entry
    moved xs ys within entry own = member_contains entry (pure ++ ys) (elim (member_either pure xs entry (contains_member entry (pure ++ xs) own)) [
      | inl early ↦ member_front pure ys entry early
      | inr behind ↦ member_back pure ys entry (within entry behind)
    ])

    led_ordered : IsOrdered s uses (pure ++ led)
    led_ordered = record {
      runs = is.staged.ordered.runs;
      uses_are = is.staged.ordered.uses_are;
      same = record {
        all = λ entry used. moved (later s uses pure shares is) led later_led entry (is.staged.ordered.same.all entry used);
        only = λ entry own. is.staged.ordered.same.only entry (moved led (later s uses pure shares is) led_later entry own);
      };
      free = led_order_free;
    }

    pub leads : AreStagesOf s uses pure share.pieces (share.waiting ++ all_uses others)
    leads = record {
      ordered = subst (λ us. IsOrdered s uses (pure ++ us)) (regroup (piece_uses share) share.waiting (all_uses others)) led_ordered;
      clockless = is.staged.clockless;
      apart = own_apart i share found;
    }
