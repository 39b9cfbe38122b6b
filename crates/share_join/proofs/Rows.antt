-- The rows of shares beside the row of all pieces.
use Rattle.std.proofs.Common.{◌≡◌, refl, ap, ◌∙◌, sym, subst, ℕ, List, [], ◌++◌, Contains, Option, Some, None, IsSome, slice_get, unwrap_or, ◌⊎◌, inl, inr}
use Rattle.std.proofs.Math.Path.{fun_ext}
use Rattle.std.proofs.lemmas.Bool.{cases_eq}
use Rattle.std.proofs.lemmas.Option.{same_Some}
use Rattle.sync_values.specs.declared.value.Value.{Value}
use Rattle.flat_model.specs.Assignment.{Assignment}
use Rattle.flat_model.specs.Given.{Row, with_row, IsKnownToTick}
use Rattle.flat_model.specs.Setting.{Setting, class_of_name}
use Rattle.flat_model.specs.Uses.{Use, SiteReads}
use Rattle.moment_theory.specs.Division.{joined}
use Rattle.moment_theory.specs.Free.{IsReachedBy, IsOrdered}
use Rattle.moment_theory.specs.Pieces.{Needs, AreTakenAlone, AreBeside}
use Rattle.moment_theory.specs.Sound.{IsSound, IsClear}
use Rattle.moment_theory.specs.Taken.{AreTaken}
use Rattle.moment_theory.proofs.Beside.{reached_first, reached_second, regroup}
use Rattle.moment_theory.proofs.GivenByOrder.{inputs_clear}
use Rattle.moment_theory.proofs.Members.{contains_member, member_contains}
use Rattle.moment_theory.proofs.Pieces.{free_front, reached_twice, pieces_beside}
use Rattle.moment_theory.proofs.Rows.{row_now, row_before, below_same}
use Rattle.moment_theory.proofs.SameUse.{sound_inputs, sound_taken}
use Rattle.moment_theory.proofs.Taking.{unchanged}
use Rattle.moment_theory.proofs.Transfer.{known_up}
use Rattle.first_failure.specs.declared.least.EquationFailing.{EquationFailing}
use Rattle.first_failure.proofs.Turning.{member_front}
use Rattle.moment_join.proofs.Fronts.{reached_or, reached_piece}
use Rattle.share_join.specs.Shares.{Share, own_uses, all_pieces, all_waiting}
use Rattle.share_join.specs.Taking.{HasTaken, AreRunBeside}
use Rattle.share_join.proofs.Apart.{later, order, settled, pieces_reach, pieces_of_one, waiting_reach, not_both, site_early, needs_apart}
use Rattle.share_join.proofs.Places.{at_map, piece_uses, OfShare, piece_of_share, reached_joined}

module _ (s : Setting) (uses pure : List Use) (shares : List Share) (U : Assignment) (m : ℕ) (inputs base : Row) (lasts : ℕ → Row) (last : Row)
    (first : Option EquationFailing) (tolds : List (Option EquationFailing)) (run : AreRunBeside s uses pure shares U m inputs base lasts last first tolds) where
  abbrev pieces : List (List Use)
  pieces = all_pieces shares

  abbrev waiting : List Use
  waiting = all_waiting shares

  abbrev behind_pure : List Use
  behind_pure = later s uses pure shares run.shares_are

  abbrev whole : List Use
  whole = order s uses pure shares run.shares_are

  same_unclocked : Rattle.flat_model.proofs.OneSolution.AreSitesUnclocked s
  same_unclocked = (settled s uses pure shares run.shares_are).unclocked

  pub stays : (us : List Use) (a b : Row) → AreTaken s U m us a b → (y : ℕ) → (IsReachedBy y us → ⊥) → b y ≡ a y
  stays = unchanged s same_unclocked U m

  pub in_uses : (entry : Use) → Contains whole entry → Contains uses entry
  in_uses = run.shares_are.staged.ordered.same.only

  -- ---- a share

  pub took : (i : ℕ) (share : Share) → slice_get shares i ≡ Some share → (told : Option EquationFailing) × (slice_get tolds i ≡ Some told) × HasTaken s uses U m base share (lasts i) told
  took = run.have_taken.each

  module _ (i : ℕ) (share : Share) (found : slice_get shares i ≡ Some share) where
    abbrev pub has : HasTaken s uses U m base share (lasts i) (took i share found).0
    has = (took i share found).2

    not_waiting : (y : ℕ) → IsReachedBy y (piece_uses share) → IsReachedBy y share.waiting → ⊥
    not_waiting y one two = not_both s uses pure shares run.shares_are y (pieces_reach s uses pure shares run.shares_are i share found y one) (waiting_reach s uses pure shares run.shares_are i share found y two)

    -- what a share's own uses reach is as in the joined row
    pub own_last : (y : ℕ) → IsReachedBy y (own_uses share) → last y ≡ lasts i y
    own_last y reached = run.joins.own i (own_uses share) y (at_map own_uses shares i share found) reached

    -- the row before its waiting uses
    pub mid_own : (y : ℕ) → IsReachedBy y (piece_uses share) → has.row y ≡ last y
    mid_own y reached = sym (own_last y (reached_first (piece_uses share) share.waiting y reached) ∙ stays share.waiting has.row (lasts i) has.waited y (not_waiting y reached))

    pub mid_rest : (y : ℕ) → (IsReachedBy y (piece_uses share) → ⊥) → has.row y ≡ base y
    mid_rest = has.beside.rest

    piece_last : (j : ℕ) (piece : List Use) → slice_get share.pieces j ≡ Some piece → (y : ℕ) → IsReachedBy y piece → has.owns j y ≡ last y
    piece_last j piece at y reached = sym (has.beside.own j piece y at reached) ∙ mid_own y (reached_joined share.pieces j piece at y reached)

    piece_rest : (j : ℕ) (piece : List Use) → slice_get share.pieces j ≡ Some piece → (y : ℕ) → (IsReachedBy y piece → ⊥) → has.owns j y ≡ base y
    piece_rest j piece at = stays piece base (has.owns j) (has.alone j piece at)

  -- ---- the row of a piece, from the base and the joined row

  abbrev owned_at : (piece : List Use) (y : ℕ) → IsReachedBy y piece ⊎ (IsReachedBy y piece → ⊥) → Option Value
  owned_at piece y (inl reached) = last y
  owned_at piece y (inr none) = base y

  abbrev pub owned : List Use → Row
  owned piece y = owned_at piece y (reached_or piece y)

  owned_own : (piece : List Use) (y : ℕ) → IsReachedBy y piece → (d : IsReachedBy y piece ⊎ (IsReachedBy y piece → ⊥)) → owned_at piece y d ≡ last y
  owned_own piece y reached (inl also) = refl
  owned_own piece y reached (inr none) = absurd (none reached)

  pub owned_is : (i : ℕ) (share : Share) (found : slice_get shares i ≡ Some share) (j : ℕ) (piece : List Use) → slice_get share.pieces j ≡ Some piece → (has i share found).owns j ≡ owned piece
  owned_is i share found j piece at = fun_ext (λ y. by_reach y (reached_or piece y))
    where
      by_reach : (y : ℕ) (d : IsReachedBy y piece ⊎ (IsReachedBy y piece → ⊥)) → (has i share found).owns j y ≡ owned_at piece y d
      by_reach y (inl reached) = piece_last i share found j piece at y reached
      by_reach y (inr none) = piece_rest i share found j piece at y none

  -- the rows of all pieces
  abbrev pub owns : ℕ → Row
  owns k = owned (unwrap_or (slice_get pieces k) [])

  pub owns_at : (k : ℕ) (piece : List Use) → slice_get pieces k ≡ Some piece → owns k ≡ owned piece
  owns_at k piece found = ap (λ o. owned (unwrap_or o [])) found

  pub alone : AreTakenAlone s U m base owns pieces
  alone k piece found =
      let of : OfShare shares piece = piece_of_share shares k piece found in
      subst (AreTaken s U m piece base) (owned_is of.place of.share of.found of.number piece of.at ∙ sym (owns_at k piece found)) ((has of.place of.share of.found).alone of.number piece of.at)

  pub beside_all : (r : Row) × AreTaken s U m (pure ++ joined pieces) inputs r × AreBeside base owns pieces r
  beside_all = pieces_beside s uses pure waiting pieces run.shares_are.staged.ordered run.shares_are.staged.apart U m inputs base run.are run.taken owns alone

  abbrev pub row : Row
  row = beside_all.0

  pub together : AreTaken s U m (pure ++ joined pieces) inputs row
  together = beside_all.1

  pub beside : AreBeside base owns pieces row
  beside = beside_all.2

  pub row_own : (y : ℕ) → IsReachedBy y (joined pieces) → row y ≡ last y
  row_own y reached =
      let (k, piece, found, own) = reached_piece pieces y reached in
      beside.own k piece y found own ∙ ap (λ r. r y) (owns_at k piece found) ∙ owned_own piece y own (reached_or piece y)

  -- ---- a share's row agrees with it on what the share's waiting uses need

  -- the joined pieces reach nothing of what a share needs but what its own pieces reach
  pub mid_agrees : (i : ℕ) (share : Share) (found : slice_get shares i ≡ Some share) (entry : Use) (y : ℕ) → Contains share.waiting entry → (y ≡ entry.name) ⊎ Needs s entry y → (has i share found).row y ≡ row y
  mid_agrees i share found entry y own needs = by_own (reached_or (piece_uses share) y)
    where
      no_other : (IsReachedBy y (piece_uses share) → ⊥) → IsReachedBy y (joined pieces) → ⊥
      no_other none reached =
          let (j, other, there, of) = pieces_of_one s uses pure shares run.shares_are y reached in elim (cases_eq i j) [
            | inl same ↦ none (subst (λ h. IsReachedBy y (piece_uses h)) (same_Some other share (sym there ∙ ap (slice_get shares) (sym same) ∙ found)) of)
            | inr apart ↦ needs_apart s uses pure shares run.shares_are i j share other apart found there entry y own needs (reached_first (piece_uses other) other.waiting y of)
          ]

      by_own : IsReachedBy y (piece_uses share) ⊎ (IsReachedBy y (piece_uses share) → ⊥) → (has i share found).row y ≡ row y
      by_own (inl reached) = mid_own i share found y reached ∙ sym (row_own y (pieces_reach s uses pure shares run.shares_are i share found y reached))
      by_own (inr none) = mid_rest i share found y none ∙ sym (beside.rest y (no_other none))

  -- ---- sound rows

  clear_inputs : IsClear whole inputs
  clear_inputs = inputs_clear s same_unclocked (settled s uses pure shares run.shares_are).inputs U m whole (settled s uses pure shares run.shares_are).order inputs run.are

  pub base_clear : (y : ℕ) → IsReachedBy y behind_pure → base y ≡ None
  base_clear y reached = stays pure inputs base run.taken y (λ early. reached_twice s pure behind_pure run.shares_are.staged.ordered.free y early reached) ∙ clear_inputs y (reached_second pure behind_pure y reached)

  -- a front of the order, taken from the inputs, leaves a sound row
  front_sound : (front rest : List Use) → front ++ rest ≡ whole → (r : Row) → AreTaken s U m front inputs r → IsSound s (with_row U m r) m
  front_sound front rest same r taken = sound_taken s uses run.shares_are.staged.ordered.runs run.shares_are.staged.ordered.uses_are.uses_are U m front inputs r
      (λ entry own. in_uses entry (subst (λ us. Contains us entry) same (member_contains entry (front ++ rest) (member_front front rest entry (contains_member entry front own)))))
      (free_front s front rest (subst (Rattle.moment_theory.specs.Free.AreFree s) (sym same) run.shares_are.staged.ordered.free))
      (λ y reached. clear_inputs y (subst (IsReachedBy y) same (reached_first front rest y reached)))
      (sound_inputs s uses run.shares_are.staged.ordered.runs run.shares_are.staged.ordered.uses_are.uses_are U m inputs run.are) taken

  base_sound : IsSound s (with_row U m base) m
  base_sound = front_sound pure behind_pure refl base run.taken

  pub row_sound : IsSound s (with_row U m row) m
  row_sound = front_sound (pure ++ joined pieces) waiting (regroup pure (joined pieces) waiting) row together

  -- where two rows are the same on what conditions of sites read, the same clocks are known to tick
  known_moved : (a b : Row) → ((class : Option ℕ) (y : ℕ) → SiteReads s class y → a y ≡ b y) → (class : Option ℕ) → IsKnownToTick s (with_row U m a) m class → IsKnownToTick s (with_row U m b) m class
  known_moved a b same class known = known_up s (with_row U m a) (with_row U m b) m class same_unclocked (λ y k lt. row_before U m a y k lt ∙ sym (row_before U m b y k lt))
      (λ y reads. below_same _ _ (row_now U m a y ∙ same class y reads ∙ sym (row_now U m b y))) known

  pub mid_sound : (i : ℕ) (share : Share) (found : slice_get shares i ≡ Some share) → IsSound s (with_row U m (has i share found).row) m
  mid_sound i share found x some = by_own (reached_or (piece_uses share) x)
    where
      mid : Row
      mid = (has i share found).row

      mid_some : IsSome (mid x)
      mid_some = subst IsSome (row_now U m mid x) some

      not_early : (class : Option ℕ) (y : ℕ) → SiteReads s class y → IsReachedBy y (joined pieces) → ⊥
      not_early class y reads reached = site_early s uses pure shares run.shares_are class y reads (reached_first (joined pieces) waiting y reached)

      mid_base : (class : Option ℕ) (y : ℕ) → SiteReads s class y → base y ≡ mid y
      mid_base class y reads = sym (mid_rest i share found y (λ own. not_early class y reads (pieces_reach s uses pure shares run.shares_are i share found y own)))

      row_base : (class : Option ℕ) (y : ℕ) → SiteReads s class y → row y ≡ base y
      row_base class y reads = beside.rest y (not_early class y reads)

      over_some : (r : Row) → mid x ≡ r x → IsSome (with_row U m r x m)
      over_some r same = subst IsSome (sym (row_now U m r x)) (subst IsSome same mid_some)

      by_own : IsReachedBy x (piece_uses share) ⊎ (IsReachedBy x (piece_uses share) → ⊥) → IsKnownToTick s (with_row U m mid) m (class_of_name s x)
      by_own (inl reached) = known_moved row mid (λ class y reads. row_base class y reads ∙ mid_base class y reads) (class_of_name s x)
          (row_sound x (over_some row (mid_own i share found x reached ∙ sym (row_own x (pieces_reach s uses pure shares run.shares_are i share found x reached)))))
      by_own (inr none) = known_moved base mid mid_base (class_of_name s x) (base_sound x (over_some base (mid_rest i share found x none)))
