-- The waiting uses of all shares, one share behind the other.
use Rattle.std.proofs.Common.{◌≡◌, refl, ap, ◌∙◌, sym, subst, ℕ, List, [], ◌∷◌, ◌++◌, map, Contains, Option, Some, None, slice_get, unwrap_or, ◌⊎◌, inl, inr}
use Rattle.std.proofs.Math.Path.{fun_ext}
use Rattle.sync_values.specs.declared.value.Value.{Value}
use Rattle.flat_model.specs.declared.equation.Equation.TheVariants.{Valued}
use Rattle.flat_model.specs.Assignment.{Assignment}
use Rattle.flat_model.specs.Given.{Row}
use Rattle.flat_model.specs.Setting.{Setting}
use Rattle.flat_model.specs.Uses.{Use}
use Rattle.moment_theory.specs.Division.{joined}
use Rattle.moment_theory.specs.Free.{IsReachedBy, IsOrdered}
use Rattle.moment_theory.specs.Pieces.{Needs, AreApart, AreTakenAlone, AreBeside}
use Rattle.moment_theory.specs.Taken.{AreTaken}
use Rattle.moment_theory.proofs.Apart.{HoldsNeeds, taken_apart}
use Rattle.moment_theory.proofs.Beside.{reached_either, reached_second, regroup}
use Rattle.moment_theory.proofs.Facts.{facts_of_use, free_uses}
use Rattle.moment_theory.proofs.FromRunnable.{facts_of}
use Rattle.moment_theory.proofs.Members.{IsMember, member_contains, member_reached}
use Rattle.moment_theory.proofs.Ordered.{IsFreeUse, AreFreeUses}
use Rattle.moment_theory.proofs.Pieces.{pieces_beside}
use Rattle.moment_theory.proofs.Transfer as transfer
use Rattle.first_failure.specs.declared.least.EquationFailing.{EquationFailing}
use Rattle.first_failure.proofs.Turning.{member_back}
use Rattle.moment_join.specs.Staged.{IsStaged}
use Rattle.moment_join.proofs.Alike.{bare_end}
use Rattle.moment_join.proofs.Fronts.{taken_behind, reached_or, reached_piece}
use Rattle.moment_join.proofs.Joined.{piece_within}
use Rattle.share_join.specs.Shares.{Share, own_uses, all_pieces, all_waiting}
use Rattle.share_join.specs.Taking.{AreRunBeside}
use Rattle.share_join.proofs.Apart.{waiting_of, order, settled, waiting_free, pieces_reach, waiting_reach, not_both, needs_apart}
use Rattle.share_join.proofs.Places.{at_map, map_at, of_one, piece_uses, free_joined}
use Rattle.share_join.proofs.Rows.{stays, in_uses, has, own_last, mid_rest, mid_agrees, mid_sound, owns, alone, row, together, beside, row_own, row_sound, base_clear}

-- the needs of a use, in the words of the definition
needs_of : (s : Setting) (entry : Use) (later : List Use) (free : IsFreeUse s entry later) (y : ℕ) → transfer.Needs s entry later free y → Needs s entry y
needs_of s entry later free y (inl (other, inl reads)) = inl (other, (Valued free.left free.right free.clause, free.equation_is, inl reads))
needs_of s entry later free y (inl (other, inr reads)) = inl (other, (Valued free.left free.right free.clause, free.equation_is, inr reads))
needs_of s entry later free y (inr (inl reads)) = inr (_, inl refl, reads)
needs_of s entry later free y (inr (inr (z, asks, reads))) = inr (_, inr (Valued free.left free.right free.clause, z, free.equation_is, asks, refl), reads)

-- what some uses reach or need
abbrev NeededBy : Setting → List Use → ℕ → Type 0
NeededBy s us y = (entry : Use) × Contains us entry × ((y ≡ entry.name) ⊎ Needs s entry y)

holds_needs : (s : Setting) (all us : List Use) → ((entry : Use) → IsMember entry us → Contains all entry) → (free : AreFreeUses s us) → HoldsNeeds s (NeededBy s all) us free
holds_needs s all [] within free = tt
holds_needs s all (entry ∷ us) within free = (
  (entry, within entry (inl refl), inl refl),
  (λ y needs. (entry, within entry (inl refl), inr (needs_of s entry us free.0 y needs))),
  holds_needs s all us (λ e h. within e (inr h)) free.1,
)

module _ (s : Setting) (uses pure : List Use) (shares : List Share) (U : Assignment) (m : ℕ) (inputs base : Row) (lasts : ℕ → Row) (last : Row)
    (first : Option EquationFailing) (tolds : List (Option EquationFailing)) (run : AreRunBeside s uses pure shares U m inputs base lasts last first tolds) where
  abbrev pieces : List (List Use)
  pieces = all_pieces shares

  abbrev waiting : List Use
  waiting = all_waiting shares

  abbrev whole : List Use
  whole = order s uses pure shares run.shares_are

  abbrev pub gathered : Row
  gathered = row s uses pure shares U m inputs base lasts last first tolds run

  gathered_rest : (y : ℕ) → (IsReachedBy y (joined pieces) → ⊥) → gathered y ≡ base y
  gathered_rest = (beside s uses pure shares U m inputs base lasts last first tolds run).rest

  gathered_own : (y : ℕ) → IsReachedBy y (joined pieces) → gathered y ≡ last y
  gathered_own = row_own s uses pure shares U m inputs base lasts last first tolds run

  -- before the waiting uses no row has a value of theirs
  pub gathered_clear : (y : ℕ) → IsReachedBy y waiting → gathered y ≡ base y
  gathered_clear y reached = gathered_rest y (λ early. not_both s uses pure shares run.shares_are y early reached)

  pub clear_waiting : (y : ℕ) → IsReachedBy y waiting → base y ≡ None
  clear_waiting y reached = base_clear s uses pure shares U m inputs base lasts last first tolds run y (reached_second (joined pieces) waiting y reached)

  pub waiting_used : (i : ℕ) (share : Share) → slice_get shares i ≡ Some share → (entry : Use) → IsMember entry share.waiting → Contains uses entry
  waiting_used i share found entry member = in_uses s uses pure shares U m inputs base lasts last first tolds run entry (member_contains entry whole
      (member_back pure (joined pieces ++ waiting) entry (member_back (joined pieces) waiting entry (piece_within (map waiting_of shares) i share.waiting (at_map waiting_of shares i share found) entry member))))

  -- ---- a share's waiting uses, from the row of all pieces

  abbrev waited_at : (us : List Use) (y : ℕ) → IsReachedBy y us ⊎ (IsReachedBy y us → ⊥) → Option Value
  waited_at us y (inl reached) = last y
  waited_at us y (inr none) = gathered y

  abbrev waited : List Use → Row
  waited us y = waited_at us y (reached_or us y)

  waited_own : (us : List Use) (y : ℕ) → IsReachedBy y us → (d : IsReachedBy y us ⊎ (IsReachedBy y us → ⊥)) → waited_at us y d ≡ last y
  waited_own us y reached (inl also) = refl
  waited_own us y reached (inr none) = absurd (none reached)

  module _ (i : ℕ) (share : Share) (found : slice_get shares i ≡ Some share) where
    abbrev pub mid : Row
    mid = (has s uses pure shares U m inputs base lasts last first tolds run i share found).row

    free : AreFreeUses s share.waiting
    free = free_uses s (facts_of s run.shares_are.staged.ordered.runs) share.waiting
        (λ entry member. facts_of_use s uses run.shares_are.staged.ordered.uses_are.uses_are entry (waiting_used i share found entry member))
        (free_joined s (map waiting_of shares) (waiting_free s uses pure shares run.shares_are) i share.waiting (at_map waiting_of shares i share found))

    pub reach_all : (y : ℕ) → IsReachedBy y share.waiting → IsReachedBy y waiting
    reach_all = waiting_reach s uses pure shares run.shares_are i share found

    pub mid_clear : (y : ℕ) → IsReachedBy y share.waiting → mid y ≡ base y
    mid_clear y reached = mid_rest s uses pure shares U m inputs base lasts last first tolds run i share found y
        (λ own. not_both s uses pure shares run.shares_are y (pieces_reach s uses pure shares run.shares_are i share found y own) (reach_all y reached))

    again : (other : Row) × AreTaken s U m share.waiting gathered other × ((y : ℕ) → NeededBy s share.waiting y → lasts i y ≡ other y)
    again = taken_apart s (settled s uses pure shares run.shares_are).unclocked U m (NeededBy s share.waiting) share.waiting free
        (holds_needs s share.waiting share.waiting (λ entry member. member_contains entry share.waiting member) free) mid gathered (lasts i)
        (λ y (entry, own, needs). mid_agrees s uses pure shares U m inputs base lasts last first tolds run i share found entry y own needs)
        (λ y reached. mid_clear y reached ∙ clear_waiting y (reach_all y reached))
        (λ y reached. gathered_clear y (reach_all y reached) ∙ clear_waiting y (reach_all y reached))
        (mid_sound s uses pure shares U m inputs base lasts last first tolds run i share found)
        (row_sound s uses pure shares U m inputs base lasts last first tolds run)
        (has s uses pure shares U m inputs base lasts last first tolds run i share found).waited

    again_own : (y : ℕ) → IsReachedBy y share.waiting → again.0 y ≡ last y
    again_own y reached =
        let (entry, member, same) = member_reached share.waiting y reached in
        sym (again.2 y (entry, member_contains entry share.waiting member, inl same)) ∙ sym (own_last s uses pure shares U m inputs base lasts last first tolds run i share found y (reached_second (piece_uses share) share.waiting y reached))

    again_is : again.0 ≡ waited share.waiting
    again_is = fun_ext (λ y. by_reach y (reached_or share.waiting y))
      where
        by_reach : (y : ℕ) (d : IsReachedBy y share.waiting ⊎ (IsReachedBy y share.waiting → ⊥)) → again.0 y ≡ waited_at share.waiting y d
        by_reach y (inl reached) = again_own y reached
        by_reach y (inr none) = stays s uses pure shares U m inputs base lasts last first tolds run share.waiting gathered again.0 again.1 y none

    taken_again : AreTaken s U m share.waiting gathered (waited share.waiting)
    taken_again = subst (AreTaken s U m share.waiting gathered) again_is again.1

  -- ---- all of them

  abbrev waits : ℕ → Row
  waits i = waited (unwrap_or (slice_get (map waiting_of shares) i) [])

  waits_alone : AreTakenAlone s U m gathered waits (map waiting_of shares)
  waits_alone i us found =
      let (share, at, same) = map_at waiting_of shares i us found in
      subst (AreTaken s U m us gathered) (ap (λ o. waited (unwrap_or o [])) (sym found)) (subst (λ ws. AreTaken s U m ws gathered (waited ws)) same (taken_again i share at))

  waits_apart : AreApart s (map waiting_of shares)
  waits_apart i j us others entry y apart found there own needs reached =
      let (share, at, same) = map_at waiting_of shares i us found in
      let (other, at_other, also) = map_at waiting_of shares j others there in
      needs_apart s uses pure shares run.shares_are i j share other apart at at_other entry y (subst (λ ws. Contains ws entry) (sym same) own) needs
      (reached_second (piece_uses other) other.waiting y (subst (IsReachedBy y) (sym also) reached))

  ordered_behind : IsOrdered s uses ((pure ++ joined pieces) ++ (joined (map waiting_of shares) ++ []))
  ordered_behind = subst (λ us. IsOrdered s uses ((pure ++ joined pieces) ++ us)) (sym (bare_end waiting)) (subst (IsOrdered s uses) (sym (regroup pure (joined pieces) waiting)) run.shares_are.staged.ordered)

  all_behind : (r : Row) × AreTaken s U m ((pure ++ joined pieces) ++ joined (map waiting_of shares)) inputs r × AreBeside gathered waits (map waiting_of shares) r
  all_behind = pieces_beside s uses (pure ++ joined pieces) [] (map waiting_of shares) ordered_behind waits_apart U m inputs gathered run.are (together s uses pure shares U m inputs base lasts last first tolds run) waits waits_alone

  -- what no share reaches is as in the base
  last_rest : (y : ℕ) → (IsReachedBy y (joined pieces) → ⊥) → (IsReachedBy y waiting → ⊥) → last y ≡ base y
  last_rest y no_piece none = run.joins.rest y (λ reached.
      let (i, share, found, own) = of_one own_uses shares y reached in elim (reached_either (piece_uses share) share.waiting y own) [
        | inl early ↦ no_piece (pieces_reach s uses pure shares run.shares_are i share found y early)
        | inr late ↦ none (waiting_reach s uses pure shares run.shares_are i share found y late)
      ])

  behind_is : all_behind.0 ≡ last
  behind_is = fun_ext (λ y. by_waiting y (reached_or waiting y))
    where
      by_piece : (y : ℕ) → (IsReachedBy y waiting → ⊥) → IsReachedBy y (joined pieces) ⊎ (IsReachedBy y (joined pieces) → ⊥) → gathered y ≡ last y
      by_piece y none (inl reached) = gathered_own y reached
      by_piece y none (inr no_piece) = gathered_rest y no_piece ∙ sym (last_rest y no_piece none)

      by_waiting : (y : ℕ) → IsReachedBy y waiting ⊎ (IsReachedBy y waiting → ⊥) → all_behind.0 y ≡ last y
      by_waiting y (inl reached) =
          let (i, us, found, own) = reached_piece (map waiting_of shares) y reached in
          all_behind.2.own i us y found own ∙ ap (λ o. waited (unwrap_or o []) y) found ∙ waited_own us y own (reached_or us y)
      by_waiting y (inr none) = all_behind.2.rest y none ∙ by_piece y none (reached_or (joined pieces) y)

  pub waiting_taken : AreTaken s U m waiting gathered last
  waiting_taken = taken_behind s U m (pure ++ joined pieces) waiting inputs gathered last (subst (AreTaken s U m ((pure ++ joined pieces) ++ waiting) inputs) behind_is all_behind.1)
      (together s uses pure shares U m inputs base lasts last first tolds run)

  -- so the stages are taken
  pub staged : IsStaged s U m pure pieces waiting inputs base (owns s uses pure shares U m inputs base lasts last first tolds run) gathered last
  staged = record {
    are = run.are;
    first = run.taken;
    alone = alone s uses pure shares U m inputs base lasts last first tolds run;
    beside = beside s uses pure shares U m inputs base lasts last first tolds run;
    behind = waiting_taken;
  }
