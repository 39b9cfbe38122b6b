-- What a use gives, and how it fails, at its turn or in its piece is what it does over the whole row.
use Rattle.std.proofs.Common.{◌≡◌, ◌≢◌, refl, ap, ◌∙◌, sym, subst, ℕ, zero, suc, List, [], ◌∷◌, ◌++◌, Contains, Some, None, slice_get, ◌⊎◌, inl, inr}
use Rattle.std.proofs.lemmas.Bool.{cases_eq}
use Rattle.std.proofs.lemmas.Option.{none-some, same_Some}
use Rattle.flat_model.specs.Assignment.{Assignment}
use Rattle.flat_model.specs.Given.{Row, with_row}
use Rattle.flat_model.specs.Setting.{Setting}
use Rattle.flat_model.specs.Uses.{Use}
use Rattle.moment_theory.specs.Division.{joined}
use Rattle.moment_theory.specs.Free.{IsReachedBy, IsFree, AreFree, IsOrdered}
use Rattle.moment_theory.specs.Pieces.{Needs, AreApart, AreTakenAlone, AreBeside}
use Rattle.moment_theory.specs.Sound.{IsSound, WaitsForNoOwn, AgreeOnNeeds, DoesAlike}
use Rattle.moment_theory.specs.Taken.{AreInputs, AreTaken}
use Rattle.moment_theory.proofs.Apart.{append_taken}
use Rattle.moment_theory.proofs.Beside.{reached_first, reached_second, reached_either}
use Rattle.moment_theory.proofs.GivenByOrder.{inputs_clear}
use Rattle.moment_theory.proofs.Members.{IsMember, contains_member, member_contains, reached_member, member_reached}
use Rattle.moment_theory.proofs.Pieces.{free_front, free_back, reached_twice}
use Rattle.moment_theory.proofs.Running.{IsReady}
use Rattle.moment_theory.proofs.SameUse.{does_alike, sound_inputs, sound_taken}
use Rattle.moment_theory.proofs.Settled.{model}
use Rattle.moment_theory.proofs.Taking.{unchanged}

-- the two ways
abbrev pub DoAlike : Setting → List Use → Assignment → ℕ → Use → Row → Row → Type 0
DoAlike s uses S m entry a b = DoesAlike s uses S m entry a b × DoesAlike s uses S m entry b a

-- what a use needs is reached neither by itself nor later
needs_nothing_later : (s : Setting) (entry : Use) (later : List Use) → IsFree s entry later → (y : ℕ) → Needs s entry y → IsReachedBy y (entry ∷ later) → ⊥
needs_nothing_later s entry later free y (inl (other, reads)) (inl is) = other is
needs_nothing_later s entry later free y (inl (other, reads)) (inr reached) = free.reads y reads reached
needs_nothing_later s entry later free y (inr (class, asks, site)) reached = free.sites class y asks site reached

waits_for_others : (s : Setting) (entry : Use) (later : List Use) → IsFree s entry later → WaitsForNoOwn s entry
waits_for_others s entry later free class asks site = free.sites class entry.name asks site (inl refl)

member_back : (xs ys : List Use) (entry : Use) → IsMember entry ys → IsMember entry (xs ++ ys)
member_back [] ys entry h = h
member_back (x ∷ xs) ys entry h = inr (member_back xs ys entry h)

member_front : (xs ys : List Use) (entry : Use) → IsMember entry xs → IsMember entry (xs ++ ys)
member_front [] ys entry h = absurd h
member_front (x ∷ xs) ys entry (inl at) = inl at
member_front (x ∷ xs) ys entry (inr h) = inr (member_front xs ys entry h)

-- a front of a free order, taken from the inputs, leaves a sound row
front_sound : (s : Setting) (uses front rest : List Use) → IsOrdered s uses (front ++ rest) → (S : Assignment) (m : ℕ) (inputs row : Row) → AreInputs s m inputs → AreTaken s S m front inputs row → IsSound s (with_row S m row) m
front_sound s uses front rest is S m inputs row are taken =
    let settled = model s uses (front ++ rest) is in
    sound_taken s uses is.runs is.uses_are.uses_are S m front inputs row
    (λ entry used. is.same.only entry (member_contains entry (front ++ rest) (member_front front rest entry (contains_member entry front used))))
    (free_front s front rest is.free)
    (λ y reached. inputs_clear s settled.unclocked settled.inputs S m (front ++ rest) settled.order inputs are y (reached_first front rest y reached))
    (sound_inputs s uses is.runs is.uses_are.uses_are S m inputs are) taken

pub at_its_turn : (s : Setting) (uses before after : List Use) (entry : Use) → IsOrdered s uses (before ++ entry ∷ after) → (S : Assignment) (m : ℕ) (inputs row last : Row) → AreInputs s m inputs
    → AreTaken s S m before inputs row → AreTaken s S m (entry ∷ after) row last → DoAlike s uses S m entry row last
at_its_turn s uses before after entry is S m inputs row last are taken rest =
    let settled = model s uses (before ++ entry ∷ after) is in
    let free : IsFree s entry after = (free_back s before (entry ∷ after) is.free).0 in
    let used : Contains uses entry = is.same.only entry (member_contains entry (before ++ entry ∷ after) (member_back before (entry ∷ after) entry (inl refl))) in
    let agree : AgreeOnNeeds s entry row last = λ y needs. sym (unchanged s settled.unclocked S m (entry ∷ after) row last rest y (needs_nothing_later s entry after free y needs)) in
    let whole : AreTaken s S m (before ++ entry ∷ after) inputs last = append_taken s S m before (entry ∷ after) inputs row last taken rest in
    let all_sound = front_sound s uses (before ++ entry ∷ after) [] (subst (IsOrdered s uses) (sym (bare_end (before ++ entry ∷ after))) is) S m inputs last are whole in (
      does_alike s uses is.runs is.uses_are.uses_are S m entry used (waits_for_others s entry after free) row last (front_sound s uses before (entry ∷ after) is S m inputs row are taken) agree,
      does_alike s uses is.runs is.uses_are.uses_are S m entry used (waits_for_others s entry after free) last row all_sound (λ y needs. sym (agree y needs)),
    )
  where
    bare_end : (xs : List Use) → xs ++ [] ≡ xs
    bare_end [] = refl
    bare_end (x ∷ xs) = ap (λ ys. x ∷ ys) (bare_end xs)

-- ---- pieces

-- a piece of a free order is free
piece_free : (s : Setting) (pieces : List (List Use)) → AreFree s (joined pieces) → (i : ℕ) (piece : List Use) → slice_get pieces i ≡ Some piece → AreFree s piece
piece_free s [] free i piece found = absurd (none-some piece found)
piece_free s (first ∷ pieces) free zero piece found = subst (AreFree s) (same_Some first piece found) (free_front s first (joined pieces) free)
piece_free s (first ∷ pieces) free (suc i) piece found = piece_free s pieces (free_back s first (joined pieces) free) i piece found

piece_within : (pieces : List (List Use)) (i : ℕ) (piece : List Use) → slice_get pieces i ≡ Some piece → (entry : Use) → IsMember entry piece → IsMember entry (joined pieces)
piece_within [] i piece found entry member = absurd (none-some piece found)
piece_within (first ∷ pieces) zero piece found entry member = member_front first (joined pieces) entry (subst (IsMember entry) (sym (same_Some first piece found)) member)
piece_within (first ∷ pieces) (suc i) piece found entry member = member_back first (joined pieces) entry (piece_within pieces i piece found entry member)

-- what the pieces reach is reached by one of them, or by none
reached_piece : (pieces : List (List Use)) (y : ℕ) → IsReachedBy y (joined pieces) → (i : ℕ) × (piece : List Use) × (slice_get pieces i ≡ Some piece) × IsReachedBy y piece
reached_piece [] y reached = absurd reached
reached_piece (first ∷ pieces) y reached = elim (reached_either first (joined pieces) y reached) [
  | inl own ↦ (0, first, refl, own)
  | inr later ↦ let (i, piece, found, there) = reached_piece pieces y later in (suc i, piece, found, there)
]

reached_or : (uses : List Use) (y : ℕ) → IsReachedBy y uses ⊎ (IsReachedBy y uses → ⊥)
reached_or [] y = inr (λ h. h)
reached_or (first ∷ uses) y = by_first (cases_eq y first.name) (reached_or uses y)
  where
    by_first : (y ≡ first.name) ⊎ (y ≢ first.name) → IsReachedBy y uses ⊎ (IsReachedBy y uses → ⊥) → IsReachedBy y (first ∷ uses) ⊎ (IsReachedBy y (first ∷ uses) → ⊥)
    by_first (inl is) rest = inl (inl is)
    by_first (inr other) (inl there) = inl (inr there)
    by_first (inr other) (inr none) = inr (λ h. elim h [
      | inl is ↦ other is
      | inr there ↦ none there
    ])

module _ (s : Setting) (uses first rest : List Use) (pieces : List (List Use)) (is : IsOrdered s uses (first ++ (joined pieces ++ rest))) (apart : AreApart s pieces)
    (S : Assignment) (m : ℕ) (inputs base : Row) (are : AreInputs s m inputs) (taken : AreTaken s S m first inputs base) (owns : ℕ → Row) (alone : AreTakenAlone s S m base owns pieces)
    (row : Row) (together : AreTaken s S m (first ++ joined pieces) inputs row) (beside : AreBeside base owns pieces row)
    (i : ℕ) (piece : List Use) (found : slice_get pieces i ≡ Some piece) (entry : Use) (of_piece : Contains piece entry) where
  abbrev settled : IsReady s (first ++ (joined pieces ++ rest))
  settled = model s uses (first ++ (joined pieces ++ rest)) is

  pieces_free : AreFree s (joined pieces)
  pieces_free = free_front s (joined pieces) rest (free_back s first (joined pieces ++ rest) is.free)

  own_free : AreFree s piece
  own_free = piece_free s pieces pieces_free i piece found

  in_uses : (e : Use) → IsMember e piece → Contains uses e
  in_uses e member = is.same.only e (member_contains e (first ++ (joined pieces ++ rest))
      (member_back first (joined pieces ++ rest) e (member_front (joined pieces) rest e (piece_within pieces i piece found e member))))

  base_clear : (y : ℕ) → IsReachedBy y piece → base y ≡ None
  base_clear y reached =
      let (e, member, same) = member_reached piece y reached in
      let there : IsReachedBy y (joined pieces ++ rest) = subst (λ z. IsReachedBy z (joined pieces ++ rest)) (sym same) (reached_member (joined pieces ++ rest) e (member_front (joined pieces) rest e (piece_within pieces i piece found e member))) in
      unchanged s settled.unclocked S m first inputs base taken y (λ h. reached_twice s first (joined pieces ++ rest) is.free y h there)
      ∙ inputs_clear s settled.unclocked settled.inputs S m (first ++ (joined pieces ++ rest)) settled.order inputs are y (reached_second first (joined pieces ++ rest) y there)

  own_sound : IsSound s (with_row S m (owns i)) m
  own_sound = sound_taken s uses is.runs is.uses_are.uses_are S m piece base (owns i) (λ e used. in_uses e (contains_member e piece used)) own_free base_clear
      (front_sound s uses first (joined pieces ++ rest) is S m inputs base are taken) (alone i piece found)

  regroup : (a b c : List Use) → a ++ (b ++ c) ≡ (a ++ b) ++ c
  regroup [] b c = refl
  regroup (x ∷ a) b c = ap (λ us. x ∷ us) (regroup a b c)

  row_sound : IsSound s (with_row S m row) m
  row_sound = front_sound s uses (first ++ joined pieces) rest (subst (IsOrdered s uses) (regroup first (joined pieces) rest) is) S m inputs row are together

  waits_at : (us : List Use) → AreFree s us → IsMember entry us → WaitsForNoOwn s entry
  waits_at [] free member = absurd member
  waits_at (e ∷ us) free (inl at) = subst (WaitsForNoOwn s) at (waits_for_others s e us free.0)
  waits_at (e ∷ us) free (inr member) = waits_at us free.1 member

  agree : AgreeOnNeeds s entry (owns i) row
  agree y needs = by_piece (reached_or piece y)
    where
      other_piece : (IsReachedBy y piece → ⊥) → IsReachedBy y (joined pieces) → ⊥
      other_piece none reached =
          let (j, other, there, own) = reached_piece pieces y reached in
          apart i j piece other entry y (λ same. none (subst (IsReachedBy y) (same_Some other piece (sym there ∙ ap (slice_get pieces) (sym same) ∙ found)) own)) found there of_piece (inr needs) own

      by_piece : IsReachedBy y piece ⊎ (IsReachedBy y piece → ⊥) → owns i y ≡ row y
      by_piece (inl reached) = sym (beside.own i piece y found reached)
      by_piece (inr none) = unchanged s settled.unclocked S m piece base (owns i) (alone i piece found) y none ∙ sym (beside.rest y (other_piece none))

  pub in_its_piece : DoAlike s uses S m entry (owns i) row
  in_its_piece =
      let used = in_uses entry (contains_member entry piece of_piece) in
      let waits = waits_at piece own_free (contains_member entry piece of_piece) in (
        does_alike s uses is.runs is.uses_are.uses_are S m entry used waits (owns i) row own_sound agree,
        does_alike s uses is.runs is.uses_are.uses_are S m entry used waits row (owns i) row_sound (λ y needs. sym (agree y needs)),
      )
