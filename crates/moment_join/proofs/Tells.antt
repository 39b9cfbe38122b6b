-- What the stages tell, over the last row.
use Rattle.std.proofs.Common.{◌≡◌, refl, ap, ◌∙◌, sym, subst, ℕ, zero, suc, List, [], ◌∷◌, ◌++◌, Contains, Option, Some, None, slice_get, ◌⊎◌, inl, inr}
use Rattle.std.proofs.lemmas.Option.{none-some, same_Some}
use Rattle.sync_values.specs.declared.value.Fail.{Fail}
use Rattle.flat_model.specs.Assignment.{Assignment}
use Rattle.flat_model.specs.Faults.{EquationFails}
use Rattle.flat_model.specs.Given.{Row, with_row}
use Rattle.flat_model.specs.Setting.{Setting}
use Rattle.flat_model.specs.Uses.{Use}
use Rattle.moment_theory.specs.Division.{joined}
use Rattle.moment_theory.specs.Sound.{DoesAlike}
use Rattle.moment_theory.proofs.Members.{IsMember, contains_member, member_contains}
use Rattle.first_failure.specs.declared.least.EquationFailing.{EquationFailing}
use Rattle.first_failure.specs.Turns.{FailsAmong, IsLeast}
use Rattle.moment_join.specs.Staged.{AreStagesOf, IsStaged, AreTold}
use Rattle.moment_join.specs.Told.{earlier, earliest}
use Rattle.moment_join.proofs.Joined.{pure_alike, piece_alike}
use Rattle.moment_join.proofs.Least.{same_least, earlier_least}

-- an equation fails of one of the pieces, over the row of its piece
pub record FailsInPiece (s : Setting) (uses : List Use) (S : Assignment) (m : ℕ) (pieces : List (List Use)) (owns : ℕ → Row) (i : ℕ) (kind : Fail) : Type 0 where
  pub place : ℕ
  pub piece : List Use
  pub found : slice_get pieces place ≡ Some piece
  pub fails : FailsAmong s uses S m piece (owns place) i kind

module _ (s : Setting) (uses : List Use) (S : Assignment) (m : ℕ) where
  each_least : (pieces : List (List Use)) (owns : ℕ → Row) (each : List (Option EquationFailing))
      → ((i : ℕ) (piece : List Use) → slice_get pieces i ≡ Some piece → (told : Option EquationFailing) × (slice_get each i ≡ Some told) × IsLeast (FailsAmong s uses S m piece (owns i)) told)
      → ((i : ℕ) (told : Option EquationFailing) → slice_get each i ≡ Some told → (piece : List Use) × (slice_get pieces i ≡ Some piece))
      → IsLeast (FailsInPiece s uses S m pieces owns) (earliest each)
  each_least [] owns [] tells more = λ i kind f. none-some f.piece f.found
  each_least [] owns (t ∷ each) tells more = absurd (let (piece, found) = more 0 t refl in none-some piece found)
  each_least (p ∷ pieces) owns [] tells more = absurd (let (told, found, least) = tells 0 p refl in none-some told found)
  each_least (p ∷ pieces) owns (t ∷ each) tells more =
      let (told, found, least) = tells 0 p refl in
      let own : IsLeast (FailsAmong s uses S m p (owns 0)) t = subst (IsLeast (FailsAmong s uses S m p (owns 0))) (sym (same_Some t told found)) least in
      let rest = each_least pieces (λ i. owns (suc i)) each (λ i piece at. tells (suc i) piece at) (λ i other at. more (suc i) other at) in
      same_least (λ i kind. FailsAmong s uses S m p (owns 0) i kind ⊎ FailsInPiece s uses S m pieces (λ j. owns (suc j)) i kind) (FailsInPiece s uses S m (p ∷ pieces) owns) (earlier t (earliest each)) (λ i kind h. elim h [
        | inl f ↦ record { place = 0; piece = p; found = refl; fails = f }
        | inr f ↦ record { place = suc f.place; piece = f.piece; found = f.found; fails = f.fails }
      ]) (λ i kind f. by_place i kind f.place f.piece f.found f.fails) (earlier_least (FailsAmong s uses S m p (owns 0)) (FailsInPiece s uses S m pieces (λ j. owns (suc j))) t (earliest each) own rest)
    where
      by_place : (i : ℕ) (kind : Fail) (place : ℕ) (piece : List Use) → slice_get (p ∷ pieces) place ≡ Some piece → FailsAmong s uses S m piece (owns place) i kind
          → FailsAmong s uses S m p (owns 0) i kind ⊎ FailsInPiece s uses S m pieces (λ j. owns (suc j)) i kind
      by_place i kind zero piece found fails = inl (subst (λ q. FailsAmong s uses S m q (owns 0) i kind) (sym (same_Some p piece found)) fails)
      by_place i kind (suc place) piece found fails = inr (record { place = place; piece = piece; found = found; fails = fails })

module _ (s : Setting) (uses pure : List Use) (pieces : List (List Use)) (waiting : List Use) (is : AreStagesOf s uses pure pieces waiting) (S : Assignment) (m : ℕ)
    (inputs base : Row) (owns : ℕ → Row) (row last : Row) (staged : IsStaged s S m pure pieces waiting inputs base owns row last) where
  abbrev order : List Use
  order = pure ++ (joined pieces ++ waiting)

  -- an equation of these uses fails over the last row
  to_last : (entry : Use) (i : ℕ) (kind : Fail) (other : Row) → DoesAlike s uses S m entry other last → entry.equation ≡ i → EquationFails s (with_row S m other) uses m i kind → EquationFails s (with_row S m last) uses m i kind
  to_last entry i kind other alike at fails =
      subst (λ j. EquationFails s (with_row S m last) uses m j kind) at (alike.fails kind (subst (λ j. EquationFails s (with_row S m other) uses m j kind) (sym at) fails))

  from_last : (entry : Use) (i : ℕ) (kind : Fail) (other : Row) → DoesAlike s uses S m entry last other → entry.equation ≡ i → EquationFails s (with_row S m last) uses m i kind → EquationFails s (with_row S m other) uses m i kind
  from_last entry i kind other alike at fails =
      subst (λ j. EquationFails s (with_row S m other) uses m j kind) at (alike.fails kind (subst (λ j. EquationFails s (with_row S m last) uses m j kind) (sym at) fails))

  abbrev Some-fails : ℕ → Fail → Type 0
  Some-fails i kind = FailsAmong s uses S m pure base i kind ⊎ (FailsAmong s uses S m waiting last i kind ⊎ FailsInPiece s uses S m pieces owns i kind)

  to_all : (i : ℕ) (kind : Fail) → Some-fails i kind → EquationFails s (with_row S m last) uses m i kind
  to_all i kind (inl (entry, used, at, fails)) =
      to_last entry i kind base (pure_alike s uses pure pieces waiting is S m inputs base owns row last staged entry (contains_member entry pure used)).0 at fails
  to_all i kind (inr (inl (entry, used, at, fails))) = fails
  to_all i kind (inr (inr f)) = let (entry, used, at, fails) = f.fails in
      to_last entry i kind (owns f.place) (piece_alike s uses pure pieces waiting is S m inputs base owns row last staged f.place f.piece f.found entry used).0 at fails

  member_either : (xs ys : List Use) (entry : Use) → IsMember entry (xs ++ ys) → IsMember entry xs ⊎ IsMember entry ys
  member_either [] ys entry h = inr h
  member_either (x ∷ xs) ys entry (inl at) = inl (inl at)
  member_either (x ∷ xs) ys entry (inr h) = elim (member_either xs ys entry h) [
    | inl own ↦ inl (inr own)
    | inr other ↦ inr other
  ]

  member_piece : (ps : List (List Use)) (entry : Use) → IsMember entry (joined ps) → (i : ℕ) × (piece : List Use) × (slice_get ps i ≡ Some piece) × IsMember entry piece
  member_piece [] entry member = absurd member
  member_piece (p ∷ ps) entry member = elim (member_either p (joined ps) entry member) [
    | inl own ↦ (0, p, refl, own)
    | inr later ↦ let (i, piece, found, there) = member_piece ps entry later in (suc i, piece, found, there)
  ]

  by_stage : (entry : Use) (i : ℕ) (kind : Fail) → entry.equation ≡ i → EquationFails s (with_row S m last) uses m i kind → IsMember entry pure ⊎ (IsMember entry (joined pieces) ⊎ IsMember entry waiting) → Some-fails i kind
  by_stage entry i kind at fails (inl member) =
      inl (entry, member_contains entry pure member, at, from_last entry i kind base (pure_alike s uses pure pieces waiting is S m inputs base owns row last staged entry member).1 at fails)
  by_stage entry i kind at fails (inr (inr member)) = inr (inl (entry, member_contains entry waiting member, at, fails))
  by_stage entry i kind at fails (inr (inl member)) =
      let (place, piece, found, there) = member_piece pieces entry member in
      let used = member_contains entry piece there in
      inr (inr (record {
        place = place;
        piece = piece;
        found = found;
        fails = (entry, used, at, from_last entry i kind (owns place) (piece_alike s uses pure pieces waiting is S m inputs base owns row last staged place piece found entry used).1 at fails);
      }))

  from_all : (i : ℕ) (kind : Fail) → EquationFails s (with_row S m last) uses m i kind → Some-fails i kind
  from_all i kind fails =
      let member : IsMember fails.entry order = contains_member fails.entry order (is.ordered.same.all fails.entry fails.used) in
      by_stage fails.entry i kind fails.equation_is fails (elim (member_either pure (joined pieces ++ waiting) fails.entry member) [
        | inl own ↦ inl own
        | inr later ↦ inr (member_either (joined pieces) waiting fails.entry later)
      ])

  pub told_least : (first : Option EquationFailing) (each : List (Option EquationFailing)) (behind : Option EquationFailing) → AreTold s uses S m pure pieces waiting base owns last first each behind
      → IsLeast (EquationFails s (with_row S m last) uses m) (earliest (first ∷ (behind ∷ each)))
  told_least first each behind told =
      same_least Some-fails (EquationFails s (with_row S m last) uses m) (earliest (first ∷ (behind ∷ each))) to_all from_all
      (earlier_least (FailsAmong s uses S m pure base) (λ i kind. FailsAmong s uses S m waiting last i kind ⊎ FailsInPiece s uses S m pieces owns i kind) first (earlier behind (earliest each)) told.first_told
      (earlier_least (FailsAmong s uses S m waiting last) (FailsInPiece s uses S m pieces owns) behind (earliest each) told.behind_told (each_least s uses S m pieces owns each told.each_told told.no_more)))
