-- Where the uses of shares stand among all.
use Rattle.std.proofs.Common.{◌≡◌, refl, ap, ◌∙◌, sym, subst, ℕ, zero, suc, List, [], ◌∷◌, ◌++◌, map, Some, slice_get, ◌⊎◌, inl, inr}
use Rattle.std.specs.Prelude.{option_map}
use Rattle.std.proofs.lemmas.Option.{none-some, same_Some, slice_get-map}
use Rattle.flat_model.specs.Setting.{Setting}
use Rattle.flat_model.specs.Uses.{Use}
use Rattle.moment_theory.specs.Division.{joined}
use Rattle.moment_theory.specs.Free.{IsReachedBy, AreFree}
use Rattle.moment_theory.proofs.Beside.{reached_first, reached_second, regroup}
use Rattle.moment_theory.proofs.Pieces.{free_front, free_back, reached_twice}
use Rattle.moment_join.proofs.Fronts.{reached_piece}
use Rattle.share_join.specs.Shares.{Share, all_pieces}

pub at_map : {A B : Type 0} (f : A → B) (xs : List A) (i : ℕ) (x : A) → slice_get xs i ≡ Some x → slice_get (map f xs) i ≡ Some (f x)
at_map f xs i x found = slice_get-map f xs i ∙ ap (option_map f) found

pub map_at : {A B : Type 0} (f : A → B) (xs : List A) (i : ℕ) (y : B) → slice_get (map f xs) i ≡ Some y → (x : A) × (slice_get xs i ≡ Some x) × (f x ≡ y)
map_at f [] i y found = absurd (none-some y found)
map_at f (x ∷ xs) zero y found = (x, refl, same_Some (f x) y found)
map_at f (x ∷ xs) (suc i) y found = map_at f xs i y found

-- ---- lists of uses, one behind the other

pub joined_append : (xs ys : List (List Use)) → joined (xs ++ ys) ≡ joined xs ++ joined ys
joined_append [] ys = refl
joined_append (x ∷ xs) ys = ap (λ us. x ++ us) (joined_append xs ys) ∙ sym (regroup x (joined xs) (joined ys))

pub reached_joined : (xs : List (List Use)) (i : ℕ) (us : List Use) → slice_get xs i ≡ Some us → (y : ℕ) → IsReachedBy y us → IsReachedBy y (joined xs)
reached_joined [] i us found y reached = absurd (none-some us found)
reached_joined (x ∷ xs) zero us found y reached = reached_first x (joined xs) y (subst (IsReachedBy y) (sym (same_Some x us found)) reached)
reached_joined (x ∷ xs) (suc i) us found y reached = reached_second x (joined xs) y (reached_joined xs i us found y reached)

pub free_joined : (s : Setting) (xs : List (List Use)) → AreFree s (joined xs) → (i : ℕ) (us : List Use) → slice_get xs i ≡ Some us → AreFree s us
free_joined s [] free i us found = absurd (none-some us found)
free_joined s (x ∷ xs) free zero us found = subst (AreFree s) (same_Some x us found) (free_front s x (joined xs) free)
free_joined s (x ∷ xs) free (suc i) us found = free_joined s xs (free_back s x (joined xs) free) i us found

-- in a free order no two lists reach the same name
pub reached_once : (s : Setting) (xs : List (List Use)) → AreFree s (joined xs) → (i j : ℕ) (one two : List Use) → slice_get xs i ≡ Some one → slice_get xs j ≡ Some two → (y : ℕ) → IsReachedBy y one → IsReachedBy y two → i ≡ j
reached_once s [] free i j one two at there y here other = absurd (none-some one at)
reached_once s (x ∷ xs) free zero zero one two at there y here other = refl
reached_once s (x ∷ xs) free zero (suc j) one two at there y here other =
    absurd (reached_twice s x (joined xs) free y (subst (IsReachedBy y) (sym (same_Some x one at)) here) (reached_joined xs j two there y other))
reached_once s (x ∷ xs) free (suc i) zero one two at there y here other =
    absurd (reached_twice s x (joined xs) free y (subst (IsReachedBy y) (sym (same_Some x two there)) other) (reached_joined xs i one at y here))
reached_once s (x ∷ xs) free (suc i) (suc j) one two at there y here other = ap suc (reached_once s xs (free_back s x (joined xs) free) i j one two at there y here other)

-- ---- one list of uses of each share

module _ (f : Share → List Use) (shares : List Share) where
  pub of_one : (y : ℕ) → IsReachedBy y (joined (map f shares)) → (i : ℕ) × (share : Share) × (slice_get shares i ≡ Some share) × IsReachedBy y (f share)
  of_one y reached =
      let (i, us, found, own) = reached_piece (map f shares) y reached in
      let (share, at, is) = map_at f shares i us found in
      (i, share, at, subst (IsReachedBy y) (sym is) own)

  pub in_all : (i : ℕ) (share : Share) → slice_get shares i ≡ Some share → (y : ℕ) → IsReachedBy y (f share) → IsReachedBy y (joined (map f shares))
  in_all i share found y reached = reached_joined (map f shares) i (f share) (at_map f shares i share found) y reached

-- ---- all pieces

abbrev pub piece_uses : Share → List Use
piece_uses share = joined share.pieces

pub joined_pieces : (shares : List Share) → joined (all_pieces shares) ≡ joined (map piece_uses shares)
joined_pieces [] = refl
joined_pieces (share ∷ shares) = joined_append share.pieces (all_pieces shares) ∙ ap (λ us. joined share.pieces ++ us) (joined_pieces shares)

pub at_front : {A : Type 0} (xs ys : List A) (i : ℕ) (x : A) → slice_get xs i ≡ Some x → slice_get (xs ++ ys) i ≡ Some x
at_front [] ys i x found = absurd (none-some x found)
at_front (a ∷ xs) ys zero x found = found
at_front (a ∷ xs) ys (suc i) x found = at_front xs ys i x found

at_back : {A : Type 0} (xs ys : List A) (i : ℕ) (x : A) → slice_get ys i ≡ Some x → (j : ℕ) × (slice_get (xs ++ ys) j ≡ Some x)
at_back [] ys i x found = (i, found)
at_back (a ∷ xs) ys i x found = let (j, at) = at_back xs ys i x found in (suc j, at)

at_either : {A : Type 0} (xs ys : List A) (i : ℕ) (x : A) → slice_get (xs ++ ys) i ≡ Some x → (slice_get xs i ≡ Some x) ⊎ ((j : ℕ) × (slice_get ys j ≡ Some x))
at_either [] ys i x found = inr (i, found)
at_either (a ∷ xs) ys zero x found = inl found
at_either (a ∷ xs) ys (suc i) x found = at_either xs ys i x found

pub piece_in_all : (shares : List Share) (i j : ℕ) (share : Share) (piece : List Use) → slice_get shares i ≡ Some share → slice_get share.pieces j ≡ Some piece → (k : ℕ) × (slice_get (all_pieces shares) k ≡ Some piece)
piece_in_all [] i j share piece found at = absurd (none-some share found)
piece_in_all (first ∷ shares) zero j share piece found at = (j, at_front first.pieces (all_pieces shares) j piece (ap (λ h. slice_get h.pieces j) (same_Some first share found) ∙ at))
piece_in_all (first ∷ shares) (suc i) j share piece found at =
    let (k, there) = piece_in_all shares i j share piece found at in
    at_back first.pieces (all_pieces shares) k piece there

-- a piece of all is one of a share
pub record OfShare (shares : List Share) (piece : List Use) : Type 0 where
  pub place : ℕ
  pub share : Share
  pub number : ℕ
  pub found : slice_get shares place ≡ Some share
  pub at : slice_get share.pieces number ≡ Some piece

pub piece_of_share : (shares : List Share) (k : ℕ) (piece : List Use) → slice_get (all_pieces shares) k ≡ Some piece → OfShare shares piece
piece_of_share [] k piece found = absurd (none-some piece found)
piece_of_share (first ∷ shares) k piece found = elim (at_either first.pieces (all_pieces shares) k piece found) [
  | inl own ↦ record { place = 0; share = first; number = k; found = refl; at = own }
  | inr later ↦ let of = piece_of_share shares later.0 piece later.1 in record { place = suc of.place; share = of.share; number = of.number; found = of.found; at = of.at }
]
