-- Members of lists of uses that are put together.
use Rattle.std.proofs.Common.{◌≡◌, refl, sym, subst, ℕ, suc, List, [], ◌∷◌, ◌++◌, map, Some, slice_get, ◌⊎◌, inl, inr}
use Rattle.flat_model.specs.Uses.{Use}
use Rattle.moment_theory.specs.Division.{joined}
use Rattle.moment_theory.proofs.Members.{IsMember}
use Rattle.share_join.specs.Shares.{Share}
use Rattle.share_join.proofs.Places.{map_at}

pub member_either : (xs ys : List Use) (entry : Use) → IsMember entry (xs ++ ys) → IsMember entry xs ⊎ IsMember entry ys
member_either [] ys entry h = inr h
member_either (x ∷ xs) ys entry (inl at) = inl (inl at)
member_either (x ∷ xs) ys entry (inr h) = elim (member_either xs ys entry h) [
  | inl own ↦ inl (inr own)
  | inr other ↦ inr other
]

-- a use of several lists is one of a list
pub piece_member : (ps : List (List Use)) (entry : Use) → IsMember entry (joined ps) → (i : ℕ) × (piece : List Use) × (slice_get ps i ≡ Some piece) × IsMember entry piece
piece_member [] entry member = absurd member
piece_member (p ∷ ps) entry member = elim (member_either p (joined ps) entry member) [
  | inl own ↦ (0, p, refl, own)
  | inr later ↦ let (i, piece, found, there) = piece_member ps entry later in (suc i, piece, found, there)
]

pub member_joined : (f : Share → List Use) (shares : List Share) (entry : Use) → IsMember entry (joined (map f shares)) → (i : ℕ) × (share : Share) × (slice_get shares i ≡ Some share) × IsMember entry (f share)
member_joined f shares entry member =
    let (i, us, found, own) = piece_member (map f shares) entry member in
    let (share, at, is) = map_at f shares i us found in
    (i, share, at, subst (IsMember entry) (sym is) own)
