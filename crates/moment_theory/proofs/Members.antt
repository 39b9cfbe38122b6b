-- The entries of a list of uses, one by one.
use Rattle.std.proofs.Common.{◌≡◌, refl, ap, ℕ, zero, suc, List, [], ◌∷◌, Contains, ◌⊎◌, inl, inr, sym, arith}
use Rattle.flat_model.specs.Uses.{Use}
use Rattle.moment_theory.specs.Free.{IsReachedBy}

-- an entry of a list
abbrev pub IsMember : Use → List Use → Type 0
IsMember entry [] = ⊥
IsMember entry (first ∷ uses) = (first ≡ entry) ⊎ IsMember entry uses

pub contains_member : (entry : Use) (uses : List Use) → Contains uses entry → IsMember entry uses
contains_member entry [] (k, lt, e) = absurd (omega arith)
contains_member entry (first ∷ uses) (zero, lt, e) = inl e
contains_member entry (first ∷ uses) (suc k, lt, e) = inr (contains_member entry uses (k, omega arith, e))

pub member_contains : (entry : Use) (uses : List Use) → IsMember entry uses → Contains uses entry
member_contains entry [] h = absurd h
member_contains entry (first ∷ uses) (inl e) = (0, omega arith, e)
member_contains entry (first ∷ uses) (inr h) = let (k, lt, e) = member_contains entry uses h in (suc k, omega arith, e)

pub reached_member : (uses : List Use) (entry : Use) → IsMember entry uses → IsReachedBy entry.name uses
reached_member [] entry h = absurd h
reached_member (first ∷ uses) entry (inl is) = inl (ap (λ e. e.name) (sym is))
reached_member (first ∷ uses) entry (inr h) = inr (reached_member uses entry h)

-- a name that is reached is reached by some entry
pub member_reached : (uses : List Use) (y : ℕ) → IsReachedBy y uses → (entry : Use) × IsMember entry uses × (y ≡ entry.name)
member_reached [] y h = absurd h
member_reached (first ∷ uses) y (inl is) = (first, inl refl, is)
member_reached (first ∷ uses) y (inr h) = let (entry, member, is) = member_reached uses y h in (entry, inr member, is)
