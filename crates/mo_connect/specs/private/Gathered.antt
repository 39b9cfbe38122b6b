-- The members of one root, gathered into a list.
use Rattle.std.specs.Prelude.{◌≡◌, ◌≢◌, ℕ, ◌<◌, ◌≤◌, Bool, true, false, List, [], ◌∷◌, ◌++◌, length, slice_index, Contains}
use Rattle.std.specs.List.Sorted.{IsStrictlyIncreasing}
use Rattle.mo_connect.specs.private.Links.{parent_of}

-- of the numbers below a bound, the list has the root and those under it, rising, or nothing where the root is alone
pub record HasMembers (parents : List ℕ) (bound root : ℕ) (members : List ℕ) : Type 0 where
  pub rising : IsStrictlyIncreasing members
  pub under : (x : ℕ) → Contains members x → (x < bound) × (parent_of parents x ≡ root)
  pub first : members ≢ [] → slice_index members 0 ≡ root
  pub several : members ≢ [] → 2 ≤ length members
  pub whole : (x : ℕ) → x < bound → parent_of parents x ≡ root → x ≢ root → Contains members x

-- a list of members with one more, which comes after the root itself where it is the first
abbrev pub with_member : List ℕ → ℕ → ℕ → List ℕ
with_member [] root x = root ∷ x ∷ []
with_member (first ∷ others) root x = (first ∷ others) ++ x ∷ []

-- the list has an element
abbrev pub is_filled : List ℕ → Bool
is_filled [] = false
is_filled (x ∷ xs) = true
