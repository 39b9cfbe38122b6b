-- Numbers that are linked by a list of parents, in which a number that is its own parent is a root.
use Rattle.std.specs.Prelude.{◌≡◌, ℕ, ◌≤◌, List, slice_index_or}
use Rattle.mo_connect.specs.declared.Pair.{Pair}
use Rattle.mo_connect.specs.Chain.{Chain, AreJoined}

-- the parent of a number; a number past the list is its own
abbrev pub parent_of : List ℕ → ℕ → ℕ
parent_of parents x = slice_index_or parents x x

-- the number is its own parent
abbrev pub IsRoot : List ℕ → ℕ → Type 0
IsRoot parents x = parent_of parents x ≡ x

-- no number has a parent above it
abbrev pub Falls : List ℕ → Type 0
Falls parents = (x : ℕ) → parent_of parents x ≤ x

-- each number's parent is a root
abbrev pub IsFlat : List ℕ → Type 0
IsFlat parents = (x : ℕ) → IsRoot parents (parent_of parents x)

-- a chain of numbers and their parents leads from one number to the other
abbrev pub AreLinked : List ℕ → ℕ → ℕ → Type 0
AreLinked parents = Chain (λ x y. parent_of parents x ≡ y)

-- the new parents link the same numbers as the old ones, and keep each root
pub record KeepsLinks (old new : List ℕ) : Type 0 where
  pub falls : Falls new
  pub onward : (x y : ℕ) → AreLinked old x y → AreLinked new x y
  pub back : (x y : ℕ) → AreLinked new x y → AreLinked old x y
  pub roots : (x : ℕ) → IsRoot old x → IsRoot new x

-- the parents link just the numbers that the pairs join
pub record LinksJoined (pairs : List Pair) (parents : List ℕ) : Type 0 where
  pub linked : (x y : ℕ) → AreJoined pairs x y → AreLinked parents x y
  pub joined : (x y : ℕ) → AreLinked parents x y → AreJoined pairs x y
