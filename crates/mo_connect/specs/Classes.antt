-- The classes into which pairs join numbers.
use Rattle.std.specs.Prelude.{◌≢◌, ℕ, ◌<◌, ◌≤◌, List, length, slice_index, All, AllPairs, Any, Contains}
use Rattle.std.specs.List.Sorted.{IsStrictlyIncreasing}
use Rattle.mo_connect.specs.declared.Pair.{Pair}
use Rattle.mo_connect.specs.Chain.{AreJoined}

-- the lists are the classes of two members and more of the numbers below the count,
-- where numbers that a chain of pairs joins are of one class
pub record AreClasses (count : ℕ) (pairs : List Pair) (classes : List (List ℕ)) : Type 0 where
  -- only numbers below the count are listed
  pub below : All (All (λ x. x < count)) classes
  -- the members of one class are joined
  pub joined : All (λ class. (x y : ℕ) → Contains class x → Contains class y → AreJoined pairs x y) classes
  -- different numbers that are joined are members of one class
  pub together : (x y : ℕ) → x ≢ y → AreJoined pairs x y → Any (λ class. Contains class x × Contains class y) classes
  -- no number is a member of two classes
  pub apart : AllPairs (λ class later. (x : ℕ) → Contains class x → Contains later x → ⊥) classes
  -- each class has two members and more
  pub several : All (λ class. 2 ≤ length class) classes
  -- the members of a class rise
  pub rising : All IsStrictlyIncreasing classes
  -- the classes stand in the order of their first members
  pub ordered : AllPairs (λ class later. slice_index class 0 < slice_index later 0) classes
