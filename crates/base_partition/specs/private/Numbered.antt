-- Members numbered by the first ones of their classes.
use Rattle.std.specs.Prelude.{◌≡◌, ℕ, ◌<◌, ◌≤◌, Bool, true, false, List, length, slice_index_or, slice_get, Some, Contains}
use Rattle.mo_connect.specs.declared.Pair.{Pair}
use Rattle.mo_connect.specs.Chain.{AreJoined}
use Rattle.clock_terms.specs.Classing.{AreNumbered}

abbrev pub is_member : List Bool → ℕ → Bool
is_member members a = slice_index_or members a false

abbrev pub first_of : List ℕ → ℕ → ℕ
first_of first a = slice_index_or first a 0

-- the first of a member is a member, is not above it, and is its own first
pub record HasFirsts (first : List ℕ) (members : List Bool) : Type 0 where
  pub below : (a : ℕ) → first_of first a ≤ a
  pub member : (a : ℕ) → is_member members a ≡ true → is_member members (first_of first a) ≡ true
  pub own : (a : ℕ) → is_member members a ≡ true → first_of first (first_of first a) ≡ first_of first a

-- the first n numbers have the places of their firsts
pub record AreNumbers (first : List ℕ) (members : List Bool) (n : ℕ) (firsts places : List ℕ) : Type 0 where
  pub count : length places ≡ n
  pub found : (a : ℕ) → a < n → is_member members a ≡ true → slice_get firsts (slice_index_or places a 0) ≡ Some (first_of first a)
  pub others : (a : ℕ) → a < n → is_member members a ≡ false → slice_index_or places a 0 ≡ 0
  pub own : (f : ℕ) → Contains firsts f → (f < n) × (is_member members f ≡ true) × (first_of first f ≡ f)
  pub rising : (k l : ℕ) → k < l → l < length firsts → slice_index_or firsts k 0 < slice_index_or firsts l 0

-- members that a chain of pairs joins are of one class, and classes are numbered by their first members; another number has the place 0
pub record AreClassNumbers (pairs : List Pair) (members : List Bool) (firsts places : List ℕ) : Type 0 where
  pub count : length places ≡ length members
  pub numbered : AreNumbered (λ a. is_member members a ≡ true) (AreJoined pairs) firsts (λ a. slice_index_or places a 0)
  pub others : (a : ℕ) → is_member members a ≡ false → slice_index_or places a 0 ≡ 0

-- joined numbers are members together
abbrev pub AreTogether : List Pair → List Bool → Type 0
AreTogether pairs members = (a b : ℕ) → AreJoined pairs a b → is_member members a ≡ is_member members b
