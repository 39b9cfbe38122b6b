-- What a list of pairs joins.
use Rattle.std.specs.Prelude.{ℕ, ◌<◌, List, All, Contains}
use Rattle.mo_connect.specs.declared.Pair.{Pair}

-- a chain of steps leads from one number to the other, each step taken forward or backward
pub data Chain (Step : ℕ → ℕ → Type 0) : ℕ → ℕ → Type 0 where
  stay : (x : ℕ) → Chain Step x x
  forward : (x y z : ℕ) → Step x y → Chain Step y z → Chain Step x z
  backward : (x y z : ℕ) → Step y x → Chain Step y z → Chain Step x z

-- the two numbers are one of the pairs, in this order
abbrev pub IsPair : List Pair → ℕ → ℕ → Type 0
IsPair pairs x y = Contains pairs (record { a = x; b = y })

-- a chain of pairs joins the two numbers
abbrev pub AreJoined : List Pair → ℕ → ℕ → Type 0
AreJoined pairs = Chain (IsPair pairs)

-- the pairs name numbers below the count alone
abbrev pub AreBelow : ℕ → List Pair → Type 0
AreBelow count pairs = All (λ pair. (pair.a < count) × (pair.b < count)) pairs
