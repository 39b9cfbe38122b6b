-- Event conditions in whose class a `hold` stands.
use Rattle.std.specs.Prelude.{◌≡◌, ℕ, ◌+◌, ◌<◌, List, length, Some, Contains, slice_get}
use Rattle.clock_terms.specs.declared.data.NodeOf.{NodeOf}
use Rattle.clock_terms.specs.declared.data.Cause.TheVariants.{Condition}
use Rattle.clock_spread.specs.Found.{class_in}

-- a node has a class, which is below the count
pub record IsInClass (class_of : List ℕ) (count a : ℕ) : Type 0 where
  pub within : a < length class_of
  pub class : class_in class_of a < count

-- one of these nodes is in the class
abbrev pub HasHold : List ℕ → List ℕ → ℕ → Type 0
HasHold class_of holds c = (a : ℕ) × Contains holds a × (class_in class_of a ≡ c)

-- node j is an event condition of the equation, in such a class
pub record IsHoldingNode (class_of holds : List ℕ) (nodes : List NodeOf) (first j e : ℕ) : Type 0 where
  pub node : NodeOf
  pub is_node : slice_get nodes j ≡ Some node
  pub equation : node.equation ≡ e
  pub cause : node.cause ≡ Some Condition
  pub hold : HasHold class_of holds (class_in class_of (first + j))

abbrev pub IsHoldingAt : List ℕ → List ℕ → List NodeOf → ℕ → ℕ → Type 0
IsHoldingAt class_of holds nodes first e = (j : ℕ) × IsHoldingNode class_of holds nodes first j e
