-- What the nodes of a model say of clocks: which names and nodes are of one class, and which of them are marked as clocked or as unclocked. MLS 3.6, chapter 16, "Clock Partitioning", in this project's profile.
use Rattle.std.specs.Prelude.{◌≡◌, ◌≢◌, ℕ, ◌+◌, ◌⊎◌, true, false, length, map, Some, None, slice_get, Contains, ◌↔◌}
use Rattle.flat_model.specs.declared.model.FlatModel.{FlatModel}
use Rattle.flat_model.specs.declared.model.FlatName.{FlatName}
use Rattle.flat_model.specs.declared.model.NameKind.TheVariants as kind
use Rattle.clock_terms.specs.Mentions.{Mention, Stands, Ticks, Samples, Holds, Converts}
use Rattle.clock_terms.specs.Nodes.{Node, nodes_of, entry}
use Rattle.clock_terms.specs.Listed.{constructors_of, relations_of}
use Rattle.mo_connect.specs.declared.Pair.{Pair}
use Rattle.mo_connect.specs.Chain.{Chain, AreJoined, AreBelow}
use Rattle.clock_terms.specs.declared.data.Terms.{Terms}

-- node j of the model
abbrev pub IsNode : FlatModel → ℕ → Node → Type 0
IsNode model j node = slice_get (nodes_of model) j ≡ Some node

-- node j is numbered after the names
abbrev pub numbered : FlatModel → ℕ → ℕ
numbered model j = length model.names + j

-- name x of the model
abbrev pub IsNamed : FlatModel → ℕ → FlatName → Type 0
IsNamed model x name = slice_get model.names x ≡ Some name

-- a name that is no input stands uncut in node j
pub record StandsUncut (model : FlatModel) (x j : ℕ) : Type 0 where
  pub node : Node
  pub is_node : IsNode model j node
  pub stands : Contains node.mentions (Stands x)
  pub name : FlatName
  pub is_named : IsNamed model x name
  pub own : name.input ≡ false

-- two nodes are equations of one clause
pub record AreOfOneClause (model : FlatModel) (i j : ℕ) : Type 0 where
  pub first : Node
  pub second : Node
  pub is_first : IsNode model i first
  pub is_second : IsNode model j second
  pub clause : ℕ
  pub of_first : first.clause ≡ Some clause
  pub of_second : second.clause ≡ Some clause

-- one step of a chain that joins names and nodes
abbrev pub IsJoined : FlatModel → ℕ → ℕ → Type 0
IsJoined model a b =
    ((j : ℕ) × (b ≡ numbered model j) × StandsUncut model a j)
    ⊎ ((i : ℕ) × (j : ℕ) × (a ≡ numbered model i) × (b ≡ numbered model j) × AreOfOneClause model i j)

-- names and nodes are of one class
abbrev pub AreOfOneClass : FlatModel → ℕ → ℕ → Type 0
AreOfOneClass model = Chain (IsJoined model)

-- a node with such a mention
abbrev pub HasMention : FlatModel → ℕ → (Mention → Type 0) → Type 0
HasMention model j P = (node : Node) × IsNode model j node × ((mention : Mention) × Contains node.mentions mention × P mention)

-- `previous`, `firstTick`, the interval, `sample` and every conversion want a clock where they stand
abbrev pub NeedsClock : Mention → Type 0
NeedsClock Ticks = Unit {0}
NeedsClock Samples = Unit {0}
NeedsClock (Converts by x) = Unit {0}
NeedsClock _ = ⊥

-- `hold` and every conversion want a clock of their argument
abbrev pub TakesLast : ℕ → Mention → Type 0
TakesLast x (Holds y) = x ≡ y
TakesLast x (Converts by y) = x ≡ y
TakesLast x _ = ⊥

-- marked as clocked: a name of a clock, an equation in a clause, a node that wants a clock, and an argument of which one is wanted
abbrev pub IsMarkedClocked : FlatModel → ℕ → Type 0
IsMarkedClocked model a =
    ((name : FlatName) × IsNamed model a name × (name.kind ≡ kind.Clock))
    ⊎ ((j : ℕ) × (a ≡ numbered model j) × (node : Node) × IsNode model j node × (node.clause ≢ None))
    ⊎ ((j : ℕ) × (a ≡ numbered model j) × HasMention model j NeedsClock)
    ⊎ ((j : ℕ) × HasMention model j (TakesLast a))

abbrev pub IsHold : Mention → Type 0
IsHold (Holds x) = Unit {0}
IsHold _ = ⊥

abbrev pub IsInput : FlatModel → Mention → Type 0
IsInput model (Stands x) = (name : FlatName) × IsNamed model x name × (name.input ≡ true)
IsInput model _ = ⊥

-- marked as unclocked: a node in which an input stands uncut, a node with `hold`, and a part that is cut
abbrev pub IsMarkedUnclocked : FlatModel → ℕ → Type 0
IsMarkedUnclocked model a =
    ((j : ℕ) × (a ≡ numbered model j) × HasMention model j (IsInput model))
    ⊎ ((j : ℕ) × (a ≡ numbered model j) × HasMention model j IsHold)
    ⊎ ((j : ℕ) × (a ≡ numbered model j) × (node : Node) × IsNode model j node × (node.cause ≢ None))

-- a node in which a `hold` stands
abbrev pub IsHolding : FlatModel → ℕ → Type 0
IsHolding model a = (j : ℕ) × (a ≡ numbered model j) × HasMention model j IsHold

abbrev pub IsConversionOf : ℕ → Mention → Type 0
IsConversionOf x (Converts by y) = x ≡ y
IsConversionOf x _ = ⊥

-- a node and the argument of a conversion in it, `noClock` included
abbrev pub IsConverted : FlatModel → ℕ → ℕ → Type 0
IsConverted model a x = (j : ℕ) × (a ≡ numbered model j) × HasMention model j (IsConversionOf x)

-- the terms of a model: its nodes, joins that join just the names and nodes of one class, the marks, the constructors and relations, the nodes with `hold`, and the conversions
pub record AreTermsOf (model : FlatModel) (terms : Terms) : Type 0 where
  pub nodes : terms.nodes ≡ map entry (nodes_of model)
  -- only numbers of names and nodes are joined
  pub below : AreBelow (numbered model (length (nodes_of model))) terms.joins
  pub joins : (a b : ℕ) → AreJoined terms.joins a b ↔ AreOfOneClass model a b
  pub clocked : (a : ℕ) → Contains terms.clocked a ↔ IsMarkedClocked model a
  pub unclocked : (a : ℕ) → Contains terms.unclocked a ↔ IsMarkedUnclocked model a
  pub constructors : terms.constructors ≡ constructors_of model
  pub relations : terms.relations ≡ relations_of model
  pub holds : (a : ℕ) → Contains terms.holds a ↔ IsHolding model a
  pub conversions : (a x : ℕ) → Contains terms.conversions (record { a = a; b = x }) ↔ IsConverted model a x

-- two lists of terms say the same of clocks
pub record SayTheSame (s t : Terms) : Type 0 where
  pub nodes : s.nodes ≡ t.nodes
  pub joins : (a b : ℕ) → AreJoined s.joins a b ↔ AreJoined t.joins a b
  pub clocked : (a : ℕ) → Contains s.clocked a ↔ Contains t.clocked a
  pub unclocked : (a : ℕ) → Contains s.unclocked a ↔ Contains t.unclocked a
  pub constructors : s.constructors ≡ t.constructors
  pub relations : s.relations ≡ t.relations
  pub holds : (a : ℕ) → Contains s.holds a ↔ Contains t.holds a
  pub conversions : (pair : Pair) → Contains s.conversions pair ↔ Contains t.conversions pair
