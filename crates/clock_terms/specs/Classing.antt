-- The classes and base partitions of a model. MLS 3.6, chapter 16, "Clock Partitioning", "Base-Clock Partitioning" and "Sub-Clock Partitioning", in this project's profile.
use Rattle.std.specs.Prelude.{◌≡◌, ℕ, ◌<◌, ◌≤◌, ◌⊎◌, ◌↔◌, Bool, true, false, List, length, slice_get, slice_index_or, Some, All, AllPairs}
use Rattle.std.specs.List.Sorted.{IsStrictlyIncreasing}
use Rattle.clock_terms.specs.declared.data.Classes.{Classes}
use Rattle.flat_model.specs.declared.place.Place.{Place}
use Rattle.flat_model.specs.declared.place.Place.TheVariants as place
use Rattle.flat_model.specs.declared.model.FlatModel.{FlatModel}
use Rattle.flat_model.specs.declared.model.FlatName.{FlatName}
use Rattle.clock_terms.specs.Nodes.{Node, nodes_of}
use Rattle.clock_terms.specs.Said.{IsNode, numbered, IsNamed, AreOfOneClass, IsMarkedClocked, IsConverted}
use Rattle.mo_connect.specs.Chain.{Chain}

-- a name that is no input, or a node
abbrev pub IsMember : FlatModel → ℕ → Type 0
IsMember model a = ((name : FlatName) × IsNamed model a name × (name.input ≡ false)) ⊎ ((j : ℕ) × (a ≡ numbered model j) × (j < length (nodes_of model)))

-- the numbers of some kind split into classes, which are numbered in the order of their first members
pub record AreNumbered (IsOne : ℕ → Type 0) (Joined : ℕ → ℕ → Type 0) (firsts : List ℕ) (number_of : ℕ → ℕ) : Type 0 where
  pub rising : IsStrictlyIncreasing firsts
  pub members : All IsOne firsts
  -- each has the number of a class whose first member is joined to it and not behind it
  pub found : (a : ℕ) → IsOne a → (first : ℕ) × (slice_get firsts (number_of a) ≡ Some first) × Joined first a × (first ≤ a)
  -- first members of different classes are not joined
  pub apart : AllPairs (λ first later. Joined first later → ⊥) firsts

-- the place of a class: its first name, or else the equation of its first node
abbrev pub IsPlaceOf : FlatModel → ℕ → Place → Type 0
IsPlaceOf model first p =
    ((name : FlatName) × IsNamed model first name × (p ≡ place.Name name.text))
    ⊎ ((j : ℕ) × (first ≡ numbered model j) × (node : Node) × IsNode model j node × (p ≡ place.Equation node.equation))

-- a conversion, `noClock` included, leads from the class of its argument to that of its equation
pub record AreConverted (model : FlatModel) (class_of : ℕ → ℕ) (c d : ℕ) : Type 0 where
  pub node : ℕ
  pub name : ℕ
  pub converted : IsConverted model node name
  pub own : IsMember model name
  pub result : class_of node ≡ c
  pub argument : class_of name ≡ d

-- a member of the class has the mark
abbrev pub HasMark : FlatModel → (ℕ → Type 0) → (ℕ → ℕ) → ℕ → Type 0
HasMark model IsMarked class_of c = (a : ℕ) × IsMember model a × IsMarked a × (class_of a ≡ c)

-- the class of a name or node
abbrev pub class_in : Classes → ℕ → ℕ
class_in classes a = slice_index_or classes.class_of a 0

-- a class is clocked
abbrev pub is_clocked : Classes → ℕ → Bool
is_clocked classes c = slice_index_or classes.clocked c false

abbrev pub partition_in : Classes → ℕ → ℕ
partition_in classes c = slice_index_or classes.partition c 0

-- the lists have an entry for each name and node, and one for each of so many classes
pub record HaveLengths (model : FlatModel) (classes : Classes) (count : ℕ) : Type 0 where
  pub class_of : length classes.class_of ≡ numbered model (length (nodes_of model))
  pub clocked : length classes.clocked ≡ count
  pub partition : length classes.partition ≡ count
  pub places : length classes.places ≡ count

-- the classes of a model: names and nodes of one class are those that a chain joins
pub record AreClassesOf (model : FlatModel) (classes : Classes) : Type 0 where
  -- the first member of each class
  pub firsts : List ℕ
  pub lengths : HaveLengths model classes (length firsts)
  pub numbered_by : AreNumbered (IsMember model) (AreOfOneClass model) firsts (class_in classes)
  -- an input is in no class
  pub others : (a : ℕ) → (IsMember model a → ⊥) → class_in classes a ≡ 0
  pub places : (c first : ℕ) (p : Place) → slice_get firsts c ≡ Some first → slice_get classes.places c ≡ Some p → IsPlaceOf model first p
  pub clocked : (c : ℕ) → c < length firsts → (is_clocked classes c ≡ true) ↔ HasMark model (IsMarkedClocked model) (class_in classes) c
  -- the first class of each base partition: clocked classes of one partition are those that conversions join
  pub bases : List ℕ
  pub partitions : AreNumbered (λ c. is_clocked classes c ≡ true) (Chain (AreConverted model (class_in classes))) bases (partition_in classes)
  pub unclocked : (c : ℕ) → is_clocked classes c ≡ false → partition_in classes c ≡ 0
