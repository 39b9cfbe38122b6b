-- The pairs of names that connects join. MLS 3.6, chapter 9, "Generation of Connection Equations", in this project's profile.
use Rattle.std.specs.Prelude.{◌≡◌, ℕ, ◌<◌, List, [], ◌∷◌, ◌++◌, flat_map, Option, Some, None, option_and_then}
use Rattle.mo_parser.specs.declared.tree.ClassDef.{ClassDef}
use Rattle.mo_parser.specs.declared.tree.Element.{Element}
use Rattle.mo_parser.specs.declared.tree.Path.{Path}
use Rattle.mo_parser.specs.declared.tree.Short.{Short}
use Rattle.mo_parser.specs.declared.tree.TreeEq.{TreeEq}
use Rattle.mo_parser.specs.declared.tree.TreeEq.TheOpen.{TreeEq-F}
use Rattle.mo_parser.specs.declared.tree.TreeEq.TheViews.{out-TreeEq}
use Rattle.mo_connect.specs.declared.Pair.{Pair}
use Rattle.class_scopes.specs.Spelled.{Ident, spelled, idents, dotted}
use Rattle.class_scopes.specs.Types.{elements_of, class_equations, short_of}
use Rattle.flat_instances.specs.Instances.{Item, Declared, Own}
use Rattle.flat_instances.specs.Kept.{seen}
use Rattle.flat_instances.specs.declared.item.Item.{Item as KeptItem}
use Rattle.scope_names.specs.Scopes.{element_along, class_of}

-- every name that has a number has one below the count
abbrev pub NumbersBelow : ℕ → (Ident → Option ℕ) → Type 0
NumbersBelow count number = (name : Ident) (n : ℕ) → number name ≡ Some n → n < count

-- a pair of two names, where both have numbers
abbrev pub pair_of : Option ℕ → Option ℕ → List Pair
pair_of (Some a) (Some b) = record { a = a; b = b } ∷ []
pair_of _ _ = []

-- what stands before a name in its scope, and the name
abbrev pub flat_name : List ℕ → Ident → Path → Ident
flat_name text scope path = scope ++ dotted (idents text path)

-- over a text, the classes of its tree, and the numbers of names but parameters and constants, by their flat names
module _ (text : List ℕ) (classes : List ClassDef) (number : Ident → Option ℕ) where
  -- the pair of the members of one name in two components
  abbrev pub member_pair : Ident → Ident → Element → List Pair
  member_pair a b member = pair_of (number (a ++ 46 ∷ spelled text member.name)) (number (b ++ 46 ∷ spelled text member.name))

  -- the pairs of two components of a connector: the two themselves where it is short, or else those of each member
  abbrev pub component_pairs_by : Option Short → ℕ → Ident → Ident → List Pair
  component_pairs_by (Some short) connector a b = pair_of (number a) (number b)
  component_pairs_by None connector a b = flat_map (member_pair a b) (elements_of text classes connector)

  abbrev pub component_pairs : ℕ → Ident → Ident → List Pair
  component_pairs connector a b = component_pairs_by (short_of text classes connector) connector a b

  abbrev pub pairs_by : Option ℕ → Ident → Ident → List Pair
  pairs_by (Some connector) a b = component_pairs connector a b
  pairs_by None a b = []

  -- the connector of the component that a name leads to in a class
  abbrev pub connector_along : ℕ → Path → Option ℕ
  connector_along class path = option_and_then (class_of text classes) (element_along text classes (idents text path) class)

  -- the pairs of a connect that a class has in a scope; both arguments are of one connector
  abbrev pub connect_pairs : Ident → ℕ → Path → Path → List Pair
  connect_pairs scope class a b = pairs_by (connector_along class a) (flat_name text scope a) (flat_name text scope b)

  abbrev pub equation_pairs_by : Ident → ℕ → TreeEq-F TreeEq → List Pair
  equation_pairs_by scope class (TreeEq-F.Connect a b) = connect_pairs scope class a b
  equation_pairs_by scope class _ = []

  abbrev pub equation_pairs : Ident → ℕ → TreeEq → List Pair
  equation_pairs scope class equation = equation_pairs_by scope class (out-TreeEq equation)

  -- the pairs of all connects of a class in a scope
  abbrev pub class_pairs : Ident → ℕ → List Pair
  class_pairs scope class = flat_map (equation_pairs scope class) (class_equations text classes class)

  abbrev pub item_pairs : Item → List Pair
  item_pairs (Declared v) = []
  item_pairs (Own scope class) = class_pairs scope class

  -- the pairs of instances, in flat order
  abbrev pub pairs : List Item → List Pair
  pairs items = flat_map item_pairs items

  -- the pairs of an item that is kept
  abbrev pub kept_pairs : KeptItem → List Pair
  kept_pairs item = item_pairs (seen text classes item)
