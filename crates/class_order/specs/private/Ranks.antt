-- Reached classes by the places of their names, and the graph of their parts.
use Rattle.std.specs.Prelude.{◌≡◌, ℕ, ◌<◌, ◌≤◌, List, [], ◌∷◌, flat_map, map, slice_get, slice_index_or, Contains, Option, Some, None}
use Rattle.mo_order.specs.Graphs.{Graph}
use Rattle.mo_parser.specs.declared.tree.ClassDef.{ClassDef}
use Rattle.mo_parser.specs.declared.tree.Element.{Element}
use Rattle.class_scopes.specs.declared.type_name.TypeName.{TypeName}
use Rattle.class_scopes.specs.declared.type_name.TypeName.TheVariants.{Class}
use Rattle.class_scopes.specs.Types.{type_of, elements_of}
use Rattle.class_order.specs.declared.ranks.Placed.{Placed}
use Rattle.class_order.specs.Places as places

abbrev pub name_at : List ClassDef → ℕ → ℕ
name_at classes class = places.name_at classes class

-- a class with the place of its name
abbrev pub placed : List ClassDef → ℕ → Placed
placed classes class = record { place = places.name_at classes class; class = class }

-- the classes with the places of their names, so that the places do not fall
pub record AreByPlace (classes : List ClassDef) (reached : List ℕ) (found : List Placed) : Type 0 where
  pub every : (class : ℕ) → Contains reached class → Contains found (placed classes class)
  pub only : (i : ℕ) (entry : Placed) → slice_get found i ≡ Some entry → Contains reached entry.class × (entry.place ≡ places.name_at classes entry.class)
  pub rises : (i j : ℕ) (a b : Placed) → i ≤ j → slice_get found i ≡ Some a → slice_get found j ≡ Some b → a.place ≤ b.place

-- the number of a class among the placed ones
abbrev pub rank_of : List ℕ → ℕ → ℕ
rank_of ranks class = slice_index_or ranks class 0

-- the first placed classes stand at their ranks
abbrev pub AreRanks : List Placed → ℕ → List ℕ → Type 0
AreRanks found count ranks = (k : ℕ) (entry : Placed) → k < count → slice_get found k ≡ Some entry
    → (other : Placed) × (slice_get found (rank_of ranks entry.class) ≡ Some other) × (other.class ≡ entry.class)

abbrev pub part_by : List ℕ → Option TypeName → List ℕ
part_by ranks (Some (Class class)) = rank_of ranks class ∷ []
part_by ranks _ = []

module _ (text : List ℕ) (classes : List ClassDef) (ranks : List ℕ) where
  -- the rank of the class that a component is of
  abbrev pub part_in : Element → List ℕ
  part_in element = part_by ranks (type_of text classes element.base)

  abbrev pub parts_of : ℕ → List ℕ
  parts_of class = flat_map part_in (elements_of text classes class)

  -- for each rank those of the parts
  abbrev pub part_graph : List Placed → Graph
  part_graph found = map (λ entry. parts_of entry.class) found

abbrev pub class_in : Option Placed → ℕ
class_in (Some entry) = entry.class
class_in None = 0

abbrev pub place_in : Option Placed → ℕ
place_in (Some entry) = entry.place
place_in None = 0

-- the class of a rank, and the place of its name
abbrev pub class_at : List Placed → ℕ → ℕ
class_at found rank = class_in (slice_get found rank)

abbrev pub place_at : List Placed → ℕ → ℕ
place_at found rank = place_in (slice_get found rank)
