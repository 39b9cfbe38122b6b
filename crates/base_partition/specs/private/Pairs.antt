-- The classes that conversions join.
use Rattle.std.specs.Prelude.{ℕ, Bool, if◌then◌else◌, List, [], ◌∷◌, flat_map, slice_index_or}
use Rattle.mo_connect.specs.declared.Pair.{Pair}
use Rattle.base_partition.specs.private.Numbered.{is_member}

-- the classes of a node and of an argument that is a member
abbrev pub class_pair : List Bool → List ℕ → Pair → List Pair
class_pair members class_of pair =
    if is_member members pair.b then record { a = slice_index_or class_of pair.a 0; b = slice_index_or class_of pair.b 0 } ∷ [] else []

abbrev pub class_pairs : List Bool → List ℕ → List Pair → List Pair
class_pairs members class_of conversions = flat_map (class_pair members class_of) conversions
