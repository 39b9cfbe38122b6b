-- What the instances of a chosen class have, and the names of its flat model.
use Rattle.std.specs.Prelude.{ℕ, List, [], map, filter, Option, Some, None, not, bytes_eq}
use Rattle.std.specs.List.{position_from}
use Rattle.mo_parser.specs.declared.tree.ClassDef.{ClassDef}
use Rattle.class_scopes.specs.Spelled.{Ident}
use Rattle.flat_instances.specs.Instances.{Item, Variable, instances, variables}
use Rattle.parameter_values.specs.Values.{is_parameter}

-- the variables but parameters and constants
abbrev pub plain : List Variable → List Variable
plain all = filter (λ v. not (is_parameter v)) all

abbrev pub names_of : List Variable → List Ident
names_of all = map (λ v. v.name) all

-- the number of a flat name among those of variables
abbrev pub number_in : List Variable → Ident → Option ℕ
number_in named name = position_from (bytes_eq name) 0 (names_of named)

module _ (text : List ℕ) (classes : List ClassDef) where
  -- all that the instances of the chosen class have, in flat order
  abbrev pub items_of : Option ℕ → List Item
  items_of (Some root) = instances text classes root
  items_of None = []

  abbrev pub variables_of : Option ℕ → List Variable
  variables_of chosen = variables text classes (items_of chosen)

  -- the names of its flat model are its variables but parameters and constants, in flat order
  abbrev pub named : Option ℕ → List Variable
  named chosen = plain (variables_of chosen)
