-- N3: an unknown name in a reached class, or one that is no variable, parameter, constant or Clock, or in a connect no
-- component. This project's own code.
use Rattle.std.specs.Prelude.{ℕ, List, ◌++◌, flat_map, slice_get, Option, Some, None, Bool, true, false, ◌||◌, is_some}
use Rattle.mo_parser.specs.declared.tree.ClassDef.{ClassDef}
use Rattle.mo_parser.specs.declared.tree.Element.{Element}
use Rattle.mo_parser.specs.declared.tree.Path.{Path}
use Rattle.class_scopes.specs.declared.type_name.TypeName.{TypeName}
use Rattle.class_scopes.specs.declared.type_name.TypeName.TheVariants.{Foreign}
use Rattle.class_scopes.specs.Places.{unless, in_option}
use Rattle.class_scopes.specs.Reached.{In}
use Rattle.class_scopes.specs.Spelled.{idents, place_of, is_time}
use Rattle.class_scopes.specs.Types.{type_of}
use Rattle.scope_names.specs.Scopes.{element_along, is_variable}
use Rattle.scope_names.specs.Written.{names_of_class, connected_in_class, names_of_short}

-- a component of Real or String counts as a variable here, which no model may have
abbrev pub is_foreign : Option TypeName → Bool
is_foreign (Some Foreign) = true
is_foreign _ = false

-- a name in an argument of a short connector, where nothing but `time` is known
abbrev pub foreign_name : List ℕ → Path → List ℕ
foreign_name text path = unless (is_time (idents text path)) (place_of path)

module _ (text : List ℕ) (classes : List ClassDef) where
  abbrev pub leads_to_variable : Option Element → Bool
  leads_to_variable (Some element) = is_variable text classes element || is_foreign (type_of text classes element.base)
  leads_to_variable None = false

  -- a name in an expression that stands in a class
  abbrev pub is_known_name : ℕ → Path → Bool
  is_known_name class path = is_time (idents text path) || leads_to_variable (element_along text classes (idents text path) class)

  abbrev pub unknown_name : ℕ → Path → List ℕ
  unknown_name class path = unless (is_known_name class path) (place_of path)

  -- a name that a class connects
  abbrev pub unconnected_name : ℕ → Path → List ℕ
  unconnected_name class path = unless (is_some (element_along text classes (idents text path) class)) (place_of path)

  abbrev pub unknown_names_in : ℕ → ClassDef → List ℕ
  unknown_names_in class definition =
      flat_map (unknown_name class) (names_of_class definition) ++ flat_map (unconnected_name class) (connected_in_class definition)
      ++ flat_map (foreign_name text) (in_option names_of_short definition.short)

  -- the places of unknown names in a class
  abbrev pub unknown_names : ℕ → List ℕ
  unknown_names class = in_option (unknown_names_in class) (slice_get classes class)

  -- where the rule is broken: at the first part of the name
  abbrev pub Breaks : Option ℕ → ℕ → Type 0
  Breaks chosen place = In text classes chosen unknown_names place
