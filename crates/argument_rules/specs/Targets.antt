-- What arguments of modifications name. MLS 3.6, chapter 7, "Modifications", in this project's profile.
use Rattle.std.specs.Prelude.{ℕ, List, [], ◌∷◌, ◌++◌, flat_map, codes, Option, Some, None, Bool, true, false, ◌||◌, ◌&&◌, not, option_and_then, bytes_eq, if◌then◌else◌}
use Rattle.mo_parser.specs.declared.tree.Arg.{Arg}
use Rattle.mo_parser.specs.declared.tree.Arg.TheOpen.{Arg-F}
use Rattle.mo_parser.specs.declared.tree.Arg.TheFolds.{fold-Arg}
use Rattle.mo_parser.specs.declared.tree.ClassDef.{ClassDef}
use Rattle.mo_parser.specs.declared.tree.Element.{Element}
use Rattle.mo_parser.specs.declared.tree.Path.{Path}
use Rattle.mo_parser.specs.declared.tree.TreeExpr.{TreeExpr}
use Rattle.flat_model.specs.declared.model.NameKind.{NameKind}
use Rattle.flat_model.specs.declared.model.NameKind.TheVariants as kind
use Rattle.class_scopes.specs.declared.type_name.TypeName.{TypeName}
use Rattle.class_scopes.specs.declared.type_name.TypeName.TheVariants.{Class}
use Rattle.class_scopes.specs.Places.{unless}
use Rattle.class_scopes.specs.Spelled.{Ident, idents, place_of}
use Rattle.class_scopes.specs.Types.{type_of, is_simple, kind_of}
use Rattle.scope_names.specs.Scopes.{element_named}
use Rattle.argument_rules.specs.declared.target.Target.{Target}
use Rattle.argument_rules.specs.declared.target.Target.TheVariants.{Attribute, Part}

-- the attributes of a variable
abbrev pub is_attribute : Ident → Bool
is_attribute name = bytes_eq name (codes "start") || bytes_eq name (codes "min") || bytes_eq name (codes "max") || bytes_eq name (codes "quantity")

abbrev pub is_clock : Option NameKind → Bool
is_clock (Some kind.Clock) = true
is_clock _ = false

-- an attribute of a variable of the kind, by the last name of a path; a Clock has none
abbrev pub attribute : Option NameKind → Ident → Bool → Option Target
attribute kind name last = if last && is_attribute name && not (is_clock kind) then Some Attribute else None

-- nothing is left of a path
abbrev pub ends : List Ident → Bool
ends [] = true
ends (x ∷ rest) = false

-- the places of arguments that name nothing, or give a value to a component that has none, by what is modified
abbrev pub Checking : Type 0
Checking = Option TypeName → List ℕ

abbrev pub within : Option TypeName → List Checking → List ℕ
within modified nested = flat_map (λ checking. checking modified) nested

module _ (text : List ℕ) (classes : List ClassDef) where
  abbrev pub named_in : TypeName → Ident → Option Element
  named_in (Class class) name = element_named text classes class name
  named_in _ name = None

  -- the type of a component in a component of a type, by its name
  abbrev pub part_type : TypeName → Ident → Option TypeName
  part_type type name = option_and_then (λ element. type_of text classes element.base) (named_in type name)

  -- what a path leads to in a component of a type
  abbrev pub target : List Ident → TypeName → Option Target
  target [] type = Some (Part type)
  target (x ∷ rest) type = if is_simple text classes type
      then attribute (kind_of text classes type) x (ends rest)
      else option_and_then (target rest) (part_type type x)

  -- what a path leads to in what is modified: a component of a type, or without one what has no parts
  abbrev pub target_in : Option TypeName → List Ident → Option Target
  target_in (Some type) path = target path type
  target_in None path = None

  -- only a variable has a value
  abbrev pub takes_value : TypeName → Option TreeExpr → Bool
  takes_value type (Some expr) = is_simple text classes type
  takes_value type None = true

  -- arguments inside one that names nothing are not looked at
  abbrev pub misplaced : Path → List Checking → Option TreeExpr → Option Target → List ℕ
  misplaced name nested binding None = place_of name ∷ []
  misplaced name nested binding (Some Attribute) = within None nested
  misplaced name nested binding (Some (Part type)) = unless (takes_value type binding) (place_of name) ++ within (Some type) nested

  abbrev pub misplaced_level : Arg-F Checking → Checking
  misplaced_level arg modified = misplaced arg.name arg.args arg.binding (target_in modified (idents text arg.name))

  unfoldable pub misplaced_by : Arg → Checking
  misplaced_by = fold-Arg Checking misplaced_level

  abbrev pub misplaced_in : Option TypeName → List Arg → List ℕ
  misplaced_in modified args = flat_map (λ arg. misplaced_by arg modified) args
