-- What type names stand for. MLS 3.6, chapter 4, "Predefined Types and Classes", in this project's profile.
use Rattle.std.specs.Prelude.{ℕ, List, [], codes, slice_get, Option, Some, None, Bool, true, false, option_map, option_and_then, is_some, bytes_eq, map, if◌then◌else◌}
use Rattle.std.specs.List.{position_from}
use Rattle.mo_parser.specs.declared.tree.ClassDef.{ClassDef}
use Rattle.mo_parser.specs.declared.tree.Element.{Element}
use Rattle.mo_parser.specs.declared.tree.Short.{Short}
use Rattle.mo_parser.specs.declared.tree.TreeEq.{TreeEq}
use Rattle.mo_parser.specs.declared.tree.Path.{Path}
use Rattle.flat_model.specs.declared.model.NameKind.{NameKind}
use Rattle.flat_model.specs.declared.model.NameKind.TheVariants as kind
use Rattle.class_scopes.specs.declared.type_name.TypeName.{TypeName}
use Rattle.class_scopes.specs.declared.type_name.TypeName.TheVariants.{Simple, Foreign, Class}
use Rattle.class_scopes.specs.Spelled.{Ident, spelled, idents, alone}

-- the predefined types, which win over a class of the same name
abbrev pub predefined : Ident → Option TypeName
predefined name =
    if bytes_eq name (codes "Integer") then Some (Simple kind.Integer) else
    if bytes_eq name (codes "Boolean") then Some (Simple kind.Boolean) else
    if bytes_eq name (codes "Clock") then Some (Simple kind.Clock) else
    if bytes_eq name (codes "Real") then Some Foreign else
    if bytes_eq name (codes "String") then Some Foreign else None

abbrev pub or_class : Option TypeName → Option ℕ → Option TypeName
or_class (Some type) class = Some type
or_class None class = option_map Class class

-- over the text and the classes of its tree
module _ (text : List ℕ) (classes : List ClassDef) where
  -- the first class of a name
  abbrev pub class_named : Ident → Option ℕ
  class_named name = position_from (λ class. bytes_eq name (spelled text class.name)) 0 classes

  -- what a name without dots stands for
  abbrev pub type_named : Ident → Option TypeName
  type_named name = or_class (predefined name) (class_named name)

  -- the type of a type name; none where it is unknown, as is every name with a dot
  abbrev pub type_of : Path → Option TypeName
  type_of path = option_and_then type_named (alone (idents text path))

  -- the components that a class declares
  abbrev pub elements_of : ℕ → List Element
  elements_of class = elements_in (slice_get classes class)
    where
      elements_in : Option ClassDef → List Element
      elements_in (Some class) = class.elements
      elements_in None = []

  -- the names of the components of a class
  abbrev pub element_names : ℕ → List Ident
  element_names class = map (λ element. spelled text element.name) (elements_of class)

  -- the equations of a class
  abbrev pub class_equations : ℕ → List TreeEq
  class_equations class = equations_in (slice_get classes class)
    where
      equations_in : Option ClassDef → List TreeEq
      equations_in (Some class) = class.equations
      equations_in None = []

  -- what stands behind the `=` of a short connector
  abbrev pub short_of : ℕ → Option Short
  short_of class = option_and_then (λ class. class.short) (slice_get classes class)

  -- a component of the type is simple: it is a variable, and has no parts
  abbrev pub is_simple : TypeName → Bool
  is_simple (Simple kind) = true
  is_simple Foreign = false
  is_simple (Class class) = is_some (short_of class)

  -- the simple type of a type, that behind a short connector; none of another type
  abbrev pub kind_alone : Option TypeName → Option NameKind
  kind_alone (Some (Simple kind)) = Some kind
  kind_alone _ = None

  abbrev pub kind_of : TypeName → Option NameKind
  kind_of (Simple kind) = Some kind
  kind_of Foreign = None
  kind_of (Class class) = option_and_then (λ short. kind_alone (type_of short.base)) (short_of class)
