-- The inputs of a flat model. MLS 3.6, chapter 4, "Component Declarations", in this project's profile.
use Rattle.std.specs.Prelude.{ℕ, List, [], ◌∷◌, ◌++◌, map, flat_map, slice_get, Option, Some, None, Bool, true, false, ◌&&◌, ◌||◌, if◌then◌else◌}
use Rattle.mo_parser.specs.declared.tree.Causality.{Causality}
use Rattle.mo_parser.specs.declared.tree.Causality.TheVariants as causality
use Rattle.mo_parser.specs.declared.tree.ClassDef.{ClassDef}
use Rattle.mo_parser.specs.declared.tree.Element.{Element}
use Rattle.mo_parser.specs.declared.tree.Short.{Short}
use Rattle.flat_model.specs.declared.model.NameKind.{NameKind}
use Rattle.flat_model.specs.declared.model.NameKind.TheVariants as kind
use Rattle.class_rules.specs.N9.{is_connector}
use Rattle.class_scopes.specs.declared.type_name.TypeName.{TypeName}
use Rattle.class_scopes.specs.declared.type_name.TypeName.TheVariants.{Class}
use Rattle.class_scopes.specs.Places.{is_among}
use Rattle.class_scopes.specs.Spelled.{Ident, spelled, inside}
use Rattle.class_scopes.specs.Types.{type_of, elements_of, short_of}
use Rattle.flat_instances.specs.Instances.{Variable}

abbrev pub is_input : Causality → Bool
is_input causality.Input = true
is_input _ = false

-- a Clock is no input
abbrev pub is_valued : NameKind → Bool
is_valued kind.Clock = false
is_valued _ = true

abbrev pub short_is_input : Option Short → Bool
short_is_input (Some short) = is_input short.causality
short_is_input None = false

module _ (text : List ℕ) (classes : List ClassDef) where
  -- the prefix `input` of a short connector
  abbrev pub type_is_input : TypeName → Bool
  type_is_input (Class class) = short_is_input (short_of text classes class)
  type_is_input _ = false

  -- the prefix `input`, of a declaration or of the short connector that it names
  abbrev pub has_input : Variable → Bool
  has_input v = is_input v.element.causality || type_is_input v.type

  -- the members of a component of a type, where that is a connector
  abbrev pub connector_members : Option ClassDef → List Element
  connector_members (Some class) = if is_connector class.kind then class.elements else []
  connector_members None = []

  abbrev pub members_of : Option TypeName → List Element
  members_of (Some (Class class)) = connector_members (slice_get classes class)
  members_of _ = []

  -- a component of the chosen class, and its members where it is a connector
  abbrev pub member_name : Ident → Element → Ident
  member_name name member = inside [] name ++ spelled text member.name

  abbrev pub outer_in : Element → List Ident
  outer_in element = spelled text element.name ∷ map (member_name (spelled text element.name)) (members_of (type_of text classes element.base))

  -- the flat names at which an input of a class can stand
  abbrev pub outer_names : ℕ → List Ident
  outer_names root = flat_map outer_in (elements_of text classes root)

  abbrev pub is_outer : Option ℕ → Ident → Bool
  is_outer (Some root) name = is_among (outer_names root) name
  is_outer None name = false

  -- an input of the model: a variable of the chosen class, or a member of a connector in it, with the prefix
  abbrev pub is_model_input : Option ℕ → Variable → NameKind → Bool
  is_model_input chosen v kind = has_input v && is_outer chosen v.name && is_valued kind
