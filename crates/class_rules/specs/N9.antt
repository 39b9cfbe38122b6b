-- N9: a component or a short connector of a type that is not allowed there. This project's own code.
use Rattle.std.specs.Prelude.{ℕ, List, ◌++◌, flat_map, slice_get, Option, Some, None, Bool, true, false, ◌&&◌, ◌||◌, not, if◌then◌else◌}
use Rattle.mo_parser.specs.declared.tree.ClassDef.{ClassDef}
use Rattle.mo_parser.specs.declared.tree.ClassKind.{ClassKind}
use Rattle.mo_parser.specs.declared.tree.ClassKind.TheVariants.{Connector}
use Rattle.mo_parser.specs.declared.tree.Causality.{Causality}
use Rattle.mo_parser.specs.declared.tree.Causality.TheVariants as causality
use Rattle.mo_parser.specs.declared.tree.Element.{Element}
use Rattle.mo_parser.specs.declared.tree.Short.{Short}
use Rattle.flat_model.specs.declared.model.NameKind.{NameKind}
use Rattle.flat_model.specs.declared.model.NameKind.TheVariants as kind
use Rattle.class_scopes.specs.declared.type_name.TypeName.{TypeName}
use Rattle.class_scopes.specs.declared.type_name.TypeName.TheVariants.{Simple}
use Rattle.class_scopes.specs.Places.{unless, in_option}
use Rattle.class_scopes.specs.Reached.{In}
use Rattle.class_scopes.specs.Spelled.{place_of}
use Rattle.class_scopes.specs.Types.{type_of, kind_of}
use Rattle.scope_names.specs.N3.{is_foreign}
use Rattle.scope_names.specs.Scopes.{is_variable}
use Rattle.parameter_values.specs.Values.{is_fixed}

abbrev pub is_connector : ClassKind → Bool
is_connector Connector = true
is_connector _ = false

abbrev pub is_plain : Causality → Bool
is_plain causality.Plain = true
is_plain _ = false

abbrev pub is_simple_type : Option TypeName → Bool
is_simple_type (Some (Simple kind)) = true
is_simple_type _ = false

abbrev pub is_clock : Option NameKind → Bool
is_clock (Some kind.Clock) = true
is_clock _ = false

-- the prefix `parameter`, `constant`, `input` or `output`
abbrev pub has_prefix : Element → Bool
has_prefix element = is_fixed element.variability || not (is_plain element.causality)

-- a component that is not simple is allowed in a class that is no connector, without a prefix
abbrev pub is_allowed_part : ClassKind → Element → Bool
is_allowed_part kind element = not (is_connector kind || has_prefix element)

module _ (text : List ℕ) (classes : List ClassDef) where
  -- the simple type of a type that is known, that behind a short connector
  abbrev pub kind_behind : Option TypeName → Option NameKind
  kind_behind (Some type) = kind_of text classes type
  kind_behind None = None

  -- a simple component is no Clock that is a parameter or constant, and another is none of Real or String
  abbrev pub is_allowed : ClassKind → Element → Bool
  is_allowed kind element = if is_variable text classes element
      then not (is_fixed element.variability && is_clock (kind_behind (type_of text classes element.base)))
      else (not (is_foreign (type_of text classes element.base)) && is_allowed_part kind element)

  abbrev pub refused_component : ClassKind → Element → List ℕ
  refused_component kind element = unless (is_allowed kind element) (place_of element.base)

  -- a short connector stands for `Integer`, `Boolean` or `Clock`
  abbrev pub refused_short : Short → List ℕ
  refused_short short = unless (is_simple_type (type_of text classes short.base)) (place_of short.base)

  abbrev pub refused_in : ClassDef → List ℕ
  refused_in class = flat_map (refused_component class.kind) class.elements ++ in_option refused_short class.short

  -- the places of refused types in a class
  abbrev pub refused : ℕ → List ℕ
  refused class = in_option refused_in (slice_get classes class)

  -- where the rule is broken: at the type name
  abbrev pub Breaks : Option ℕ → ℕ → Type 0
  Breaks chosen place = In text classes chosen refused place
