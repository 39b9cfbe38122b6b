-- N8: an argument of connect is no connector, or the two differ in the names, order or types of members. This project's own
-- code.
use Rattle.std.specs.Prelude.{ℕ, List, [], ◌∷◌, flat_map, slice_get, Option, Some, None, Bool, true, false, ◌&&◌, option_and_then, bytes_eq, if◌then◌else◌}
use Rattle.mo_parser.specs.declared.tree.ClassDef.{ClassDef}
use Rattle.mo_parser.specs.declared.tree.Element.{Element}
use Rattle.mo_parser.specs.declared.tree.Path.{Path}
use Rattle.mo_parser.specs.declared.tree.Short.{Short}
use Rattle.mo_parser.specs.declared.tree.TreeEq.{TreeEq}
use Rattle.mo_parser.specs.declared.tree.TreeEq.TheOpen.{TreeEq-F}
use Rattle.mo_parser.specs.declared.tree.TreeEq.TheViews.{out-TreeEq}
use Rattle.flat_model.specs.declared.model.NameKind.{NameKind}
use Rattle.flat_model.specs.declared.model.NameKind.TheVariants as kind
use Rattle.class_scopes.specs.declared.type_name.TypeName.{TypeName}
use Rattle.class_scopes.specs.declared.type_name.TypeName.TheVariants.{Class}
use Rattle.class_scopes.specs.Places.{unless}
use Rattle.class_scopes.specs.Reached.{In}
use Rattle.class_scopes.specs.Spelled.{spelled, idents, place_of}
use Rattle.class_scopes.specs.Types.{type_of, class_equations}
use Rattle.scope_names.specs.Scopes.{element_along}
use Rattle.class_rules.specs.N9.{is_connector, kind_behind}

abbrev pub same_kind : Option NameKind → Option NameKind → Bool
same_kind None None = true
same_kind (Some kind.Integer) (Some kind.Integer) = true
same_kind (Some kind.Boolean) (Some kind.Boolean) = true
same_kind (Some kind.Clock) (Some kind.Clock) = true
same_kind _ _ = false

module _ (text : List ℕ) (classes : List ClassDef) where
  abbrev pub kind_named : Path → Option NameKind
  kind_named path = kind_behind text classes (type_of text classes path)

  -- two members have one name and one simple type; members that are not simple have none
  abbrev pub same_member : Element → Element → Bool
  same_member a b = bytes_eq (spelled text a.name) (spelled text b.name) && same_kind (kind_named a.base) (kind_named b.base)

  abbrev pub same_members : List Element → List Element → Bool
  same_members [] [] = true
  same_members (a ∷ more) (b ∷ others) = same_member a b && same_members more others
  same_members _ _ = false

  -- two connectors have the same members; a short connector has one without a name
  abbrev pub alike_by : Option Short → Option Short → ClassDef → ClassDef → Bool
  alike_by (Some a) (Some b) one other = same_kind (kind_named a.base) (kind_named b.base)
  alike_by None None one other = same_members one.elements other.elements
  alike_by _ _ one other = false

  abbrev pub are_alike : ClassDef → ClassDef → Bool
  are_alike one other = alike_by one.short other.short one other

  abbrev pub connector_of : ClassDef → Option ClassDef
  connector_of class = if is_connector class.kind then Some class else None

  abbrev pub connector_typed : Option TypeName → Option ClassDef
  connector_typed (Some (Class class)) = option_and_then connector_of (slice_get classes class)
  connector_typed _ = None

  -- the connector that a name leads to, or nothing where it leads to none
  abbrev pub connector_along : ℕ → Path → Option ClassDef
  connector_along class path = option_and_then (λ element. connector_typed (type_of text classes element.base)) (element_along text classes (idents text path) class)

  -- the place of the first argument that is no connector, or of the first where the two are not alike
  abbrev pub unfit_by : Option ClassDef → Option ClassDef → Path → Path → List ℕ
  unfit_by None other a b = place_of a ∷ []
  unfit_by (Some one) None a b = place_of b ∷ []
  unfit_by (Some one) (Some other) a b = unless (are_alike one other) (place_of a)

  abbrev pub unfit_in : ℕ → TreeEq-F TreeEq → List ℕ
  unfit_in class (TreeEq-F.Connect a b) = unfit_by (connector_along class a) (connector_along class b) a b
  unfit_in class _ = []

  -- the place of a connect of a class that is wrong
  abbrev pub unfit : ℕ → TreeEq → List ℕ
  unfit class equation = unfit_in class (out-TreeEq equation)

  abbrev pub unfit_connects : ℕ → List ℕ
  unfit_connects class = flat_map (unfit class) (class_equations text classes class)

  -- where the rule is broken: at the first part of the argument
  abbrev pub Breaks : Option ℕ → ℕ → Type 0
  Breaks chosen place = In text classes chosen unfit_connects place
