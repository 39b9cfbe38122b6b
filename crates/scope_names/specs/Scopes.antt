-- What names stand for in the class where they are written. MLS 3.6, chapter 5, "Static Name Lookup", in this project's profile.
use Rattle.std.specs.Prelude.{ℕ, List, [], ◌∷◌, find, Option, Some, None, Bool, false, option_and_then, bytes_eq}
use Rattle.mo_parser.specs.declared.tree.ClassDef.{ClassDef}
use Rattle.mo_parser.specs.declared.tree.Element.{Element}
use Rattle.class_scopes.specs.declared.type_name.TypeName.{TypeName}
use Rattle.class_scopes.specs.declared.type_name.TypeName.TheVariants.{Class}
use Rattle.class_scopes.specs.Spelled.{Ident, spelled}
use Rattle.class_scopes.specs.Types.{type_of, elements_of, is_simple}

module _ (text : List ℕ) (classes : List ClassDef) where
  -- the element of a class by its name
  abbrev pub element_named : ℕ → Ident → Option Element
  element_named class name = find (λ element. bytes_eq name (spelled text element.name)) (elements_of text classes class)

  -- the class that an element is of
  abbrev pub class_by : Option TypeName → Option ℕ
  class_by (Some (Class class)) = Some class
  class_by _ = None

  abbrev pub class_of : Element → Option ℕ
  class_of element = class_by (type_of text classes element.base)

  -- the element that a name with dots leads to, through components
  abbrev pub element_along : List Ident → ℕ → Option Element
  element_along [] class = None
  element_along (x ∷ []) class = element_named class x
  element_along (x ∷ (y ∷ rest)) class = option_and_then (λ element. option_and_then (element_along (y ∷ rest)) (class_of element)) (element_named class x)

  -- the element is a variable, a parameter, a constant or a Clock
  abbrev pub simple_by : Option TypeName → Bool
  simple_by (Some type) = is_simple text classes type
  simple_by None = false

  abbrev pub is_variable : Element → Bool
  is_variable element = simple_by (type_of text classes element.base)
