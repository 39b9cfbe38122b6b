-- Marks of classes that are found from those of their parts.
use Rattle.std.specs.Prelude.{◌≡◌, ◌↔◌, ℕ, ◌<◌, List, length, slice_get, Bool, true, false, ◌||◌, Option, Some, None}
use Rattle.std.specs.List.{list_any}
use Rattle.mo_order.specs.Marks.{is_marked}
use Rattle.mo_parser.specs.declared.tree.ClassDef.{ClassDef}
use Rattle.mo_parser.specs.declared.tree.Element.{Element}
use Rattle.class_scopes.specs.declared.type_name.TypeName.{TypeName}
use Rattle.class_scopes.specs.declared.type_name.TypeName.TheVariants.{Class}
use Rattle.class_scopes.specs.Types.{type_of, elements_of, is_simple}
use Rattle.class_order.specs.Content.{IsFilled}

module _ (text : List ℕ) (classes : List ClassDef) where
  abbrev pub content_by : List Bool → Option TypeName → Bool
  content_by marks (Some (Class part)) = is_simple text classes (Class part) || is_marked marks part
  content_by marks (Some type) = is_simple text classes type
  content_by marks None = false

  -- a component is a variable, or its class is marked
  abbrev pub has_content : List Bool → Element → Bool
  has_content marks element = content_by marks (type_of text classes element.base)

  -- a class has something of its own, or in a component
  abbrev pub is_filled : List Bool → List Bool → ℕ → Bool
  is_filled own marks class = is_marked own class || list_any (has_content marks) (elements_of text classes class)

  -- the marks of the first classes of an order are found
  pub record AreMarks (own : List Bool) (order : List ℕ) (count : ℕ) (marks : List Bool) : Type 0 where
    pub size : length marks ≡ length classes
    pub done : (k class : ℕ) → k < count → slice_get order k ≡ Some class → is_marked marks class ≡ true ↔ IsFilled text classes own class
