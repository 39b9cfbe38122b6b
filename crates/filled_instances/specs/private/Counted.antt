-- What the walk over instances adds that counts.
use Rattle.std.specs.Prelude.{◌≡◌, ℕ, List, [], ◌∷◌, Bool, Some, filter}
use Rattle.mo_parser.specs.declared.tree.Element.{Element}
use Rattle.mo_parser.specs.declared.tree.ClassDef.{ClassDef}
use Rattle.class_scopes.specs.declared.type_name.TypeName.TheVariants.{Class}
use Rattle.class_scopes.specs.Spelled.{Ident}
use Rattle.class_scopes.specs.Types.{type_of}
use Rattle.class_order.specs.Content.{AreFilled}
use Rattle.flat_instances.specs.Instances.{Step, Item, Own}
use Rattle.flat_instances.specs.private.Walks.{component_items, class_items}
use Rattle.filled_instances.specs.Counting.{counts}

-- the equations of a class, where they count
abbrev pub own_items : List Bool → Ident → ℕ → List Item
own_items own scope class = filter (counts own) (Own scope class ∷ [])

module _ (text : List ℕ) (classes : List ClassDef) (own : List Bool) where
  -- what counts of a component, and of an instance of a class
  abbrev pub component_counts : ℕ → Ident → Element → List Step → List Item
  component_counts levels scope element path = filter (counts own) (component_items text classes levels scope element path)

  abbrev pub class_counts : ℕ → Ident → ℕ → List Step → List Item
  class_counts levels scope class path = filter (counts own) (class_items text classes levels scope class path)

  -- the marks are right for the class of a component, and for all that is reached from it
  abbrev pub AreFilledIn : List Bool → Element → Type 0
  AreFilledIn marks element = (part : ℕ) → type_of text classes element.base ≡ Some (Class part) → AreFilled text classes part own marks
