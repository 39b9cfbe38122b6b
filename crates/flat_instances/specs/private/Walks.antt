-- What the walk over instances adds.
use Rattle.std.specs.Prelude.{◌≡◌, ℕ, List, [], ◌∷◌, ◌++◌, map}
use Rattle.mo_parser.specs.declared.tree.Element.{Element}
use Rattle.mo_parser.specs.declared.tree.ClassDef.{ClassDef}
use Rattle.flat_instances.specs.declared.item.Item.{Item as KeptItem}
use Rattle.flat_instances.specs.declared.modifiers.Modifiers.{Modifiers}
use Rattle.class_scopes.specs.declared.type_name.TypeName.{TypeName}
use Rattle.class_scopes.specs.Spelled.{Ident, spelled}
use Rattle.flat_instances.specs.Instances.{Step, Item, Declared, variable, in_component, items}
use Rattle.flat_instances.specs.Kept.{seen}
use Rattle.flat_instances.specs.Force.{AreInForce, stepped}

module _ (text : List ℕ) (classes : List ClassDef) where
  -- items are added at the end
  abbrev pub Adds : List KeptItem → List Item → List KeptItem → Type 0
  Adds old more new = map (seen text classes) new ≡ map (seen text classes) old ++ more

  -- those are added that an instance has, along whatever path the modifiers are in force
  abbrev pub AddsAlong : Ident → Modifiers → (List Step → List Item) → List KeptItem → List KeptItem → Type 0
  AddsAlong scope modifiers more old new = (path : List Step) → AreInForce text scope path modifiers → Adds old (more path) new

  -- what is added for a variable, for a component, and for an instance of a class
  abbrev pub declared : Ident → Element → TypeName → List Step → List Item
  declared scope element type path = Declared (variable text classes (scope ++ spelled text element.name) type element (stepped scope path element)) ∷ []

  abbrev pub component_items : ℕ → Ident → Element → List Step → List Item
  component_items levels scope element path = in_component text classes (items text classes levels) scope path element

  abbrev pub class_items : ℕ → Ident → ℕ → List Step → List Item
  class_items levels scope class path = items text classes levels scope path class
