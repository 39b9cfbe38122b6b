-- N2: a second class of one name in the file, or a second component of one name in a reached class. This project's own code.
use Rattle.std.specs.Prelude.{ℕ, List, [], map, Option, Contains}
use Rattle.mo_parser.specs.declared.tree.ClassDef.{ClassDef}
use Rattle.mo_parser.specs.declared.tree.Element.{Element}
use Rattle.class_scopes.specs.Places.{Entry, repeats}
use Rattle.class_scopes.specs.Reached.{In}
use Rattle.class_scopes.specs.Spelled.{spelled}
use Rattle.class_scopes.specs.Types.{elements_of}

module _ (text : List ℕ) where
  abbrev pub element_entry : Element → Entry
  element_entry element = record { key = spelled text element.name; place = element.name.at }

  abbrev pub class_entry : ClassDef → Entry
  class_entry class = record { key = spelled text class.name; place = class.name.at }

module _ (text : List ℕ) (classes : List ClassDef) where
  -- the places of second components of one name in a class
  abbrev pub repeated_elements : ℕ → List ℕ
  repeated_elements class = repeats [] (map (element_entry text) (elements_of text classes class))

  -- the places of second classes of one name
  abbrev pub repeated_classes : List ℕ
  repeated_classes = repeats [] (map (class_entry text) classes)

  -- where the rule is broken: at the second name
  pub data Breaks (chosen : Option ℕ) : ℕ → Type 0 where
    second_class : (place : ℕ) → Contains (repeated_classes) place → Breaks chosen place
    second_element : (place : ℕ) → In text classes chosen (repeated_elements) place → Breaks chosen place
