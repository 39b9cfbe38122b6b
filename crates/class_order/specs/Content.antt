-- Classes whose instances have something in them, here or in a component at any depth.
use Rattle.std.specs.Prelude.{◌≡◌, ◌↔◌, ℕ, List, Bool, true, Some, Contains}
use Rattle.mo_order.specs.Marks.{is_marked}
use Rattle.mo_parser.specs.declared.tree.ClassDef.{ClassDef}
use Rattle.mo_parser.specs.declared.tree.Element.{Element}
use Rattle.class_scopes.specs.declared.type_name.TypeName.{TypeName}
use Rattle.class_scopes.specs.Reached.{HasPart, IsReached}
use Rattle.class_scopes.specs.Types.{type_of, elements_of, is_simple}

module _ (text : List ℕ) (classes : List ClassDef) (own : List Bool) where
  -- a class has something of its own, as an equation, or a variable, or a component whose class has something
  pub data IsFilled : ℕ → Type 0 where
    itself : (class : ℕ) → is_marked own class ≡ true → IsFilled class
    variable : (class : ℕ) (element : Element) (type : TypeName) → Contains (elements_of text classes class) element
        → type_of text classes element.base ≡ Some type → is_simple text classes type ≡ true → IsFilled class
    part : (class other : ℕ) → HasPart text classes class other → IsFilled other → IsFilled class

-- the marks are those of the reached classes that have something in them
abbrev pub AreFilled : List ℕ → List ClassDef → ℕ → List Bool → List Bool → Type 0
AreFilled text classes chosen own marks = (class : ℕ) → IsReached text classes chosen class → is_marked marks class ≡ true ↔ IsFilled text classes own class
