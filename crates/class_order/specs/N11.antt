-- N11: a component at depth 33 or more, where the components of the chosen class itself are at depth 1. This project's own code.
use Rattle.std.specs.Prelude.{◌≡◌, ℕ, suc, List, Option, Some, Contains}
use Rattle.mo_parser.specs.declared.tree.ClassDef.{ClassDef}
use Rattle.mo_parser.specs.declared.tree.Element.{Element}
use Rattle.class_scopes.specs.Reached.{HasPart}
use Rattle.class_scopes.specs.Types.{elements_of}
use Rattle.class_order.specs.Places.{name_at}

module _ (text : List ℕ) (classes : List ClassDef) where
  -- a class has a component at a depth
  pub data HasDepth : ℕ → ℕ → Type 0 where
    here : (class : ℕ) (element : Element) → Contains (elements_of text classes class) element → HasDepth 1 class
    deeper : (n class part : ℕ) → HasPart text classes class part → HasDepth n part → HasDepth (suc n) class

  -- where the rule is broken: at the name of the chosen class
  abbrev pub Breaks : Option ℕ → ℕ → Type 0
  Breaks chosen place = (root : ℕ) × (chosen ≡ Some root) × HasDepth 33 root × (place ≡ name_at classes root)
