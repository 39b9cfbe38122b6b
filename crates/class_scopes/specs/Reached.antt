-- The classes that a chosen class is made of.
use Rattle.std.specs.Prelude.{◌≡◌, ℕ, ◌<◌, List, [], ◌∷◌, length, All, Option, Some, None, Contains}
use Rattle.mo_parser.specs.declared.tree.ClassDef.{ClassDef}
use Rattle.mo_parser.specs.declared.tree.Element.{Element}
use Rattle.class_scopes.specs.declared.type_name.TypeName.TheVariants.{Class}
use Rattle.class_scopes.specs.Spelled.{Ident}
use Rattle.class_scopes.specs.Types.{class_named, type_of, elements_of}

-- the number of the last class
abbrev pub last_of : List ClassDef → Option ℕ
last_of [] = None
last_of (class ∷ classes) = Some (length classes)

module _ (text : List ℕ) (classes : List ClassDef) where
  -- the class that is chosen by its name, the first of that name, or without one the last of the file
  abbrev pub chosen_by : Option Ident → Option ℕ
  chosen_by (Some name) = class_named text classes name
  chosen_by None = last_of classes

  -- a component of the one class is of the other
  pub record HasPart (class part : ℕ) : Type 0 where
    pub element : Element
    pub declared : Contains (elements_of text classes class) element
    pub typed : type_of text classes element.base ≡ Some (Class part)

  -- the chosen class, and the classes of components of such classes
  pub data IsReached (chosen : ℕ) : ℕ → Type 0 where
    itself : IsReached chosen chosen
    part : (class other : ℕ) → IsReached chosen class → HasPart class other → IsReached chosen other

  -- the list has every class that is reached from the chosen one, and no other number
  pub record AreReached (chosen : ℕ) (reached : List ℕ) : Type 0 where
    pub below : All (λ class. class < length classes) reached
    pub only : All (IsReached chosen) reached
    pub every : (class : ℕ) → IsReached chosen class → Contains reached class

  module _ (chosen : Option ℕ) where
    -- a class is reached from the chosen one
    abbrev pub Reaches : ℕ → Type 0
    Reaches class = (root : ℕ) × (chosen ≡ Some root) × IsReached root class

    -- in some reached class a place is listed
    abbrev pub In : (ℕ → List ℕ) → ℕ → Type 0
    In places place = (class : ℕ) × Reaches class × Contains (places class) place
