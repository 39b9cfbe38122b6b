-- N4: a reached class contains itself, through any number of components. This project's own code.
use Rattle.std.specs.Prelude.{◌≡◌, ℕ, List, Option}
use Rattle.mo_parser.specs.declared.tree.ClassDef.{ClassDef}
use Rattle.class_scopes.specs.Reached.{HasPart, Reaches}
use Rattle.class_order.specs.Places.{name_at}

module _ (text : List ℕ) (classes : List ClassDef) where
  -- the one class has the other inside, through any number of components
  pub data IsInside : ℕ → ℕ → Type 0 where
    directly : (class other : ℕ) → HasPart text classes class other → IsInside class other
    through : (class part other : ℕ) → HasPart text classes class part → IsInside part other → IsInside class other

  -- where the rule is broken: at the name of the class
  abbrev pub Breaks : Option ℕ → ℕ → Type 0
  Breaks chosen place = (class : ℕ) × Reaches text classes chosen class × IsInside class class × (place ≡ name_at classes class)
