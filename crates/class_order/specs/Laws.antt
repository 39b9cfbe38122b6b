-- That no call has two answers.
use Rattle.std.specs.Prelude.{◌≡◌, ℕ, List, Bool, Some}
use Rattle.mo_order.specs.Marks.{is_marked}
use Rattle.mo_parser.specs.declared.tree.ClassDef.{ClassDef}
use Rattle.class_scopes.specs.Faults.{IsFirstOf}
use Rattle.class_scopes.specs.Reached.{IsReached}
use Rattle.class_order.specs.Content.{AreFilled}
use Rattle.class_order.specs.N4 as N4
use Rattle.class_order.specs.Orders.{ArePartsFirst}

-- where parts can come before wholes, N4 is broken nowhere
abbrev pub NeverBothLaw : Type 0
NeverBothLaw = (text : List ℕ) (classes : List ClassDef) (chosen place : ℕ) (order : List ℕ) → ArePartsFirst text classes chosen order
    → N4.Breaks text classes (Some chosen) place → ⊥

-- N4 is broken first at one place
abbrev pub OnePlaceLaw : Type 0
OnePlaceLaw = (text : List ℕ) (classes : List ClassDef) (chosen a b : ℕ) → IsFirstOf (N4.Breaks text classes (Some chosen)) a → IsFirstOf (N4.Breaks text classes (Some chosen)) b → a ≡ b

-- marks agree on the reached classes
abbrev pub OneMarkLaw : Type 0
OneMarkLaw = (text : List ℕ) (classes : List ClassDef) (chosen : ℕ) (own a b : List Bool) → AreFilled text classes chosen own a → AreFilled text classes chosen own b
    → (class : ℕ) → IsReached text classes chosen class → is_marked a class ≡ is_marked b class
