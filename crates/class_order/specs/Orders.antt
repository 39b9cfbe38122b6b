-- Orders of classes in which parts come before wholes.
use Rattle.std.specs.Prelude.{◌≡◌, ℕ, ◌<◌, List, Some, Result, Ok, Err, slice_get, ⊤}
use Rattle.std.specs.Global.{Global}
use Rattle.std.specs.declared.vec.Vec.{Vec}
use Rattle.mo_parser.specs.declared.tree.ClassDef.{ClassDef}
use Rattle.class_scopes.specs.declared.end.NameCode.TheVariants as code
use Rattle.class_scopes.specs.declared.end.RuleEnd.{RuleEnd}
use Rattle.class_scopes.specs.declared.end.RuleEnd.TheVariants.{Broken, NoMemory}
use Rattle.class_scopes.specs.Faults.{IsFirstOf, IsKept}
use Rattle.class_scopes.specs.Reached.{HasPart, IsReached}
use Rattle.class_order.specs.N4 as N4

module _ (text : List ℕ) (classes : List ClassDef) (chosen : ℕ) where
  -- the classes that are reached from the chosen one, and before each the classes of its components
  pub record ArePartsFirst (order : List ℕ) : Type 0 where
    pub every : (class : ℕ) → IsReached text classes chosen class → (i : ℕ) × (slice_get order i ≡ Some class)
    pub only : (i class : ℕ) → slice_get order i ≡ Some class → IsReached text classes chosen class
    pub before : (i class part : ℕ) → slice_get order i ≡ Some class → HasPart text classes class part
        → (j : ℕ) × (j < i) × (slice_get order j ≡ Some part)

  -- such an order where N4 is kept, and else its first place
  abbrev pub Orders : Result (Vec ℕ Global) RuleEnd → Type 0
  Orders (Ok order) = IsKept (N4.Breaks text classes (Some chosen)) × ArePartsFirst order.items
  Orders (Err (Broken code.N4 at)) = IsFirstOf (N4.Breaks text classes (Some chosen)) at
  Orders (Err (Broken other at)) = ⊥
  Orders (Err NoMemory) = ⊤
