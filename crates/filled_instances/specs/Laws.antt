-- That nothing is lost where instances without anything in them are left out.
use Rattle.std.specs.Prelude.{◌≡◌, ℕ, List, [], Bool, filter}
use Rattle.mo_parser.specs.declared.tree.ClassDef.{ClassDef}
use Rattle.class_scopes.specs.Spelled.{Ident}
use Rattle.class_order.specs.Content.{IsFilled}
use Rattle.flat_instances.specs.Instances.{Step, items}
use Rattle.filled_instances.specs.Counting.{counts}

-- an instance of a class that has nothing in it has no item that counts
abbrev pub NothingCountsLaw : Type 0
NothingCountsLaw = (text : List ℕ) (classes : List ClassDef) (own : List Bool) (class : ℕ) → (IsFilled text classes own class → ⊥)
    → (levels : ℕ) (scope : Ident) (path : List Step) → filter (counts own) (items text classes levels scope path class) ≡ []
