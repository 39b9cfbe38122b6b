-- Items that have a part in a model: variables, and the equations of classes that give something.
use Rattle.std.specs.Prelude.{ℕ, List, Bool, true}
use Rattle.mo_parser.specs.declared.tree.ClassDef.{ClassDef}
use Rattle.flat_instances.specs.Instances.{Item, Declared, Own}
use Rattle.class_sizes.specs.Owners.{has_own}

abbrev pub contributes : List ℕ → List ClassDef → Item → Bool
contributes text classes (Declared v) = true
contributes text classes (Own scope class) = has_own text classes class
