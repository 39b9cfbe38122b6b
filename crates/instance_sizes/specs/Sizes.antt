-- What the walk over the instances of a model answers that may be too large.
use Rattle.std.specs.Prelude.{◌≡◌, ℕ, List, map, filter, Some, Result, Ok, Err, ⊤}
use Rattle.std.specs.Global.{Global}
use Rattle.std.specs.declared.vec.Vec.{Vec}
use Rattle.mo_lexer.specs.declared.token.Token.{Token}
use Rattle.mo_parser.specs.declared.tree.ClassDef.{ClassDef}
use Rattle.class_scopes.specs.declared.end.NameCode.TheVariants as code
use Rattle.class_scopes.specs.declared.end.RuleEnd.{RuleEnd}
use Rattle.class_scopes.specs.declared.end.RuleEnd.TheVariants.{Broken, NoMemory}
use Rattle.class_scopes.specs.Faults.{IsFirstOf, IsKept}
use Rattle.flat_instances.specs.declared.item.Item.{Item as KeptItem}
use Rattle.flat_instances.specs.Instances.{instances}
use Rattle.flat_instances.specs.Kept.{seen}
use Rattle.instance_sizes.specs.Contributing.{contributes}
use Rattle.instance_sizes.specs.N10 as N10

-- the items that have a part in the model, in flat order, where N10 is kept, and else its place
abbrev pub Sizes : List ℕ → List ClassDef → List Token → ℕ → Result (Vec KeptItem Global) RuleEnd → Type 0
Sizes text classes tokens chosen (Ok items) = IsKept (N10.Breaks text classes tokens (Some chosen))
    × (map (seen text classes) items.items ≡ filter (contributes text classes) (instances text classes chosen))
Sizes text classes tokens chosen (Err (Broken code.N10 at)) = IsFirstOf (N10.Breaks text classes tokens (Some chosen)) at
Sizes text classes tokens chosen (Err (Broken other at)) = ⊥
Sizes text classes tokens chosen (Err NoMemory) = ⊤
