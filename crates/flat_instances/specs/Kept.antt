-- The items of instances as they are kept: a given expression with the length of its scope, which is the front of the variable's own name.
use Rattle.std.specs.Prelude.{ℕ, List, take, option_map}
use Rattle.std.specs.Option.{option_or}
use Rattle.mo_parser.specs.declared.tree.ClassDef.{ClassDef}
use Rattle.flat_instances.specs.declared.item.Given.{Given}
use Rattle.flat_instances.specs.declared.item.Variable.{Variable as KeptVariable}
use Rattle.flat_instances.specs.declared.item.Item.{Item as KeptItem}
use Rattle.flat_instances.specs.declared.item.Item.TheVariants as kept
use Rattle.class_scopes.specs.Spelled.{Ident}
use Rattle.flat_instances.specs.Instances.{Placed, Variable, Item, Declared, Own, short_start}

-- an expression that is given to a variable of a name
abbrev pub placed_in : Ident → Given → Placed
placed_in name given = record { scope = take given.scope name; expr = given.expr.now }

module _ (text : List ℕ) (classes : List ClassDef) where
  -- the variable that is kept; the start of a short connector comes after what is given
  abbrev pub seen_variable : KeptVariable → Variable
  seen_variable v = record {
    name = v.name;
    element = v.element.now;
    type = v.type_name;
    binding = option_map (placed_in v.name) v.binding;
    start = option_or (option_map (placed_in v.name) v.start) (short_start text classes v.type_name);
  }

  -- the item that is kept
  abbrev pub seen : KeptItem → Item
  seen (kept.Declared v) = Declared (seen_variable v)
  seen (kept.Own scope class) = Own scope class
