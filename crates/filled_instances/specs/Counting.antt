-- Items of instances that count: variables, and the equations of classes that have some of their own.
use Rattle.std.specs.Prelude.{List, Bool, true}
use Rattle.mo_order.specs.Marks.{is_marked}
use Rattle.flat_instances.specs.Instances.{Item, Declared, Own}

-- over the marks of the classes that have something of their own
abbrev pub counts : List Bool → Item → Bool
counts own (Declared v) = true
counts own (Own scope class) = is_marked own class
