-- The places of the names of classes.
use Rattle.std.specs.Prelude.{ℕ, List, slice_get, Option, Some, None}
use Rattle.mo_parser.specs.declared.tree.ClassDef.{ClassDef}

abbrev pub at_name : Option ClassDef → ℕ
at_name (Some class) = class.name.at
at_name None = 0

-- where the name of a class stands, by the number of the class in the file; 0 for a number that no class has
abbrev pub name_at : List ClassDef → ℕ → ℕ
name_at classes class = at_name (slice_get classes class)
