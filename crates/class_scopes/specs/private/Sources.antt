-- A text and the classes of its tree.
use Rattle.std.specs.Prelude.{◌≡◌, ℕ, List}
use Rattle.mo_parser.specs.declared.tree.ClassDef.{ClassDef}
use Rattle.class_scopes.specs.Spelled.{Ident}
use Rattle.class_scopes.specs.Types.{class_named}
use Rattle.class_scopes.specs.Tables.{Numbered, number_of}

-- a table has the number of each class by its name
abbrev pub Numbers : List ℕ → List ClassDef → Numbered → Type 0
Numbers text classes table = (name : Ident) → number_of table name ≡ class_named text classes name
