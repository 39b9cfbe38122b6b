-- Tables of the components of classes.
use Rattle.std.specs.Prelude.{◌≡◌, ℕ, List, length, slice_get, Some}
use Rattle.mo_parser.specs.declared.tree.ClassDef.{ClassDef}
use Rattle.class_scopes.specs.Tables.{Numbered, IsTableOf}
use Rattle.class_scopes.specs.Types.{element_names}

-- the first classes have a table each
pub record AreTabled (text : List ℕ) (classes : List ClassDef) (count : ℕ) (tables : List Numbered) : Type 0 where
  pub size : length tables ≡ count
  pub each : (class : ℕ) (table : Numbered) → slice_get tables class ≡ Some table → IsTableOf (element_names text classes class) table
