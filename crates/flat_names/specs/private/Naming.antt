-- The names of items.
use Rattle.std.specs.Prelude.{ℕ, List, [], ◌∷◌, ◌++◌, Option, Some, if◌then◌else◌, not}
use Rattle.std.specs.List.{AllZip}
use Rattle.sync_values.specs.declared.value.Value.{Value}
use Rattle.mo_parser.specs.declared.tree.ClassDef.{ClassDef}
use Rattle.flat_model.specs.declared.model.FlatName.{FlatName}
use Rattle.flat_model.specs.declared.model.NameKind.{NameKind}
use Rattle.flat_instances.specs.declared.item.Item.{Item}
use Rattle.flat_instances.specs.declared.item.Item.TheVariants.{Declared, Own}
use Rattle.flat_instances.specs.Instances.{Variable}
use Rattle.flat_instances.specs.Kept.{seen_variable}
use Rattle.parameter_values.specs.Values.{Values, is_fixed, value_by}
use Rattle.flat_answer.specs.Flat.{start_of, IsNameOf}

module _ (text : List ℕ) (classes : List ClassDef) where
  -- the start of a variable of a type
  abbrev pub start_in : Values → NameKind → Variable → Option Value
  start_in values kind v = start_of kind (value_by text classes values (Some kind) v.start)

  -- the variable that an item is, if it is no parameter or constant
  abbrev pub plain_in : Item → List Variable
  plain_in (Declared v) = if not (is_fixed v.element.now.variability) then seen_variable text classes v ∷ [] else []
  plain_in (Own scope class) = []

  -- the name of an item is added behind those of other variables
  abbrev pub Adds : ℕ → Values → Item → List FlatName → List FlatName → Type 0
  Adds chosen values item old new = (before : List Variable) → AllZip (IsNameOf text classes (Some chosen) values) before old
      → AllZip (IsNameOf text classes (Some chosen) values) (before ++ plain_in item) new
