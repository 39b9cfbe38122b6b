-- The cells of what an equation of a class reads, by their keys.
use Rattle.std.specs.Prelude.{ℕ, zero, suc, Bool, true, false, List, length, Option, Some, None, unwrap_or}
use Rattle.sync_values.specs.Relation.{rank}
use Rattle.flat_model.specs.declared.model.FlatName.{FlatName}
use Rattle.flat_model.specs.declared.model.NameKind.{NameKind}
use Rattle.flat_model.specs.declared.model.NameKind.TheVariants as kind
use Rattle.flat_model.specs.Typing.{types_in}
use Rattle.cell_keys.specs.declared.key.CellKey.{CellKey}
use Rattle.cell_keys.specs.declared.key.CellKey.TheVariants as key
use Rattle.cell_keys.specs.Cells.{cell_of}
use Rattle.step_code.specs.Code.{Cells}

-- a name is a Boolean
abbrev pub is_boolean : Option NameKind → Bool
is_boolean (Some kind.Boolean) = true
is_boolean _ = false

-- of the moment before there are values and last values alone, and of earlier ones nothing but constants
abbrev pub keyed_cells : List CellKey → List FlatName → ℕ → Cells
keyed_cells keys names class zero = record {
  now = λ x. cell_of keys (key.Value x);
  previous = λ x. cell_of keys (key.Previous x);
  last = λ x. cell_of keys (key.Value x);
  const = λ v. cell_of keys (key.Constant (rank v));
  truth = λ x. is_boolean (types_in names x);
  first = cell_of keys (key.First class);
  interval = λ k. cell_of keys (key.Interval class k);
  unfit = λ k. unwrap_or (cell_of keys (key.Unfit class k)) (length keys);
}
keyed_cells keys names class (suc zero) = record {
  now = λ x. cell_of keys (key.Left x);
  previous = λ x. None;
  last = λ x. cell_of keys (key.LeftLast x);
  const = λ v. cell_of keys (key.Constant (rank v));
  truth = λ x. is_boolean (types_in names x);
  first = None;
  interval = λ k. None;
  unfit = λ k. length keys;
}
keyed_cells keys names class (suc (suc back)) = record {
  now = λ x. None;
  previous = λ x. None;
  last = λ x. None;
  const = λ v. cell_of keys (key.Constant (rank v));
  truth = λ x. is_boolean (types_in names x);
  first = None;
  interval = λ k. None;
  unfit = λ k. length keys;
}
