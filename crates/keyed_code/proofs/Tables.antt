-- Tables seen from one moment further back, and their constants.
use Rattle.std.proofs.Common.{◌≡◌, refl, ap, sym, ◌∙◌, ℕ, suc, ◌+◌, List, arith}
use Rattle.std.proofs.Math.Path.{fun_ext}
use Rattle.sync_values.specs.Relation.{rank}
use Rattle.sync_values.specs.declared.value.Value.{Value}
use Rattle.flat_model.specs.declared.model.FlatName.{FlatName}
use Rattle.cell_keys.specs.declared.key.CellKey.{CellKey}
use Rattle.cell_keys.specs.declared.key.CellKey.TheVariants as key
use Rattle.cell_keys.specs.declared.sight.Sight.{Sight}
use Rattle.cell_keys.specs.declared.sight.Sight.TheVariants.{Now, Left, Far}
use Rattle.cell_keys.specs.Cells.{cell_of}
use Rattle.step_code.specs.Code.{CellsOf, Cells, cells_before}
use Rattle.part_layout.specs.Keyed.{keyed_cells}
use Rattle.part_layout.specs.Reads.{before}
use Rattle.keyed_code.specs.Table.{cells_from}

module _ (keys : List CellKey) (names : List FlatName) (clock : ℕ) where
  abbrev at : Cells
  at = keyed_cells keys names clock

  pub before_is : (sight : Sight) → cells_from (before sight) at ≡ cells_before (cells_from sight at)
  before_is Now = refl
  before_is Left = refl
  before_is Far = fun_ext far
    where
      far : (back : ℕ) → cells_before (cells_before at) back ≡ cells_before (cells_before (cells_before at)) back
      far back =
          let two : back + 1 + 1 ≡ suc (suc back) = omega arith in
          let three : back + 1 + 1 + 1 ≡ suc (suc (suc back)) = omega arith in
          ap at two ∙ sym (ap at three)

  pub const_is : (sight : Sight) (v : Value) → (cells_from sight at 0).const v ≡ cell_of keys (key.Constant (rank v))
  const_is Now v = refl
  const_is Left v = refl
  const_is Far v = refl
