-- The values of the inputs at a moment. This project's own.
use Rattle.std.specs.Prelude.{◌≡◌, ℕ, List, length, Option, Some}
use Rattle.sync_values.specs.declared.value.Value.{Value}
use Rattle.flat_model.specs.declared.clock.Moment.{Moment}
use Rattle.flat_model.specs.declared.model.FlatModel.{FlatModel}
use Rattle.flat_model.specs.declared.table.Table.{Table}
use Rattle.flat_model.specs.Values.{value_in}
use Rattle.flat_model.specs.Moments.{moment_at}
use Rattle.flat_model.specs.Setting.{Setting}
use Rattle.flat_model.specs.Tables.{IsTableOf}
use Rattle.moment_theory.specs.Taken.{AreInputs}

-- a table of some model with so many names
abbrev pub IsTableOfNames : ℕ → Table → Type 0
IsTableOfNames count table = (model : FlatModel) × IsTableOf model table × (length model.names ≡ count)

-- in each setting with this table, the values are those of the inputs at the moment, and no others
abbrev pub HoldInputs : Table → Moment → List (Option Value) → Type 0
HoldInputs table at now = (s : Setting) (n : ℕ) → s.table ≡ table → IsTableOf s.model table → moment_at s.instants n ≡ Some at → AreInputs s n (value_in now)
