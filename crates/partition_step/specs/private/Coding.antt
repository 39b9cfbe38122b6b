-- Uses that are taken by their code, or else by their trees.
use Rattle.std.specs.Prelude.{ℕ, List, Option, Some, None, IfSome}
use Rattle.flat_model.specs.Assignment.{Assignment}
use Rattle.flat_model.specs.Given.{Row}
use Rattle.flat_model.specs.Setting.{Setting}
use Rattle.flat_model.specs.Uses.{Use}
use Rattle.first_failure.specs.declared.least.EquationFailing.{EquationFailing}
use Rattle.tree_step.specs.declared.cell.Cell.{Cell}
use Rattle.tree_step.specs.declared.taking.Entry.{Entry}
use Rattle.tree_step.specs.Starts.{Sight}
use Rattle.tree_step.specs.Takes.{HasTaken}
use Rattle.part_code.specs.declared.coded.Coded.{Coded}
use Rattle.part_code.specs.Coded.{IsCodeOf}
use Rattle.coded_step.specs.Taking.{IsCodeStart, IsSameCode}

-- the uses of a base partition are taken, whatever the code is that of
abbrev pub TakesAny : Sight → List Entry → List Cell → List Cell → Option Coded → Option EquationFailing → Type 0
TakesAny sight entries old new code result = (s : Setting) (uses before after : List Use) (partition : ℕ) (S : Assignment) (m : ℕ) (base : Row) → IsCodeStart s uses before after partition S m base sight entries old
    → IfSome code (IsCodeOf sight.equations s.model.names entries) → HasTaken s uses S m base sight entries old new result

-- the code is the same but for its words
abbrev pub IsSameOption : Option Coded → Option Coded → Type 0
IsSameOption None None = Unit {0}
IsSameOption (Some old) (Some new) = IsSameCode old new
IsSameOption _ _ = ⊥
