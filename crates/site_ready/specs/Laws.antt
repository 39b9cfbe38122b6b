-- Names on which the conditions of sites rest.
use Rattle.std.specs.Prelude.{◌≡◌, ℕ, Bool, true, false, List, Some, ◌↔◌}
use Rattle.rational_time.specs.declared.ratio.Ratio.{Ratio}
use Rattle.flat_model.specs.declared.clock.Clocking.{Clocking}
use Rattle.flat_model.specs.declared.model.FlatModel.{FlatModel}
use Rattle.flat_model.specs.declared.model.FlatName.{FlatName}
use Rattle.flat_model.specs.declared.table.Table.{Table}
use Rattle.flat_model.specs.Models.{IsModel}
use Rattle.moment_theory.specs.Division.{AreUnheld}
use Rattle.clock_terms.specs.declared.data.Cause.TheVariants.{Condition}
use Rattle.clock_terms.specs.declared.data.Classes.{Classes}
use Rattle.clock_terms.specs.Classing.{class_in}
use Rattle.clock_terms.specs.Nodes.{Node}
use Rattle.clock_terms.specs.Said.{IsNode, IsNamed, numbered}
use Rattle.clock_sides.specs.Laws.{IsAnswered}
use Rattle.run_stages.specs.Laws.{RestOnGroup}

-- a name that is no input, in the class of an event condition
pub record IsUnderCondition (model : FlatModel) (classes : Classes) (y : ℕ) : Type 0 where
  pub name : FlatName
  pub is_named : IsNamed model y name
  pub own : name.input ≡ false
  pub number : ℕ
  pub node : Node
  pub is_node : IsNode model number node
  pub cause : node.cause ≡ Some Condition
  pub class : class_in classes y ≡ class_in classes (numbered model number)

-- the group of these names
abbrev pub IsGroupOf : FlatModel → Classes → (ℕ → Bool) → Type 0
IsGroupOf model classes group = (y : ℕ) → (group y ≡ true) ↔ IsUnderCondition model classes y

-- there is this group, and no clock decides of it
abbrev pub UnheldLaw : Type 0
UnheldLaw = (model : FlatModel) (clocking : Clocking) (table : Table) (instants : List Ratio) → IsModel model → (answered : IsAnswered model clocking)
    → ((group : ℕ → Bool) × IsGroupOf model answered.classes group)
    × ((group : ℕ → Bool) → IsGroupOf model answered.classes group → AreUnheld (record { model = model; clocking = clocking; table = table; instants = instants }) group)

-- and what the condition of any site reads is an input, or a name of this group that has values
abbrev pub RestsLaw : Type 0
RestsLaw = (model : FlatModel) (clocking : Clocking) (table : Table) (instants : List Ratio) → IsModel model → (answered : IsAnswered model clocking)
    → (group : ℕ → Bool) → IsGroupOf model answered.classes group → RestOnGroup (record { model = model; clocking = clocking; table = table; instants = instants }) group
