-- The first broken rule of the values of a model.
use Rattle.std.specs.Prelude.{◌≡◌, ℕ, List, map, Option, Some, None}
use Rattle.mo_order.specs.Values.{Slots}
use Rattle.mo_parser.specs.declared.tree.ClassDef.{ClassDef}
use Rattle.class_scopes.specs.Faults.{IsFirstOf, IsKept}
use Rattle.class_scopes.specs.Tables.{Numbered}
use Rattle.flat_instances.specs.Instances.{Variable}
use Rattle.parameter_values.specs.Values.{AreValues}
use Rattle.parameter_values.specs.Slots.{seen, parameters, IsTableOfParameters}
use Rattle.parameter_values.specs.Givens.{Valued, valued_of}
use Rattle.value_rules.specs.declared.faults.ValueFault.{ValueFault}
use Rattle.value_rules.specs.declared.faults.ValueFault.TheVariants.{Waiting, Failing}
use Rattle.value_rules.specs.N6 as N6
use Rattle.value_rules.specs.N7 as N7
use Rattle.value_rules.specs.Needs.{Needs, needs_of}

module _ (text : List ℕ) (table : Numbered) (found : Slots) where
  -- N6 before N7, each at its first variable; else each value that is needed is there
  abbrev pub Answers : List ClassDef → List Variable → Option ValueFault → Type 0
  Answers classes all None = IsKept (N6.Breaks text classes all) × IsKept (N7.Breaks text classes all) × (N7.AreTyped text classes all → N7.HasAll text classes all (seen table found))
  Answers classes all (Some (Waiting x)) = IsFirstOf (N6.Breaks text classes all) x
  Answers classes all (Some (Failing x)) = IsKept (N6.Breaks text classes all) × IsFirstOf (N7.Breaks text classes all) x

-- the answer is right for a model with these parameters and variables, where the table has the numbers of its parameters and
-- the found values are theirs
abbrev pub IsFirstFault : List ℕ → Numbered → List Valued → Slots → List Needs → Option ValueFault → Type 0
IsFirstFault text table items found needs fault = (classes : List ClassDef) (all : List Variable) → IsTableOfParameters all table
    → items ≡ map (valued_of text classes) (parameters all) → needs ≡ map (needs_of text classes) all → AreValues text classes all (seen table found)
    → Answers text table found classes all fault

-- only one answer is right for a model
abbrev pub OneFaultLaw : Type 0
OneFaultLaw = (text : List ℕ) (table : Numbered) (found : Slots) (classes : List ClassDef) (all : List Variable) (a b : Option ValueFault)
    → Answers text table found classes all a → Answers text table found classes all b → a ≡ b
