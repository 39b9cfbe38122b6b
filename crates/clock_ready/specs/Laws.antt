-- Laws of the clocks of a model.
use Rattle.std.specs.Prelude.{◌≡◌, ◌⊎◌, ℕ, ◌<◌, List, Some, slice_get, Result, Err, All}
use Rattle.rational_time.specs.declared.ratio.Ratio.{Ratio}
use Rattle.flat_model.specs.declared.clock.Clocking.{Clocking}
use Rattle.flat_model.specs.declared.equation.Equation.{Equation}
use Rattle.flat_model.specs.declared.equation.Equation.TheVariants.{Valued, Clocks}
use Rattle.flat_model.specs.declared.expression.Expr.{Expr}
use Rattle.flat_model.specs.declared.model.FlatModel.{FlatModel}
use Rattle.flat_model.specs.declared.table.Table.{Table}
use Rattle.flat_model.specs.Models.{IsModel}
use Rattle.flat_model.specs.Occurrences.{uncut_count}
use Rattle.flat_model.specs.Setting.{Setting, class_of_name, class_of_equation}
use Rattle.clock_terms.specs.declared.data.Terms.{Terms}
use Rattle.clock_terms.specs.declared.data.Classes.{Classes}
use Rattle.clock_terms.specs.declared.data.Grid.{Grid}
use Rattle.clock_terms.specs.Asked.{IsGiven}
use Rattle.clock_terms.specs.Classing.{HasMark, AreClassesOf, class_in}
use Rattle.clock_terms.specs.Said.{IsMarkedClocked, IsMarkedUnclocked, AreTermsOf}
use Rattle.sub_clock_solve.specs.Solving.{IsSolution}
use Rattle.sub_clock_solve.specs.Standing.{FitTogether}
use Rattle.clock_check.specs.Checking.{Checks}
use Rattle.clock_check.specs.ClockingOf.{IsClockingOf}
use Rattle.clock_check.specs.Inferring.{IsInferred}
use Rattle.clock_check.specs.declared.kinds.CheckEnd.{CheckEnd}
use Rattle.clock_check.specs.declared.kinds.CheckEnd.TheVariants.{NoMemory}

-- each relation has a factor that is given or to be inferred
abbrev pub HaveKnownFactors : Terms → Type 0
HaveKnownFactors terms = All (λ relation. IsGiven relation.by ⊎ IsInferred relation.by) terms.relations

-- terms and classes of a model fit together
abbrev pub FitLaw : Type 0
FitLaw = (model : FlatModel) (terms : Terms) (classes : Classes) → IsModel model → AreTermsOf model terms → AreClassesOf model classes
    → FitTogether terms classes × HaveKnownFactors terms

-- the answer is want of memory
abbrev pub IsNoMemory : Result Clocking CheckEnd → Type 0
IsNoMemory (Err NoMemory) = Unit {0}
IsNoMemory _ = ⊥

-- two answers are one, but for want of memory
abbrev pub CheckOnceLaw : Type 0
CheckOnceLaw = (model : FlatModel) (terms : Terms) (classes : Classes) (grids : List Grid) → AreTermsOf model terms → AreClassesOf model classes → FitTogether terms classes
    → IsSolution terms classes grids → (one other : Result Clocking CheckEnd) → Checks model terms classes grids one → Checks model terms classes grids other
    → (IsNoMemory one → ⊥) → (IsNoMemory other → ⊥) → one ≡ other

-- no class has both marks
abbrev pub NoneHasBothMarks : FlatModel → Classes → Type 0
NoneHasBothMarks model classes = (c : ℕ) → HasMark model (IsMarkedClocked model) (class_in classes) c → HasMark model (IsMarkedUnclocked model) (class_in classes) c → ⊥

-- what stands uncut in a side of equation i has the class of the equation
abbrev pub IsSideOwn : Setting → ℕ → Expr → Type 0
IsSideOwn s i e = (y : ℕ) → 0 < uncut_count y e → class_of_name s y ≡ class_of_equation s i

abbrev pub IsEquationOwn : Setting → ℕ → Equation → Type 0
IsEquationOwn s i (Valued left right clause) = IsSideOwn s i left × IsSideOwn s i right
IsEquationOwn s i (Clocks left right clause) = Unit {0}

-- so it is in each equation of a model with a clocking
abbrev pub OwnLaw : Type 0
OwnLaw = (model : FlatModel) (terms : Terms) (classes : Classes) (clocking : Clocking) (table : Table) (instants : List Ratio)
    → IsModel model → AreClassesOf model classes → NoneHasBothMarks model classes → IsClockingOf model terms classes clocking
    → (i : ℕ) (equation : Equation) → slice_get model.equations i ≡ Some equation
    → IsEquationOwn (record { model = model; clocking = clocking; table = table; instants = instants }) i equation
