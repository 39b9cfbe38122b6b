-- The texts of a flat model and of its clocks, a line for each name and for each equation. This project's own.
use Rattle.std.specs.Prelude.{ℕ, ◌+◌, Bool, true, false, List, [], ◌∷◌, ◌++◌, Option, Some, None, codes, decimal, slice_get}
use Rattle.rational_time.specs.Fraction.{instant_text}
use Rattle.sync_values.specs.declared.value.Value.{Value}
use Rattle.flat_model.specs.declared.clock.Clock.{Clock}
use Rattle.flat_model.specs.declared.clock.Clock.TheVariants.{Periodic, Event}
use Rattle.flat_model.specs.declared.clock.ClockExpr.{ClockExpr}
use Rattle.flat_model.specs.declared.clock.Clocking.{Clocking}
use Rattle.flat_model.specs.declared.equation.Equation.{Equation}
use Rattle.flat_model.specs.declared.equation.Equation.TheVariants.{Valued, Clocks}
use Rattle.flat_model.specs.declared.model.FlatModel.{FlatModel}
use Rattle.flat_model.specs.declared.model.FlatName.{FlatName}
use Rattle.flat_model.specs.declared.model.NameKind.{NameKind}
use Rattle.flat_model.specs.declared.model.NameKind.TheVariants as kind
use Rattle.flat_model.specs.Trace.{value_text}
use Rattle.trace_print.specs.Printed.{expr_text, clock_text}

abbrev pub input_text : Bool → List ℕ
input_text false = []
input_text true = codes " input"

abbrev pub start_text : Value → Bool → List ℕ
start_text start input = value_text start ++ input_text input

-- the type of a name, with its start and whether it is an input; a Clock has neither
abbrev pub kind_text : NameKind → Value → Bool → List ℕ
kind_text kind.Integer start input = codes "Integer " ++ start_text start input
kind_text kind.Boolean start input = codes "Boolean " ++ start_text start input
kind_text kind.Clock start input = codes "Clock"

abbrev pub name_line : FlatName → List ℕ
name_line name = codes "var " ++ name.text ++ codes " " ++ kind_text name.kind name.start name.input ++ codes "\n"

abbrev pub name_lines : List FlatName → List ℕ
name_lines [] = []
name_lines (name ∷ names) = name_line name ++ name_lines names

-- the clock of the clause in which an equation stands
abbrev pub clause_text : List FlatName → Option ClockExpr → List ℕ
clause_text names None = []
clause_text names (Some clock) = clock_text names clock

abbrev pub when_text : FlatModel → Option ℕ → List ℕ
when_text model None = []
when_text model (Some clause) = codes " when " ++ clause_text model.names (slice_get model.clauses clause)

abbrev pub equation_text : FlatModel → Equation → List ℕ
equation_text model (Valued left right clause) = when_text model clause ++ codes ": " ++ expr_text model.names left ++ codes " = " ++ expr_text model.names right
equation_text model (Clocks left right clause) = when_text model clause ++ codes ": " ++ clock_text model.names left ++ codes " = " ++ clock_text model.names right

abbrev pub equation_line : FlatModel → ℕ → Equation → List ℕ
equation_line model n equation = codes "eq " ++ decimal n ++ equation_text model equation ++ codes "\n"

-- the equations, the first of which has this number
abbrev pub equation_lines : FlatModel → ℕ → List Equation → List ℕ
equation_lines model n [] = []
equation_lines model n (equation ∷ equations) = equation_line model n equation ++ equation_lines model (n + 1) equations

-- the text of mode `flat`; equations are printed from 1
abbrev pub flat_text : FlatModel → List ℕ
flat_text model = name_lines model.names ++ equation_lines model 1 model.equations

-- the clock of a name, if it has one
abbrev pub clock_in : Clocking → Option (Option ℕ) → Option Clock
clock_in clocking (Some (Some class)) = slice_get clocking.clocks class
clock_in clocking _ = None

-- when a name has its values; sites are printed from 1
abbrev pub ticks_text : Option Clock → List ℕ
ticks_text None = codes " unclocked"
ticks_text (Some (Periodic period start)) = codes " every " ++ instant_text period ++ codes " from " ++ instant_text start
ticks_text (Some (Event site factor shift)) = codes " event " ++ decimal (site + 1) ++ codes " factor " ++ decimal factor ++ codes " shift " ++ decimal shift

abbrev pub clock_line : List ℕ → Option Clock → List ℕ
clock_line text clock = text ++ ticks_text clock ++ codes "\n"

-- the names, the first of which has number x
abbrev pub clock_lines : Clocking → ℕ → List FlatName → List ℕ
clock_lines clocking x [] = []
clock_lines clocking x (name ∷ names) = clock_line name.text (clock_in clocking (slice_get clocking.of_name x)) ++ clock_lines clocking (x + 1) names

-- the text of mode `clocks`
abbrev pub clocks_text : FlatModel → Clocking → List ℕ
clocks_text model clocking = clock_lines clocking 0 model.names
