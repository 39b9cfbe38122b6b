-- The parts of a clocking, from what is kept.
use Rattle.std.specs.Prelude.{◌≡◌, ℕ, ◌+◌, ◌<◌, List, [], ◌∷◌, ◌++◌, length, map, Option, Some, None, slice_get, slice_index_or, if◌then◌else◌}
use Rattle.flat_model.specs.declared.clock.Clock.{Clock}
use Rattle.flat_model.specs.declared.clock.Clock.TheVariants.{Periodic, Event}
use Rattle.flat_model.specs.declared.model.FlatName.{FlatName}
use Rattle.clock_terms.specs.declared.data.Cause.{Cause}
use Rattle.clock_terms.specs.declared.data.Grid.{Grid}
use Rattle.clock_terms.specs.declared.data.NodeOf.{NodeOf}
use Rattle.clock_terms.specs.declared.data.Constructor.{Constructor}
use Rattle.flat_model.specs.declared.clock.ClockExpr.{ClockExpr}
use Rattle.flat_model.specs.declared.clock.ClockExpr.TheVariants as clock
use Rattle.flat_model.specs.declared.expression.Expr.{Expr}
use Rattle.clock_terms.specs.Source.{Kind, AtSite, kind_of}

-- an input has no class
abbrev pub number_of_name : FlatName → Option ℕ → Option ℕ
number_of_name name number = if name.input then None else number

-- the first n names have their numbers
pub record AreNumbersOfNames (names : List FlatName) (class_of : List ℕ) (numbers : List (Option ℕ)) (n : ℕ) (list : List (Option ℕ)) : Type 0 where
  pub count : length list ≡ n
  pub each : (x : ℕ) (name : FlatName) → x < n → slice_get names x ≡ Some name
      → slice_get list x ≡ Some (number_of_name name (slice_index_or numbers (slice_index_or class_of x 0) None))

-- an equation itself has no cause
abbrev pub own_by : Option Cause → Option ℕ → List (Option ℕ)
own_by None number = number ∷ []
own_by (Some cause) number = []

abbrev pub own_number : NodeOf → Option ℕ → List (Option ℕ)
own_number node number = own_by node.cause number

-- the numbers of equations, in the order of nodes
abbrev pub node_numbers : List ℕ → List (Option ℕ) → ℕ → List NodeOf → List (Option ℕ)
node_numbers class_of numbers first [] = []
node_numbers class_of numbers first (node ∷ nodes) =
    own_number node (slice_index_or numbers (slice_index_or class_of first 0) None) ++ node_numbers class_of numbers (first + 1) nodes

-- the clock of a grid whose start is not below 0, and whose parts are whole on the risings of a site
abbrev pub clock_by : Option ℕ → Grid → Clock
clock_by None g = Periodic g.period g.start
clock_by (Some site) g = Event site g.period.num g.start.num

abbrev pub clock_of_grid : Grid → Clock
clock_of_grid g = clock_by g.site g

abbrev pub AreClocksOf : List Grid → List Clock → Type 0
AreClocksOf grids clocks = clocks ≡ map clock_of_grid grids

-- the condition of an event constructor, or none
abbrev pub adds_by : Kind → ClockExpr → List Expr → List Expr → Type 0
adds_by AtSite given old new = (condition : Expr) × (given ≡ clock.Event condition) × (new ≡ old ++ condition ∷ [])
adds_by _ given old new = new ≡ old

abbrev pub AddsSite : Constructor → List Expr → List Expr → Type 0
AddsSite constructor = adds_by (kind_of constructor.clock) constructor.clock
