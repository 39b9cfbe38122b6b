-- The units of work of a moment, and what they ask for of each other. This project's own.
use Rattle.std.specs.Prelude.{◌≡◌, ℕ, ◌+◌, ◌<◌, nat_lt, ◌⊎◌, Bool, true, false, List, length, take, count_by, Option, Some, None, slice_get, if◌then◌else◌}
use Rattle.flat_model.specs.declared.equation.Equation.{Equation}
use Rattle.flat_model.specs.declared.equation.Equation.TheVariants.{Valued, Clocks}
use Rattle.flat_model.specs.declared.expression.Expr.{Expr}
use Rattle.flat_model.specs.declared.model.FlatModel.{FlatModel}
use Rattle.flat_model.specs.Asks.{AsksFor, OfNow, OfLast, OfPrevious}
use Rattle.flat_model.specs.Uses.{Use}
use Rattle.moment_order.specs.declared.stage.Stage.{Stage}
use Rattle.moment_order.specs.declared.stage.Stage.TheVariants.{Pure, Partition, Waiting}

abbrev pub is_waiting : Stage → Bool
is_waiting Waiting = true
is_waiting Pure = false
is_waiting (Partition k) = false

-- how many uses wait for a clock before this one
abbrev pub waiting_before : List Stage → ℕ → ℕ
waiting_before stages i = count_by is_waiting (take i stages)

-- the unit of a use by its stage: base partition k, of so many, is unit k; one that waits for a clock is a unit of its own; a pure use is of none
abbrev pub unit_in : ℕ → ℕ → Option Stage → Option ℕ
unit_in count own None = None
unit_in count own (Some Pure) = None
unit_in count own (Some (Partition k)) = if nat_lt k count then Some k else None
unit_in count own (Some Waiting) = Some own

-- the unit of use i: those that wait are numbered behind the base partitions
abbrev pub unit_of : ℕ → List Stage → ℕ → Option ℕ
unit_of count stages i = unit_in count (count + waiting_before stages i) (slice_get stages i)

-- how many units there are
abbrev pub unit_count : ℕ → List Stage → ℕ
unit_count count stages = count + count_by is_waiting stages

-- an expression asks for a name, at the moment or before it: for its value, its last value, or that at the tick before
abbrev pub Names : Expr → ℕ → Type 0
Names e x = (back : ℕ) × (AsksFor e back (OfNow x) ⊎ AsksFor e back (OfLast x) ⊎ AsksFor e back (OfPrevious x))

abbrev pub EquationNames : Equation → ℕ → Type 0
EquationNames (Valued left right clause) x = Names left x ⊎ Names right x
EquationNames (Clocks left right clause) x = ⊥

-- each use reaches a name of the model, and no two the same
pub record AreDistinct (model : FlatModel) (uses : List Use) : Type 0 where
  pub named : (i : ℕ) (entry : Use) → slice_get uses i ≡ Some entry → entry.name < length model.names
  pub once : (i j : ℕ) (one other : Use) → slice_get uses i ≡ Some one → slice_get uses j ≡ Some other → one.name ≡ other.name → i ≡ j

-- a use of unit a asks for a name that a use of unit b reaches
pub record Needs (equations : List Equation) (count : ℕ) (stages : List Stage) (uses : List Use) (a b : ℕ) : Type 0 where
  pub i : ℕ
  pub j : ℕ
  pub entry : Use
  pub other : Use
  pub equation : Equation
  pub entry_at : slice_get uses i ≡ Some entry
  pub entry_of : unit_of count stages i ≡ Some a
  pub other_at : slice_get uses j ≡ Some other
  pub other_of : unit_of count stages j ≡ Some b
  pub found : slice_get equations entry.equation ≡ Some equation
  pub names : EquationNames equation other.name
