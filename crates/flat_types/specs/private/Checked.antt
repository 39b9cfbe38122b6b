-- Equations behind the clocks of their clauses, one after the other.
use Rattle.std.specs.Prelude.{◌≡◌, ℕ, ◌<◌, List, map, Option, Some, None, Result, Ok, Err, slice_get}
use Rattle.std.specs.Option.{option_and_then}
use Rattle.flat_model.specs.declared.clock.ClockExpr.{ClockExpr}
use Rattle.flat_model.specs.declared.model.FlatName.{FlatName}
use Rattle.flat_model.specs.declared.raw.RawEq.{RawEq}
use Rattle.flat_model.specs.declared.equation.Equation.{Equation}
use Rattle.flat_types.specs.declared.ends.TypeCode.{TypeCode}
use Rattle.flat_types.specs.declared.ends.TypeEnd.{TypeEnd}
use Rattle.flat_types.specs.declared.ends.TypeEnd.TheVariants.{Fault, NoMemory}
use Rattle.flat_types.specs.Typed.{code_of, equation_of}

abbrev pub Clocks : Type 0
Clocks = List (Result ClockExpr TypeCode)

-- the rule that the clock of a clause breaks
abbrev pub clause_code : Clocks → Option ℕ → Option TypeCode
clause_code clocks clause = option_and_then code_of (option_and_then (slice_get clocks) clause)

-- an equation, where the clock of its clause breaks no rule
abbrev pub behind_clause : Option TypeCode → Result Equation TypeCode → Result Equation TypeCode
behind_clause (Some code) equation = Err code
behind_clause None equation = equation

abbrev pub checked : List FlatName → Clocks → RawEq → Result Equation TypeCode
checked names clocks raw = behind_clause (clause_code clocks raw.clause) (equation_of names raw)

-- all equations, or the first that breaks a rule
abbrev pub AreChecked : List FlatName → Clocks → List RawEq → Result (List Equation) TypeEnd → Type 0
AreChecked names clocks equations (Ok found) = map (checked names clocks) equations ≡ map (λ equation. Ok equation) found
AreChecked names clocks equations (Err (Fault code i)) =
    ((equation : RawEq) × (slice_get equations i ≡ Some equation) × (checked names clocks equation ≡ Err code))
    × ((j : ℕ) (equation : RawEq) (other : TypeCode) → j < i → slice_get equations j ≡ Some equation → checked names clocks equation ≡ Err other → ⊥)
AreChecked names clocks equations (Err NoMemory) = Unit {0}

-- no clock breaks a rule
abbrev pub AreClocks : Clocks → Type 0
AreClocks clocks = (k : ℕ) (code : TypeCode) → slice_get clocks k ≡ Some (Err code) → ⊥
