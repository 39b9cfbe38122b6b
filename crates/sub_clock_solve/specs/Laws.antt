-- Laws of clocks that are solved.
use Rattle.std.specs.Prelude.{◌≡◌, ℕ, List, Some, Result, Err, All}
use Rattle.clock_terms.specs.declared.data.Terms.{Terms}
use Rattle.clock_terms.specs.declared.data.Classes.{Classes}
use Rattle.clock_terms.specs.declared.data.Grid.{Grid}
use Rattle.clock_terms.specs.Position.{Progression, IsProper, AreSame}
use Rattle.clock_terms.specs.Clocking.{Said, Held, IsClocking}
use Rattle.clock_spread.specs.Rounds.{Gets, AreGotten}
use Rattle.sub_clock_solve.specs.declared.kinds.SolveEnd.{SolveEnd}
use Rattle.sub_clock_solve.specs.declared.kinds.SolveEnd.TheVariants.{NoMemory}
use Rattle.sub_clock_solve.specs.Solving.{FailsAt, HasNoClocking, Solves}
use Rattle.sub_clock_solve.specs.Standing.{FitTogether}

-- the constructors of a model have denominators above 0
abbrev pub HasProperSources : Said → Type 0
HasProperSources said = All (λ source. IsProper source.clock) said.sources

-- each class that gets a clock in a round has just that clock in every clocking
abbrev pub OneClockingLaw : Type 0
OneClockingLaw = (said : Said) (held : Held) → HasProperSources said → IsClocking said held
    → (c : ℕ) (clock : Progression) → Gets said c clock → (own : Progression) × (held c ≡ Some own) × AreSame own clock

-- what does not hold on the clocks of the rounds holds in no clocking
abbrev pub ConflictLaw : Type 0
ConflictLaw = (said : Said) (held : Held) (e : ℕ) → HasProperSources said → AreGotten said held → FailsAt said held e → HasNoClocking said

-- two answers are one, but for want of memory
abbrev pub IsNoMemory : Result (List Grid) SolveEnd → Type 0
IsNoMemory (Err NoMemory) = Unit {0}
IsNoMemory _ = ⊥

abbrev pub OneAnswerLaw : Type 0
OneAnswerLaw = (terms : Terms) (classes : Classes) → FitTogether terms classes → (one other : Result (List Grid) SolveEnd) → Solves terms classes one → Solves terms classes other
    → (IsNoMemory one → ⊥) → (IsNoMemory other → ⊥) → one ≡ other
