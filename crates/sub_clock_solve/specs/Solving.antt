-- What is answered for the terms of a model: the clocks of the rounds, or the first rule of them that is broken. This project's own.
use Rattle.std.specs.Prelude.{◌≡◌, ℕ, zero, suc, ◌^◌, ◌⊎◌, true, false, List, length, take, Some, None, Result, Ok, Err, slice_get, slice_index_or, count_by, ⊤}
use Rattle.rational_time.specs.Multiple.{HasMultipleBelow}
use Rattle.clock_terms.specs.declared.data.Terms.{Terms}
use Rattle.clock_terms.specs.declared.data.Classes.{Classes}
use Rattle.clock_terms.specs.declared.data.Grid.{Grid}
use Rattle.clock_terms.specs.Position.{Progression, AreSame, progression_of_grid, IsTooFine, IsFine}
use Rattle.clock_terms.specs.Asked.{IsGiven}
use Rattle.clock_terms.specs.Source.{sources_of}
use Rattle.clock_terms.specs.Clocking.{Said, Held, SourceHolds, RelationHolds, IsClocking}
use Rattle.clock_spread.specs.Rounds.{after_round, Gets, AreGotten}
use Rattle.clock_terms.specs.Least.{IsLeast}
use Rattle.clock_spread.specs.Least.{IsNumberIn}
use Rattle.sub_clock_solve.specs.declared.kinds.SolveEnd.{SolveEnd}
use Rattle.sub_clock_solve.specs.declared.kinds.SolveEnd.TheVariants.{Unknown, TooFine, Conflict, NoMemory}
use Rattle.sub_clock_solve.specs.Grain.{denominators, IsGrainPast}

-- what the terms of a model say of its classes
abbrev pub said_of : Terms → Classes → Said
said_of terms classes = record {
  class_of = λ x. slice_index_or classes.class_of x 0;
  clocked = λ c. slice_index_or classes.clocked c false;
  sources = sources_of terms.constructors;
  relations = terms.relations;
}

-- the class is clocked and gets no clock in any round
abbrev pub GetsNone : Said → ℕ → Type 0
GetsNone said c = (said.clocked c ≡ true) × ((clock : Progression) → Gets said c clock → ⊥)

-- the class takes this clock in this round
abbrev pub Takes : Said → ℕ → ℕ → Progression → Type 0
Takes said zero c clock = after_round said zero c ≡ Some clock
Takes said (suc round) c clock = (after_round said round c ≡ None) × (after_round said (suc round) c ≡ Some clock)

-- the class takes in this round a clock with a part that reaches the limit
abbrev pub TakesTooFine : Said → ℕ → ℕ → Type 0
TakesTooFine said round c = (clock : Progression) × Takes said round c clock × IsTooFine (2 ^ 40) clock

abbrev pub IsAnyTooFine : Said → ℕ → Type 0
IsAnyTooFine said round = (c : ℕ) × TakesTooFine said round c

-- the first such class of the first such round
abbrev pub IsFirstTooFine : Said → ℕ → Type 0
IsFirstTooFine said c = (round : ℕ) × IsLeast (IsAnyTooFine said) round × IsLeast (TakesTooFine said round) c

abbrev pub NoneTooFine : Said → Type 0
NoneTooFine said = (round c : ℕ) → TakesTooFine said round c → ⊥

-- the number of a class among the clocked ones
abbrev pub place_of : Classes → ℕ → ℕ
place_of classes c = count_by (λ b. b) (take c classes.clocked)

-- the grid is this clock, in lowest terms and below the limit
abbrev pub StandsFor : Grid → Progression → Type 0
StandsFor g p = IsFine (2 ^ 40) g × AreSame (progression_of_grid g) p

-- a grid for each clocked class, in their order
pub record AreGrids (classes : Classes) (held : Held) (grids : List Grid) : Type 0 where
  pub same_length : length grids ≡ count_by (λ b. b) classes.clocked
  pub each : (c : ℕ) → slice_index_or classes.clocked c false ≡ true
      → (clock : Progression) × (g : Grid) × (held c ≡ Some clock) × (slice_get grids (place_of classes c) ≡ Some g) × StandsFor g clock

-- a constructor or a relation with a given factor, of this equation, does not hold
abbrev pub FailsAt : Said → Held → ℕ → Type 0
FailsAt said held e =
    IsNumberIn (λ source. source.equation) (λ source. SourceHolds said held source → ⊥) said.sources e
    ⊎ IsNumberIn (λ relation. relation.equation) (λ relation. IsGiven relation.by × (RelationHolds said held relation → ⊥)) said.relations e

abbrev pub NoneFails : Said → Held → Type 0
NoneFails said held = (e : ℕ) → FailsAt said held e → ⊥

-- each clocked class gets a clock, the grids are these clocks, and none of them is too fine
pub record AreSolved (terms : Terms) (classes : Classes) (held : Held) (grids : List Grid) : Type 0 where
  pub gotten : AreGotten (said_of terms classes) held
  pub none_too_fine : NoneTooFine (said_of terms classes)
  pub are_grids : AreGrids classes held grids

-- the least common denominator reaches the limit at the class
abbrev pub IsPastAt : Classes → List Grid → ℕ → Type 0
IsPastAt classes grids c = (slice_index_or classes.clocked c false ≡ true) × IsLeast (IsGrainPast grids) (place_of classes c)

-- the grids of the only possible clocking, with which all constructors and given relations hold
abbrev pub IsSolution : Terms → Classes → List Grid → Type 0
IsSolution terms classes grids =
    (held : Held) × AreSolved terms classes held grids × HasMultipleBelow (2 ^ 40) (denominators grids) × NoneFails (said_of terms classes) held

-- C3: a clock is too fine, or else the least common denominator of all clocks in seconds
abbrev pub IsTooFineAt : Terms → Classes → ℕ → Type 0
IsTooFineAt terms classes c =
    ((held : Held) × AreGotten (said_of terms classes) held × IsFirstTooFine (said_of terms classes) c)
    ⊎ ((held : Held) × (grids : List Grid) × AreSolved terms classes held grids × IsPastAt classes grids c)

-- C4: all have clocks, none is too fine, and the equation is the least of a constructor or given relation that does not hold
abbrev pub IsConflictAt : Terms → Classes → ℕ → Type 0
IsConflictAt terms classes e =
    (held : Held) × (grids : List Grid) × AreSolved terms classes held grids × HasMultipleBelow (2 ^ 40) (denominators grids)
    × IsLeast (FailsAt (said_of terms classes) held) e

abbrev pub HasNoClocking : Said → Type 0
HasNoClocking said = (held : Held) → IsClocking said held → ⊥

-- the answer
abbrev pub Solves : Terms → Classes → Result (List Grid) SolveEnd → Type 0
Solves terms classes (Ok grids) = IsSolution terms classes grids
Solves terms classes (Err (Unknown c)) = IsLeast (GetsNone (said_of terms classes)) c
Solves terms classes (Err (TooFine c)) = IsTooFineAt terms classes c
Solves terms classes (Err (Conflict e)) = IsConflictAt terms classes e × HasNoClocking (said_of terms classes)
Solves terms classes (Err NoMemory) = ⊤
