-- What holds of each flat model.
use Rattle.std.specs.Prelude.{◌≡◌, ◌≢◌, ℕ, ◌≤◌, ◌<◌, true, List, length, Option, Some, slice_get, All, AllPairs}
use Rattle.flat_model.specs.declared.clock.ClockExpr.{ClockExpr}
use Rattle.flat_model.specs.declared.equation.Equation.{Equation}
use Rattle.flat_model.specs.declared.equation.Equation.TheVariants.{Valued, Clocks}
use Rattle.flat_model.specs.declared.model.FlatModel.{FlatModel}
use Rattle.flat_model.specs.declared.model.FlatName.{FlatName}
use Rattle.flat_model.specs.declared.model.NameKind.TheVariants as kind
use Rattle.flat_model.specs.Assignment.{IsOfKind}
use Rattle.flat_model.specs.Typing.{types_in}
use Rattle.flat_model.specs.WholeTyping.{IsTyped, is_typed_clock}
use Rattle.flat_model.specs.Arguments.{HasOwnArguments, clock_holds_no_input}
use Rattle.flat_model.specs.Counters.{HasCounters, clock_counters_fit}

-- how many names a model has at most, and how many equations
abbrev pub size_limit : ℕ
size_limit = 65536

-- a text of at most 4,127 bytes, a start of the type of a name that has values, and no input among the Clocks
pub record IsName (name : FlatName) : Type 0 where
  pub short : length name.text ≤ 4127
  pub start : name.kind ≢ kind.Clock → IsOfKind name.kind name.start
  pub input : name.input ≡ true → name.kind ≢ kind.Clock

-- not too many names, of which no two have one text
pub record AreNames (names : List FlatName) : Type 0 where
  pub few : length names ≤ size_limit
  pub each : All IsName names
  pub apart : AllPairs (λ a b. a.text ≢ b.text) names

-- all equations and clauses meet the rules of types, and so each number of a name in them is one of the model
pub record AreTyped (model : FlatModel) : Type 0 where
  pub equations : All (IsTyped (types_in model.names)) model.equations
  pub clauses : All (λ clock. is_typed_clock (types_in model.names) clock ≡ true) model.clauses

-- all their counters, factors, resolutions and k are in range
pub record AreCounters (model : FlatModel) : Type 0 where
  pub equations : All HasCounters model.equations
  pub clauses : All (λ clock. clock_counters_fit clock ≡ true) model.clauses

-- no input is held or converted
pub record AreArguments (model : FlatModel) : Type 0 where
  pub equations : All (HasOwnArguments model.names) model.equations
  pub clauses : All (λ clock. clock_holds_no_input model.names clock ≡ true) model.clauses

-- the clause in which an equation stands
abbrev pub clause_of : Equation → Option ℕ
clause_of (Valued left right clause) = clause
clause_of (Clocks left right clause) = clause

-- the clause of each equation is one of the model, and each clause is that of an equation
pub record AreClauses (equations : List Equation) (clauses : List ClockExpr) : Type 0 where
  pub below : All (λ equation. (c : ℕ) → clause_of equation ≡ Some c → c < length clauses) equations
  pub used : (c : ℕ) → c < length clauses → (i : ℕ) × (equation : Equation) × (slice_get equations i ≡ Some equation) × (clause_of equation ≡ Some c)

-- a flat model: names, not too many equations, types, counters, arguments and clauses
pub record IsModel (model : FlatModel) : Type 0 where
  pub names : AreNames model.names
  pub few : length model.equations ≤ size_limit
  pub typed : AreTyped model
  pub counters : AreCounters model
  pub arguments : AreArguments model
  pub clauses : AreClauses model.equations model.clauses
