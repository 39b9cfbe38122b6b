-- The typed model of a raw one is a flat model.
use Rattle.std.proofs.Common.{◌≡◌, refl, ◌∙◌, sym, subst, ℕ, ◌<◌, ◌≤◌, true, List, map, length, Option, Some, Ok, slice_get, All}
use Rattle.flat_model.specs.declared.clock.ClockExpr.{ClockExpr}
use Rattle.flat_model.specs.declared.equation.Equation.{Equation}
use Rattle.flat_model.specs.declared.model.FlatName.{FlatName}
use Rattle.flat_model.specs.declared.raw.RawExpr.{RawExpr}
use Rattle.flat_model.specs.declared.raw.RawEq.{RawEq}
use Rattle.flat_model.specs.declared.raw.RawModel.{RawModel}
use Rattle.flat_model.specs.Arguments.{HasOwnArguments, clock_holds_no_input}
use Rattle.flat_model.specs.Counters.{HasCounters, clock_counters_fit}
use Rattle.flat_model.specs.Models.{size_limit, clause_of, IsModel}
use Rattle.flat_model.specs.RawModels.{constants_fit, HasConstants, HasClauseBelow, IsRawModel}
use Rattle.flat_model.specs.Typing.{types_in}
use Rattle.flat_model.specs.WholeTyping.{IsTyped, is_typed_clock}
use Rattle.flat_model.proofs.WholeTypes.{whole_typed}
use Rattle.flat_types.specs.Typed.{clause_clock, equation_of}
use Rattle.typed_model.specs.Laws.{HasOneType, ModelLaw, SidesLaw}
use Rattle.typed_model.proofs.Good.{IsGoodClock}
use Rattle.typed_model.proofs.Lists.{answered_length, answered_all, answered_at, all_at}
use Rattle.typed_model.proofs.Sides.{IsGoodEquation, valued, clocks, clause_good, equation_good}

module _ (names : List FlatName) where
  -- what a good equation has
  equation_typed : (clause : Option ℕ) (equation : Equation) → IsGoodEquation names clause equation → IsTyped (types_in names) equation
  equation_typed clause _ (valued left right type one two) = (type, one.type, two.type)
  equation_typed clause _ (clocks left right one two) = (one.typed, two.typed)

  equation_counted : (clause : Option ℕ) (equation : Equation) → IsGoodEquation names clause equation → HasCounters equation
  equation_counted clause _ (valued left right type one two) = (one.counters, two.counters)
  equation_counted clause _ (clocks left right one two) = (one.counters, two.counters)

  equation_own : (clause : Option ℕ) (equation : Equation) → IsGoodEquation names clause equation → HasOwnArguments names equation
  equation_own clause _ (valued left right type one two) = (one.inputs, two.inputs)
  equation_own clause _ (clocks left right one two) = (one.inputs, two.inputs)

  same_clause : (clause : Option ℕ) (equation : Equation) → IsGoodEquation names clause equation → clause_of equation ≡ clause
  same_clause clause _ (valued left right type one two) = refl
  same_clause clause _ (clocks left right one two) = refl

  one_type : (clause : Option ℕ) (equation : Equation) → IsGoodEquation names clause equation → HasOneType (types_in names) equation
  one_type clause _ (valued left right type one two) = (type, whole_typed (types_in names) left type one.type, whole_typed (types_in names) right type two.type)
  one_type clause _ (clocks left right one two) = tt

module _ (names : List FlatName) (equations : List RawEq) (found : List Equation) (typed : map (equation_of names) equations ≡ map (λ it. Ok it) found) where
  -- what a good equation has, each equation has
  each_equation : (Q : Equation → Type 0) → ((clause : Option ℕ) (equation : Equation) → IsGoodEquation names clause equation → Q equation) → All HasConstants equations → All Q found
  each_equation Q step constants =
      answered_all (equation_of names) HasConstants Q (λ raw equation is fit. step raw.clause equation (equation_good names raw equation is fit)) equations found typed constants

  clauses_below : (count : ℕ) → All HasConstants equations → All (HasClauseBelow count) equations → All (λ equation. (k : ℕ) → clause_of equation ≡ Some k → k < count) found
  clauses_below count constants below =
      answered_all (equation_of names) (λ raw. HasConstants raw × HasClauseBelow count raw) (λ equation. (k : ℕ) → clause_of equation ≡ Some k → k < count)
      (λ raw equation is both k at. both.1 k (sym (same_clause names raw.clause equation (equation_good names raw equation is both.0)) ∙ at)) equations found typed
      (λ k d lt. (constants k d lt, below k d lt))

  clause_used : All HasConstants equations → (k i : ℕ) (raw : RawEq) → slice_get equations i ≡ Some raw → raw.clause ≡ Some k
      → (j : ℕ) × (equation : Equation) × (slice_get found j ≡ Some equation) × (clause_of equation ≡ Some k)
  clause_used constants k i raw at is =
      let (equation, there, answer) = answered_at (equation_of names) equations found i raw typed at in
      (i, equation, there, same_clause names raw.clause equation (equation_good names raw equation answer (all_at HasConstants equations i raw constants at)) ∙ is)

module _ (names : List FlatName) (clauses : List RawExpr) (found : List ClockExpr) (typed : map (clause_clock names) clauses ≡ map (λ it. Ok it) found) where
  each_clause : (Q : ClockExpr → Type 0) → ((clock : ClockExpr) → IsGoodClock names clock → Q clock) → All (λ clause. constants_fit clause ≡ true) clauses → All Q found
  each_clause Q step constants =
      answered_all (clause_clock names) (λ clause. constants_fit clause ≡ true) Q (λ raw clock is fit. step clock (clause_good names raw clock is fit)) clauses found typed constants

-- a flat model of these names
model_of : (raw : RawModel) (names : List FlatName) (equations : List Equation) (clauses : List ClockExpr) → raw.names ≡ names → IsRawModel raw
    → map (equation_of raw.names) raw.equations ≡ map (λ it. Ok it) equations → map (clause_clock raw.names) raw.clauses ≡ map (λ it. Ok it) clauses
    → IsModel (record { names = names; equations = equations; clauses = clauses })
model_of raw names equations clauses same is typed clocked = subst (λ it. IsModel (record { names = it; equations = equations; clauses = clauses })) same (record {
  names = is.names;
  few = subst (λ n. n ≤ size_limit) (answered_length (equation_of raw.names) raw.equations equations typed) is.few;
  typed = record {
    equations = each_equation raw.names raw.equations equations typed (IsTyped (types_in raw.names)) (equation_typed raw.names) is.constants;
    clauses = each_clause raw.names raw.clauses clauses clocked (λ clock. is_typed_clock (types_in raw.names) clock ≡ true) (λ clock good. good.typed) is.clause_constants;
  };
  counters = record {
    equations = each_equation raw.names raw.equations equations typed HasCounters (equation_counted raw.names) is.constants;
    clauses = each_clause raw.names raw.clauses clauses clocked (λ clock. clock_counters_fit clock ≡ true) (λ clock good. good.counters) is.clause_constants;
  };
  arguments = record {
    equations = each_equation raw.names raw.equations equations typed (HasOwnArguments raw.names) (equation_own raw.names) is.constants;
    clauses = each_clause raw.names raw.clauses clauses clocked (λ clock. clock_holds_no_input raw.names clock ≡ true) (λ clock good. good.inputs) is.clause_constants;
  };
  clauses = record {
    below = clauses_below raw.names raw.equations equations typed (length clauses) is.constants (subst (λ n. All (HasClauseBelow n) raw.equations) many is.below);
    used = λ k lt. let (i, equation, at, own) = is.used k (subst (λ n. k < n) (sym many) lt) in clause_used raw.names raw.equations equations typed is.constants k i equation at own;
  };
})
  where
    many : length raw.clauses ≡ length clauses
    many = answered_length (clause_clock raw.names) raw.clauses clauses clocked

pub typed_is_model : ModelLaw
typed_is_model raw flat is typed = model_of raw flat.names flat.equations flat.clauses (sym typed.names) is typed.equations typed.clauses

pub sides_have_one_type : SidesLaw
sides_have_one_type raw flat is typed = subst (λ names. All (HasOneType (types_in names)) flat.equations) (sym typed.names)
    (each_equation raw.names raw.equations flat.equations typed.equations (HasOneType (types_in raw.names)) (one_type raw.names) is.constants)
