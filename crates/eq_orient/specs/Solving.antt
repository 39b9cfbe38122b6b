-- An equation solved for a name: the only value of the name with which both sides have one value.
use Rattle.std.specs.Prelude.{◌≡◌, ℕ, zero, suc, ◌+◌, ◌==◌, ◌&&◌, Bool, true, List, [], ◌∷◌, length, Some, Result, Ok, Err, if◌then◌else◌}
use Rattle.std.specs.List.{list_all}
use Rattle.sync_values.specs.Arithmetic.{fitted}
use Rattle.sync_values.specs.declared.value.Value.{Value}
use Rattle.sync_values.specs.declared.value.Value.TheVariants as value
use Rattle.sync_values.specs.declared.value.Fail.{Fail}
use Rattle.flat_model.specs.declared.expression.Expr.{Expr}
use Rattle.flat_model.specs.declared.clock.ClockExpr.TheOpen.{Expr-F}
use Rattle.flat_model.specs.declared.clock.ClockExpr.TheFolds.{fold-Expr}
use Rattle.flat_model.specs.declared.equation.Equation.{Equation}
use Rattle.flat_model.specs.declared.equation.Equation.TheVariants.{Valued, Clocks}
use Rattle.flat_model.specs.Operators.{Answer, Absent}
use Rattle.flat_model.specs.Views.{Views}
use Rattle.flat_model.specs.Meaning.{value_of, seen_by}
use Rattle.flat_model.specs.Meets.{HasOneValue}
use Rattle.flat_model.specs.Occurrences.{bare_count}
use Rattle.flat_model.specs.Samples.{samples_are_plain}
use Rattle.flat_model.specs.Ways.{parts_beside, kind_of}

-- a value of 64 bits
abbrev pub Fits : Value → Type 0
Fits (value.Int z) = fitted z ≡ Ok z
Fits (value.Bool b) = Unit {0}

-- the views with this value of a name now
abbrev pub with_now : ℕ → Value → Views → Views
with_now x v views zero = record (views zero) { now = λ y. if y == x then Some v else (views zero).now y }
with_now x v views (suc back) = views (suc back)

-- each chain has one operator fewer than parts
abbrev pub formed_level : Expr-F (Unit {0}) Bool → Bool
formed_level (Expr-F.Chain parts ops) = length parts == length ops + 1 && list_all (λ part. part) parts
formed_level (Expr-F.Neg part) = part
formed_level (Expr-F.Not part) = part
formed_level _ = true

unfoldable pub is_formed : Expr → Bool
is_formed = fold-Expr (Unit {0}) Bool (λ _. tt) formed_level

-- each chain of an equation has one operator fewer than parts, and nothing that asks for a tick stands in a `sample`
abbrev pub IsWellMade : Expr → Type 0
IsWellMade e = (is_formed e ≡ true) × (samples_are_plain e ≡ true)

abbrev pub AreWellMade : Equation → Type 0
AreWellMade (Valued left right clause) = IsWellMade left × IsWellMade right
AreWellMade (Clocks left right clause) = Unit {0}

-- answers that are all values or failures
abbrev pub ArePresent : List Answer → Type 0
ArePresent [] = Unit {0}
ArePresent (a ∷ rest) = (a ≡ Absent → ⊥) × ArePresent rest

-- what `solve_value` answers: the only value of the name that makes both sides equal; else the kind of the first failure among
-- the other parts, in the order of the text, and where these have values, that none fits
abbrev pub Solves : ℕ → Equation → Views → Result Value Fail → Type 0
Solves x equation views (Ok v) =
    Fits v × HasOneValue (with_now x v views) equation × ((w : Value) → Fits w → HasOneValue (with_now x w views) equation → w ≡ v)
Solves x equation views (Err kind) =
    ((w : Value) → Fits w → HasOneValue (with_now x w views) equation → ⊥) × (kind ≡ kind_of (seen_by views (parts_beside x equation)))

-- the law of what is not read: an expression in which a name does not stand bare has one value, whatever the name's is
abbrev pub UnreadLaw : Type 0
UnreadLaw = (x : ℕ) (w : Value) (views : Views) (expr : Expr) → bare_count x expr ≡ 0 → value_of expr (with_now x w views) ≡ value_of expr views

-- the law of one answer: one value, or one failure, answers
abbrev pub SolvesLaw : Type 0
SolvesLaw = (x : ℕ) (equation : Equation) (views : Views) (a b : Result Value Fail) → Solves x equation views a → Solves x equation views b → a ≡ b
