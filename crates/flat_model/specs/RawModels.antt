-- What holds of each flat model whose types are not known yet.
use Rattle.std.specs.Prelude.{◌≡◌, ℕ, ◌≤◌, ◌<◌, Bool, true, ◌&&◌, List, length, Some, slice_get, All}
use Rattle.flat_model.specs.declared.raw.RawExpr.{RawExpr}
use Rattle.flat_model.specs.declared.raw.RawExpr.TheOpen.{RawExpr-F}
use Rattle.flat_model.specs.declared.raw.RawExpr.TheFolds.{fold-RawExpr}
use Rattle.flat_model.specs.declared.raw.RawEq.{RawEq}
use Rattle.flat_model.specs.declared.raw.RawModel.{RawModel}
use Rattle.flat_model.specs.Counters.{all_fit}
use Rattle.flat_model.specs.Models.{AreNames, size_limit}
use Rattle.flat_model.specs.Typing.{is_value}

abbrev pub constants_in_level : RawExpr-F Bool → Bool
constants_in_level (RawExpr-F.Const v) = is_value v
constants_in_level (RawExpr-F.Name x) = true
constants_in_level (RawExpr-F.Call name parts) = all_fit parts
constants_in_level (RawExpr-F.Chain parts ops) = all_fit parts
constants_in_level (RawExpr-F.Relation rel left right) = left && right
constants_in_level (RawExpr-F.Neg part) = part
constants_in_level (RawExpr-F.Not part) = part
constants_in_level (RawExpr-F.Power left right) = left && right
constants_in_level (RawExpr-F.If conditions branches other) = all_fit conditions && all_fit branches && other
constants_in_level RawExpr-F.Time = true

-- each constant in an expression is a value: an Integer of 64 bits, or a Boolean
unfoldable pub constants_fit : RawExpr → Bool
constants_fit = fold-RawExpr Bool constants_in_level

-- the same of both sides of an equation
abbrev pub HasConstants : RawEq → Type 0
HasConstants equation = (constants_fit equation.left ≡ true) × (constants_fit equation.right ≡ true)

-- each clause is that of an equation
abbrev pub AreClausesUsed : RawModel → Type 0
AreClausesUsed raw = (k : ℕ) → k < length raw.clauses → (i : ℕ) × (equation : RawEq) × (slice_get raw.equations i ≡ Some equation) × (equation.clause ≡ Some k)

-- the clause of an equation is one of the model
abbrev pub HasClauseBelow : ℕ → RawEq → Type 0
HasClauseBelow count equation = (k : ℕ) → equation.clause ≡ Some k → k < count

-- a flat model before its types are known: names, not too many equations, clauses, and constants
pub record IsRawModel (raw : RawModel) : Type 0 where
  pub names : AreNames raw.names
  pub few : length raw.equations ≤ size_limit
  pub below : All (HasClauseBelow (length raw.clauses)) raw.equations
  pub used : AreClausesUsed raw
  pub constants : All HasConstants raw.equations
  pub clause_constants : All (λ clause. constants_fit clause ≡ true) raw.clauses
