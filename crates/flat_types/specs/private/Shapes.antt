-- Parts of the rules of types that functions of their own compute.
use Rattle.std.specs.Prelude.{◌≡◌, ◌≤◌, ℕ, ◌+◌, ◌==◌, ◌&&◌, List, [], ◌∷◌, length, Option, Some, None, if◌then◌else◌}
use Rattle.std.specs.List.{list_all}
use Rattle.sync_values.specs.declared.value.ChainOp.{ChainOp}
use Rattle.flat_model.specs.declared.model.NameKind.{NameKind}
use Rattle.flat_model.specs.Typing.{goes_with, type_of_operator}
use Rattle.std.specs.Prelude.{map}
use Rattle.sync_values.specs.declared.value.ChainOp.TheVariants.{Times}
use Rattle.flat_model.specs.declared.model.FlatName.{FlatName}
use Rattle.flat_model.specs.declared.raw.RawExpr.{RawExpr}
use Rattle.flat_model.specs.declared.raw.RawExpr.TheVariants as raw
use Rattle.flat_types.specs.declared.outcome.Outcome.{Outcome}
use Rattle.flat_types.specs.declared.callee.Callee.{Callee}
use Rattle.flat_types.specs.declared.callee.Callee.TheVariants.{Interval}
use Rattle.flat_types.specs.Callees.{callee}
use Rattle.flat_types.specs.Readings.{reading, call_read, product_of_two}
use Rattle.flat_types.specs.declared.calls.Few.{Few}
use Rattle.flat_types.specs.declared.calls.Few.TheVariants as few

-- the type of the parts of a chain of so many
abbrev pub operand_type : ℕ → List ChainOp → Option NameKind
operand_type count [] = None
operand_type count (op ∷ ops) = if count == length ops + 2 && list_all (goes_with op) ops then type_of_operator op else None

-- none, one or two parts by themselves
abbrev pub few_of : List Outcome → Few
few_of [] = few.None
few_of (a ∷ []) = few.One a
few_of (a ∷ (b ∷ [])) = few.Two a b
few_of _ = few.More

-- a call of `interval` with at most one argument, and its arguments; else the call is no interval over any names
abbrev pub IsIntervalCall : Callee → List RawExpr → Option (List RawExpr) → Type 0
IsIntervalCall called parts (Some found) = (found ≡ parts) × (called ≡ Interval) × (length parts ≤ 1)
IsIntervalCall called parts None = (names : List FlatName) → (call_read names called (map (reading names) parts)).interval ≡ None

-- the same of a node
abbrev pub IsInterval : RawExpr → Option (List RawExpr) → Type 0
IsInterval node (Some parts) = (name : List ℕ) × (node ≡ raw.Call name parts) × (callee name ≡ Interval) × (length parts ≤ 1)
IsInterval node None = (names : List FlatName) → (reading names node).interval ≡ None

-- the factors of a product of two
abbrev pub HasFactors : RawExpr → RawExpr → RawExpr → Type 0
HasFactors node a b = node ≡ raw.Chain (a ∷ (b ∷ [])) (Times ∷ [])

-- no product with an interval, over any names
abbrev pub HasNoFactors : RawExpr → Type 0
HasNoFactors node = (names : List FlatName) → (reading names node).product ≡ None

abbrev pub AreNoFactors : List RawExpr → Type 0
AreNoFactors parts = (names : List FlatName) → product_of_two names (map (reading names) parts) ≡ None
