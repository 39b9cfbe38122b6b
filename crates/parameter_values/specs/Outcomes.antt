-- What evaluating an expression gives, with the number whose missing value it met.
use Rattle.std.specs.Prelude.{◌≡◌, ℕ, List, [], ◌∷◌, ◌++◌, slice_get, Option, Some, None, Bool, true, false, ⊤, if◌then◌else◌}
use Rattle.sync_values.specs.declared.value.Value.{Value}
use Rattle.sync_values.specs.declared.value.Value.TheVariants as value
use Rattle.sync_values.specs.declared.value.ChainOp.{ChainOp}
use Rattle.sync_values.specs.declared.value.ChainOp.TheVariants.{And, Or}
use Rattle.sync_values.specs.declared.value.Rel.{Rel}
use Rattle.mo_order.specs.Values.{Slots}
use Rattle.mo_parser.specs.declared.tree.TreeExpr.{TreeExpr}
use Rattle.mo_parser.specs.declared.tree.TreeNode.TheOpen.{TreeNode-F}
use Rattle.mo_parser.specs.declared.tree.TreeNode.TheFolds.{fold-TreeExpr}
use Rattle.flat_model.specs.declared.expression.Fun.{Fun}
use Rattle.flat_model.specs.Operators.{Answer, Is, Fails, Absent, applied, negated, inverted, relation}
use Rattle.flat_model.specs.Functions.{called}
use Rattle.parameter_values.specs.declared.evaluate.Outcome.{Outcome}
use Rattle.parameter_values.specs.declared.evaluate.Outcome.TheVariants as out
use Rattle.class_scopes.specs.Spelled.{Ident, idents, dotted, is_time}
use Rattle.class_scopes.specs.Tables.{Numbered, number_of}
use Rattle.parameter_values.specs.Values.{function_named}

abbrev pub answer_of : Outcome → Answer
answer_of (out.Known v) = Is v
answer_of (out.Failing k) = Fails k
answer_of (out.Missing m) = Absent

abbrev pub outcome_of : Answer → Outcome
outcome_of (Is v) = out.Known v
outcome_of (Fails k) = out.Failing k
outcome_of Absent = out.Missing None

-- what was missing has no value
abbrev pub Blocked : Slots → Outcome → Type 0
Blocked slots (out.Known v) = ⊤
Blocked slots (out.Failing k) = ⊤
Blocked slots (out.Missing None) = ⊤
Blocked slots (out.Missing (Some m)) = slice_get slots m ≡ Some None

-- what comes next needs the value; else it is as it is
abbrev pub lift : (Value → Outcome) → Outcome → Outcome
lift f (out.Known v) = f v
lift f (out.Failing k) = out.Failing k
lift f (out.Missing m) = out.Missing m

abbrev pub negated_outcome : Outcome → Outcome
negated_outcome part = lift (λ v. outcome_of (negated (Is v))) part

abbrev pub inverted_outcome : Outcome → Outcome
inverted_outcome part = lift (λ v. outcome_of (inverted (Is v))) part

abbrev pub related_outcome : Rel → Outcome → Outcome → Outcome
related_outcome rel left right = lift (λ a. lift (λ b. outcome_of (relation rel (Is a) (Is b))) right) left

-- the value of a chain so far is its value with the next part
abbrev pub is_enough : ChainOp → Value → Bool
is_enough And (value.Bool false) = true
is_enough Or (value.Bool true) = true
is_enough _ _ = false

abbrev pub joined_if : Bool → ChainOp → Value → Outcome → Outcome
joined_if true op total part = out.Known total
joined_if false op total part = lift (λ b. outcome_of (applied op total b)) part

abbrev pub joined_outcome : ChainOp → Outcome → Outcome → Outcome
joined_outcome op total part = lift (λ a. joined_if (is_enough op a) op a part) total

abbrev pub chained_outcome : Outcome → List ChainOp → List Outcome → Outcome
chained_outcome first (op ∷ ops) (part ∷ parts) = chained_outcome (joined_outcome op first part) ops parts
chained_outcome first _ _ = first

abbrev pub chain_outcome : List ChainOp → List Outcome → Outcome
chain_outcome ops [] = out.Missing None
chain_outcome ops (first ∷ parts) = chained_outcome first ops parts

abbrev pub chosen_outcome : List Outcome → List Outcome → Outcome → Outcome
chosen_outcome [] branches other = other
chosen_outcome (out.Known (value.Bool true) ∷ conditions) (branch ∷ branches) other = branch
chosen_outcome (out.Known (value.Bool false) ∷ conditions) (branch ∷ branches) other = chosen_outcome conditions branches other
chosen_outcome (out.Failing k ∷ conditions) branches other = out.Failing k
chosen_outcome (out.Missing m ∷ conditions) branches other = out.Missing m
chosen_outcome (_ ∷ conditions) branches other = out.Missing None

abbrev pub called_pair : Fun → Value → Value → List Outcome → Outcome
called_pair function a b [] = outcome_of (called function (Is a ∷ (Is b ∷ [])))
called_pair function a b (part ∷ rest) = out.Missing None

abbrev pub called_outcome : Fun → List Outcome → Outcome
called_outcome function [] = out.Missing None
called_outcome function (first ∷ []) = lift (λ a. outcome_of (called function (Is a ∷ []))) first
called_outcome function (first ∷ (second ∷ rest)) = lift (λ a. lift (λ b. called_pair function a b rest) second) first

abbrev pub called_outcome_by : Option Fun → List Outcome → Outcome
called_outcome_by (Some function) parts = called_outcome function parts
called_outcome_by None parts = out.Missing None

abbrev pub slot_outcome : ℕ → Option (Option Value) → Outcome
slot_outcome k (Some (Some v)) = out.Known v
slot_outcome k (Some None) = out.Missing (Some k)
slot_outcome k None = out.Missing None

abbrev pub number_outcome : Slots → Option ℕ → Outcome
number_outcome slots (Some k) = slot_outcome k (slice_get slots k)
number_outcome slots None = out.Missing None

module _ (text : List ℕ) (table : Numbered) (slots : Slots) (scope : Ident) where
  abbrev pub name_outcome : List Ident → Outcome
  name_outcome parts = if is_time parts then out.Missing None else number_outcome slots (number_of table (scope ++ dotted parts))

  abbrev pub outcome_level : TreeNode-F Outcome Outcome → Outcome
  outcome_level (TreeNode-F.Const v) = out.Known v
  outcome_level (TreeNode-F.Name path) = name_outcome (idents text path)
  outcome_level (TreeNode-F.Call path parts) = called_outcome_by (function_named (dotted (idents text path))) parts
  outcome_level (TreeNode-F.Chain parts ops) = chain_outcome ops parts
  outcome_level (TreeNode-F.Relation rel left right) = related_outcome rel left right
  outcome_level (TreeNode-F.Neg part) = negated_outcome part
  outcome_level (TreeNode-F.Not part) = inverted_outcome part
  outcome_level (TreeNode-F.Power base exponent) = out.Missing None
  outcome_level (TreeNode-F.If conditions branches other) = chosen_outcome conditions branches other

  unfoldable pub outcome : TreeExpr → Outcome
  outcome = fold-TreeExpr Outcome Outcome outcome_level (λ expr. expr.node)
