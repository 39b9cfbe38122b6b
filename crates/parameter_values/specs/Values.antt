-- Values of parameters, constants and starts. MLS 3.6, chapter 3, "Variability of Expressions", in this project's profile.
use Rattle.std.specs.Prelude.{◌≡◌, ℕ, zero, suc, pos, List, ◌++◌, find, codes, Option, Some, None, Bool, true, false, ◌&&◌, ◌↔◌, option_and_then, bytes_eq, if◌then◌else◌}
use Rattle.sync_values.specs.declared.value.Value.{Value}
use Rattle.sync_values.specs.declared.value.Value.TheVariants as value
use Rattle.mo_parser.specs.declared.tree.ClassDef.{ClassDef}
use Rattle.mo_parser.specs.declared.tree.TreeExpr.{TreeExpr}
use Rattle.mo_parser.specs.declared.tree.TreeNode.TheOpen.{TreeNode-F}
use Rattle.mo_parser.specs.declared.tree.TreeNode.TheFolds.{fold-TreeExpr}
use Rattle.mo_parser.specs.declared.tree.Variability.{Variability}
use Rattle.mo_parser.specs.declared.tree.Variability.TheVariants as variability
use Rattle.flat_model.specs.declared.model.NameKind.{NameKind}
use Rattle.flat_model.specs.declared.model.NameKind.TheVariants as kind
use Rattle.flat_model.specs.declared.expression.Fun.{Fun}
use Rattle.flat_model.specs.declared.expression.Fun.TheVariants.{Div, Mod, Rem, Abs, Min, Max}
use Rattle.flat_model.specs.Operators.{Answer, Is, Absent, read, chain, negated, inverted, relation, chosen}
use Rattle.flat_model.specs.Functions.{called}
use Rattle.class_scopes.specs.Spelled.{Ident, idents, dotted, is_time}
use Rattle.class_scopes.specs.Types.{kind_of}
use Rattle.flat_instances.specs.Instances.{Placed, Variable}

-- the values of names, by their flat names
abbrev pub Values : Type 0
Values = Ident → Option Value

abbrev pub function_named : Ident → Option Fun
function_named name =
    if bytes_eq name (codes "div") then Some Div else
    if bytes_eq name (codes "mod") then Some Mod else
    if bytes_eq name (codes "rem") then Some Rem else
    if bytes_eq name (codes "abs") then Some Abs else
    if bytes_eq name (codes "min") then Some Min else
    if bytes_eq name (codes "max") then Some Max else None

abbrev pub called_by : Option Fun → List Answer → Answer
called_by (Some function) arguments = called function arguments
called_by None arguments = Absent

-- a value of a kind
abbrev pub of_kind : Option NameKind → Answer → Option Value
of_kind (Some kind.Integer) (Is (value.Int z)) = Some (value.Int z)
of_kind (Some kind.Boolean) (Is (value.Bool b)) = Some (value.Bool b)
of_kind _ _ = None

-- the start where none is given
abbrev pub zero_of : Option NameKind → Option Value
zero_of (Some kind.Integer) = Some (value.Int (pos 0))
zero_of (Some kind.Boolean) = Some (value.Bool false)
zero_of _ = None

abbrev pub is_fixed : Variability → Bool
is_fixed variability.Plain = false
is_fixed variability.Parameter = true
is_fixed variability.Constant = true

-- a variable is a parameter or a constant
abbrev pub is_parameter : Variable → Bool
is_parameter v = is_fixed v.element.variability

module _ (text : List ℕ) (classes : List ClassDef) where
  -- what a name stands for in a scope, by its flat name
  abbrev pub flat_name : Ident → List Ident → Ident
  flat_name scope parts = scope ++ dotted parts

  abbrev pub read_name : Values → Ident → List Ident → Answer
  read_name values scope parts = if is_time parts then Absent else read (values (flat_name scope parts))

  -- the value of an expression that is written in a scope, from the values of names
  abbrev pub answer_level : Values → Ident → TreeNode-F Answer Answer → Answer
  answer_level values scope (TreeNode-F.Const v) = Is v
  answer_level values scope (TreeNode-F.Name path) = read_name values scope (idents text path)
  answer_level values scope (TreeNode-F.Call path arguments) = called_by (function_named (dotted (idents text path))) arguments
  answer_level values scope (TreeNode-F.Chain parts ops) = chain ops parts
  answer_level values scope (TreeNode-F.Relation rel left right) = relation rel left right
  answer_level values scope (TreeNode-F.Neg part) = negated part
  answer_level values scope (TreeNode-F.Not part) = inverted part
  answer_level values scope (TreeNode-F.Power base exponent) = Absent
  answer_level values scope (TreeNode-F.If conditions branches other) = chosen conditions branches other

  unfoldable pub answer : Values → Ident → TreeExpr → Answer
  answer values scope = fold-TreeExpr Answer Answer (answer_level values scope) (λ expr. expr.node)

  -- the value of its kind that an expression gives, or 0 or false where there is none
  abbrev pub value_by : Values → Option NameKind → Option Placed → Option Value
  value_by values kind (Some placed) = of_kind kind (answer values placed.scope placed.expr)
  value_by values kind None = zero_of kind

  -- the expression of a parameter's value: its binding, or its start where it has none
  abbrev pub value_expr : Variable → Option Placed
  value_expr v = by v.binding
    where
      by : Option Placed → Option Placed
      by (Some placed) = Some placed
      by None = v.start

  abbrev pub value_from : Values → Variable → Option Value
  value_from values v = value_by values (kind_of text classes v.type) (value_expr v)

  abbrev pub start_from : Values → Variable → Option Value
  start_from values v = value_by values (kind_of text classes v.type) v.start

  module _ (all : List Variable) where
    abbrev pub parameter_named : Ident → Option Variable
    parameter_named name = find (λ v. is_parameter v && bytes_eq name v.name) all

    -- the values that a derivation gives whose steps stand at most so deep upon each other
    abbrev pub derived : ℕ → Values
    derived zero name = None
    derived (suc n) name = option_and_then (value_from (derived n)) (parameter_named name)

    -- the values of the parameters and constants: those that some finite derivation gives
    abbrev pub AreValues : Values → Type 0
    AreValues values = (name : Ident) (v : Value) → (values name ≡ Some v) ↔ ((n : ℕ) × (derived n name ≡ Some v))
