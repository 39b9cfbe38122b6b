-- The values that variables need.
use Rattle.std.specs.Prelude.{ℕ, List, Option, None, if◌then◌else◌}
use Rattle.mo_parser.specs.declared.tree.ClassDef.{ClassDef}
use Rattle.class_scopes.specs.Types.{kind_of}
use Rattle.flat_instances.specs.Instances.{Placed, Variable}
use Rattle.parameter_values.specs.Values.{is_parameter, value_expr}
use Rattle.parameter_values.specs.Givens.{Valued, valued}
use Rattle.value_rules.specs.declared.missing.Needs.{Needs as KeptNeeds}

-- the types and expressions of a variable's own value and of its start
abbrev pub Needs : Type 0
Needs = Valued × Valued

abbrev pub needed : KeptNeeds → Needs
needed needs = (valued needs.own, valued needs.start)

module _ (text : List ℕ) (classes : List ClassDef) where
  -- only a parameter or a constant needs a value of its own
  abbrev pub own_expr : Variable → Option Placed
  own_expr v = if is_parameter v then value_expr text classes v else None

  abbrev pub needs_of : Variable → Needs
  needs_of v = ((kind_of text classes v.type, own_expr v), (kind_of text classes v.type, v.start))
