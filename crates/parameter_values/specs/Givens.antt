-- What parameters are given, by their numbers.
use Rattle.std.specs.Prelude.{◌≡◌, ℕ, List, [], map, slice_get, Option, Some, None, option_map, option_and_then}
use Rattle.sync_values.specs.declared.value.Value.{Value}
use Rattle.mo_order.specs.Values.{Slots, Rules}
use Rattle.mo_order.specs.declared.queue.Given.{Given}
use Rattle.mo_order.specs.declared.queue.Given.TheVariants.{Gives, Waits, Never}
use Rattle.mo_parser.specs.declared.tree.ClassDef.{ClassDef}
use Rattle.flat_model.specs.declared.model.NameKind.{NameKind}
use Rattle.flat_model.specs.Operators.{Is}
use Rattle.parameter_values.specs.declared.evaluate.Outcome.{Outcome}
use Rattle.parameter_values.specs.declared.evaluate.Outcome.TheVariants as out
use Rattle.parameter_values.specs.declared.evaluate.Parameter.{Parameter}
use Rattle.class_scopes.specs.Types.{kind_of}
use Rattle.class_scopes.specs.Tables.{Numbered}
use Rattle.flat_instances.specs.Instances.{Placed, Variable}
use Rattle.parameter_values.specs.Values.{value_by, value_expr, of_kind, AreValues}
use Rattle.parameter_values.specs.Slots.{seen, parameters, IsTableOfParameters}

abbrev pub given_value : Option Value → Given
given_value (Some v) = Gives v
given_value None = Never

abbrev pub given_of : Option NameKind → Outcome → Given
given_of kind (out.Known v) = given_value (of_kind kind (Is v))
given_of kind (out.Failing k) = Never
given_of kind (out.Missing None) = Never
given_of kind (out.Missing (Some m)) = Waits m

-- a type and the expression of a value, if there is one
abbrev pub Valued : Type 0
Valued = Option NameKind × Option Placed

abbrev pub valued : Parameter → Valued
valued parameter = (parameter.kind, option_map (λ expr. record { scope = parameter.scope; expr = expr.now }) parameter.expr)

-- the parameter of a model that is kept
abbrev pub valued_of : List ℕ → List ClassDef → Variable → Valued
valued_of text classes v = (kind_of text classes v.type, value_expr text classes v)

abbrev pub value_with : List ℕ → Numbered → Slots → Valued → Option Value
value_with text table slots valued = value_by text [] (seen table slots) valued.0 valued.1

abbrev pub rules_by : List ℕ → Numbered → List Valued → Rules
rules_by text table items slots x = option_and_then (value_with text table slots) (slice_get items x)

-- the values of a model's parameters are found, where these are its parameters and the table has their numbers
abbrev pub HaveValues : List ℕ → Numbered → List Valued → Slots → Type 0
HaveValues text table items found = (classes : List ClassDef) (all : List Variable) → IsTableOfParameters all table
    → items ≡ map (valued_of text classes) (parameters all) → AreValues text classes all (seen table found)
