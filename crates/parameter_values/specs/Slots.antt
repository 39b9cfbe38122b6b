-- Values of parameters by their numbers, in the place of their names.
use Rattle.std.specs.Prelude.{ℕ, List, map, filter, slice_get, Option, option_and_then}
use Rattle.sync_values.specs.declared.value.Value.{Value}
use Rattle.mo_order.specs.Values.{Slots, Rules}
use Rattle.mo_parser.specs.declared.tree.ClassDef.{ClassDef}
use Rattle.class_scopes.specs.Spelled.{Ident}
use Rattle.class_scopes.specs.Tables.{Numbered, number_of, IsTableOf}
use Rattle.flat_instances.specs.Instances.{Variable}
use Rattle.parameter_values.specs.Values.{Values, is_parameter, value_from}

abbrev pub itself : Option Value → Option Value
itself slot = slot

abbrev pub value_at : Slots → ℕ → Option Value
value_at slots x = option_and_then itself (slice_get slots x)

-- the values of names, by the numbers that a table has for them
abbrev pub seen : Numbered → Slots → Values
seen table slots name = option_and_then (value_at slots) (number_of table name)

abbrev pub parameters : List Variable → List Variable
parameters all = filter is_parameter all

abbrev pub names_of : List Variable → List Ident
names_of all = map (λ v. v.name) all

-- the rule of each parameter
abbrev pub rules_of : List ℕ → List ClassDef → List Variable → Numbered → Rules
rules_of text classes parameters table slots x = option_and_then (value_from text classes (seen table slots)) (slice_get parameters x)

abbrev pub IsTableOfParameters : List Variable → Numbered → Type 0
IsTableOfParameters all table = IsTableOf (names_of (parameters all)) table
