-- Broken rules at variables, by their flat names.
use Rattle.std.specs.Prelude.{ℕ, List, [], ◌∷◌, slice_get, Option, Some, None, if◌then◌else◌}
use Rattle.mo_parser.specs.declared.tree.ClassDef.{ClassDef}
use Rattle.flat_model.specs.declared.place.Place.{Place}
use Rattle.flat_model.specs.declared.place.Place.TheVariants.{Name}
use Rattle.class_scopes.specs.Spelled.{Ident}
use Rattle.class_scopes.specs.declared.end.NameCode.TheVariants as code
use Rattle.flat_instances.specs.Instances.{Variable}
use Rattle.flat_instances.specs.declared.item.Item.{Item}
use Rattle.flat_instances.specs.declared.item.Item.TheVariants.{Declared, Own}
use Rattle.parameter_values.specs.Values.{is_fixed}
use Rattle.value_rules.specs.declared.faults.ValueFault.{ValueFault}
use Rattle.value_rules.specs.declared.faults.ValueFault.TheVariants.{Waiting, Failing}
use Rattle.flat_answer.specs.Answers.{told_among}
use Rattle.flat_answer.specs.declared.end.FlattenEnd.{FlattenEnd}
use Rattle.flat_answer.specs.declared.end.FlattenEnd.TheVariants.{Fault}

abbrev pub variable_name : Item → List Ident
variable_name (Declared v) = v.name ∷ []
variable_name (Own scope class) = []

abbrev pub parameter_name : Item → List Ident
parameter_name (Declared v) = if is_fixed v.element.now.variability then v.name ∷ [] else []
parameter_name (Own scope class) = []

abbrev pub place_of : Option Ident → Place
place_of (Some name) = Name name
place_of None = Name []

-- the end that a fault of values is
abbrev pub end_of : List ℕ → List ClassDef → List Variable → ValueFault → FlattenEnd
end_of text classes every (Waiting x) = Fault code.N6 (told_among text classes every code.N6 x)
end_of text classes every (Failing x) = Fault code.N7 (told_among text classes every code.N7 x)
