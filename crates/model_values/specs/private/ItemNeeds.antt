-- The parts that items have in the parameters and needs of a model.
use Rattle.std.specs.Prelude.{ℕ, List, [], ◌∷◌, if◌then◌else◌}
use Rattle.mo_parser.specs.declared.tree.ClassDef.{ClassDef}
use Rattle.class_scopes.specs.Spelled.{Ident}
use Rattle.flat_instances.specs.declared.item.Item.{Item}
use Rattle.flat_instances.specs.declared.item.Item.TheVariants.{Declared, Own}
use Rattle.flat_instances.specs.Kept.{seen_variable}
use Rattle.parameter_values.specs.Values.{is_fixed}
use Rattle.parameter_values.specs.Givens.{Valued, valued_of}
use Rattle.value_rules.specs.Needs.{Needs, needs_of}

module _ (text : List ℕ) (classes : List ClassDef) where
  abbrev pub needs_in : Item → List Needs
  needs_in (Declared v) = needs_of text classes (seen_variable text classes v) ∷ []
  needs_in (Own scope class) = []

  abbrev pub parameters_in : Item → List Valued
  parameters_in (Declared v) = if is_fixed v.element.now.variability then valued_of text classes (seen_variable text classes v) ∷ [] else []
  parameters_in (Own scope class) = []

abbrev pub names_in : Item → List Ident
names_in (Declared v) = if is_fixed v.element.now.variability then v.name ∷ [] else []
names_in (Own scope class) = []
