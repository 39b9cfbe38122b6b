-- N5: a modification of what is not there, a value of what has none, or a second modification of one path. This project's own code.
use Rattle.std.specs.Prelude.{ℕ, List, ◌++◌, flat_map, slice_get, Option, Some, ◌||◌, not, is_some}
use Rattle.mo_parser.specs.declared.tree.Arg.{Arg}
use Rattle.mo_parser.specs.declared.tree.ClassDef.{ClassDef}
use Rattle.mo_parser.specs.declared.tree.Element.{Element}
use Rattle.mo_parser.specs.declared.tree.Short.{Short}
use Rattle.class_scopes.specs.declared.type_name.TypeName.{TypeName}
use Rattle.class_scopes.specs.declared.type_name.TypeName.TheVariants.{Class}
use Rattle.class_scopes.specs.Places.{unless, in_option}
use Rattle.class_scopes.specs.Reached.{In}
use Rattle.class_scopes.specs.Types.{type_of}
use Rattle.scope_names.specs.Scopes.{is_variable}
use Rattle.argument_rules.specs.Paths.{given_twice}
use Rattle.argument_rules.specs.Targets.{misplaced_in}

module _ (text : List ℕ) (classes : List ClassDef) where
  -- the places of wrong arguments in a list of those of a component of a type
  abbrev pub wrong_among : Option TypeName → List Arg → List ℕ
  wrong_among modified args = misplaced_in text classes modified args ++ given_twice text args

  -- only a variable has a value
  abbrev pub valued : Element → List ℕ
  valued element = unless (not (is_some element.binding) || is_variable text classes element) element.name.at

  abbrev pub wrong_component : Element → List ℕ
  wrong_component element = valued element ++ wrong_among (type_of text classes element.base) element.args

  -- the arguments of a short connector name what those of a component of it name
  abbrev pub wrong_short : ℕ → Short → List ℕ
  wrong_short class short = wrong_among (Some (Class class)) short.args

  abbrev pub wrong_in : ℕ → ClassDef → List ℕ
  wrong_in class definition = flat_map wrong_component definition.elements ++ in_option (wrong_short class) definition.short

  -- the places of wrong modifications in a class
  abbrev pub wrong : ℕ → List ℕ
  wrong class = in_option (wrong_in class) (slice_get classes class)

  -- where the rule is broken: at the name in the argument, or at that of the component which has a value
  abbrev pub Breaks : Option ℕ → ℕ → Type 0
  Breaks chosen place = In text classes chosen wrong place
