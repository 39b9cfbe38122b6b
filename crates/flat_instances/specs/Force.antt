-- What is left of modifications behind the names that lead to an instance, and what is in force there.
use Rattle.std.specs.Prelude.{◌≡◌, ℕ, List, [], ◌∷◌, ◌++◌, map, take, bytes_eq, Option, option_map, if◌then◌else◌}
use Rattle.std.specs.HashMap.{get_by}
use Rattle.std.specs.Option.{option_copied, option_map_or, option_or}
use Rattle.mo_parser.specs.declared.tree.Arg.{Arg}
use Rattle.mo_parser.specs.declared.tree.Element.{Element}
use Rattle.class_scopes.specs.Spelled.{Ident, spelled}
use Rattle.flat_instances.specs.declared.modifier.Modifier.{Modifier}
use Rattle.flat_instances.specs.declared.modifiers.Modifiers.{Modifiers}
use Rattle.flat_instances.specs.Instances.{Step, Placed, placed, outermost}
use Rattle.flat_instances.specs.Modifications.{Giving, first_of, behind, given_behind, given_by}

-- the modifiers of a part
abbrev pub listed : Modifiers → Ident → List Modifier
listed modifiers name = option_map_or (λ list. list.items) (get_by (λ key. bytes_eq name key.now) modifiers.lists) []

-- a modifier comes last among those of its part
abbrev pub AddsTo : Ident → Modifier → Modifiers → Modifiers → Type 0
AddsTo name modifier old new =
    (other : Ident) → listed new other ≡ (if bytes_eq name other then listed old other ++ modifier ∷ [] else listed old other)

-- what is given behind the names before a variable
abbrev pub Gift : Type 0
Gift = Ident → List Ident → Option Placed

module _ (text : List ℕ) where
  -- what a modifier gives to a path
  abbrev pub gives : Modifier → Giving
  gives modifier path = given_behind text (option_copied modifier.binding) (map (given_by text) modifier.args.now) (behind (map (spelled text) modifier.parts.now) path)

  abbrev pub modifier_given : Modifier → Gift
  modifier_given modifier before path = option_map (placed (take modifier.scope before)) (gives modifier path)

  abbrev pub first_given : Ident → List Ident → List Modifier → Option Placed
  first_given before path modifiers = first_of (map (λ modifier. modifier_given modifier before path) modifiers)

  -- what arguments give that stand beside names of a scope
  abbrev pub arg_given : ℕ → Arg → Gift
  arg_given scope arg before path = option_map (placed (take scope before)) (given_by text arg path)

  abbrev pub args_given : ℕ → List Arg → Gift
  args_given scope args before path = option_map (placed (take scope before)) (first_of (map (λ arg. given_by text arg path) args))

  -- what modifiers give to what stands behind the name of a part
  abbrev pub offered : Ident → Ident → List Ident → Modifiers → Option Placed
  offered before name rest modifiers = first_given before rest (listed modifiers name)

  -- what is given comes after all that was given before
  abbrev pub AddsGiving : Gift → Modifiers → Modifiers → Type 0
  AddsGiving gift old new =
      (before name : Ident) (rest : List Ident) → offered before name rest new ≡ option_or (offered before name rest old) (gift before (name ∷ rest))

  -- modifiers give what is outermost along a path, to each variable whose name begins with the scope
  abbrev pub GiveOutermost : Ident → List Step → List Modifier → Type 0
  GiveOutermost scope path modifiers = (tail : Ident) (rest : List Ident) → first_given (scope ++ tail) rest modifiers ≡ outermost text rest path

  -- the same of the parts of an instance
  abbrev pub AreInForce : Ident → List Step → Modifiers → Type 0
  AreInForce scope path modifiers =
      (tail name : Ident) (rest : List Ident) → offered (scope ++ tail) name rest modifiers ≡ outermost text (name ∷ rest) path

-- a path to a component of an instance
abbrev pub stepped : Ident → List Step → Element → List Step
stepped scope path element = path ++ record { scope = scope; element = element } ∷ []
