-- Instances: paths from the chosen class through components. MLS 3.6, chapter 5, "Instantiation", in this project's profile.
use Rattle.std.specs.Prelude.{ℕ, zero, suc, List, [], ◌∷◌, ◌++◌, map, flat_map, filter_map, codes, Option, Some, None, option_map, option_and_then}
use Rattle.std.specs.Option.{option_or}
use Rattle.mo_parser.specs.declared.tree.ClassDef.{ClassDef}
use Rattle.mo_parser.specs.declared.tree.Element.{Element}
use Rattle.mo_parser.specs.declared.tree.Short.{Short}
use Rattle.mo_parser.specs.declared.tree.TreeExpr.{TreeExpr}
use Rattle.class_scopes.specs.declared.type_name.TypeName.{TypeName}
use Rattle.class_scopes.specs.declared.type_name.TypeName.TheVariants.{Simple, Class}
use Rattle.class_scopes.specs.Spelled.{Ident, spelled}
use Rattle.class_scopes.specs.Types.{type_of, elements_of, short_of}
use Rattle.flat_instances.specs.Modifications.{given}

-- a step of a path: the component that it goes to, and what stands before the names of the instance where that is declared
pub record Step : Type 0 where
  pub scope : Ident
  pub element : Element

-- an expression, and what stands before the names of the instance where it is written
pub record Placed : Type 0 where
  pub scope : Ident
  pub expr : TreeExpr

-- a variable of an instance, with the outermost modifications of its binding and of its start
pub record Variable : Type 0 where
  pub name : Ident
  pub element : Element
  pub type : TypeName
  pub binding : Option Placed
  pub start : Option Placed

-- what an instance has: its variables, and at its end the equations of its class
pub data Item : Type 0 where
  Declared : Variable → Item
  Own : (scope : Ident) → (class : ℕ) → Item

abbrev pub placed : Ident → TreeExpr → Placed
placed scope expr = record { scope = scope; expr = expr }

module _ (text : List ℕ) where
  -- what the components of a path give to one thing in the last of them; the outermost wins
  abbrev pub names_along : List Step → List Ident
  names_along path = map (λ step. spelled text step.element.name) path

  abbrev pub outermost : List Ident → List Step → Option Placed
  outermost attribute [] = None
  outermost attribute (step ∷ path) =
      option_or (option_map (placed step.scope) (given text step.element.args step.element.binding (names_along path ++ attribute)))
      (outermost attribute path)

module _ (text : List ℕ) (classes : List ClassDef) where
  -- the start that a short connector gives
  abbrev pub short_start : TypeName → Option Placed
  short_start (Class class) = option_and_then (λ short. option_map (placed []) (given text short.args None (codes "start" ∷ []))) (short_of text classes class)
  short_start _ = None

  abbrev pub variable : Ident → TypeName → Element → List Step → Variable
  variable name type element path = record {
    name = name;
    element = element;
    type = type;
    binding = outermost text [] path;
    start = option_or (outermost text (codes "start" ∷ []) path) (short_start type);
  }

  -- what a component has: itself where it is simple, and what its class has where it is of one
  module _ (below : Ident → List Step → ℕ → List Item) (scope : Ident) (path : List Step) (element : Element) where
    abbrev pub name_here : Ident
    name_here = scope ++ spelled text element.name

    abbrev pub path_here : List Step
    path_here = path ++ record { scope = scope; element = element } ∷ []

    abbrev pub in_class : TypeName → ℕ → Option Short → List Item
    in_class type class (Some short) = Declared (variable name_here type element path_here) ∷ []
    in_class type class None = below (name_here ++ 46 ∷ []) path_here class

    abbrev pub in_type : Option TypeName → List Item
    in_type (Some (Simple kind)) = Declared (variable name_here (Simple kind) element path_here) ∷ []
    in_type (Some (Class class)) = in_class (Class class) class (short_of text classes class)
    in_type _ = []

    abbrev pub in_component : List Item
    in_component = in_type (type_of text classes element.base)

  -- all that an instance of a class has, and the components in it, in flat order, down to so many levels
  abbrev pub items : ℕ → Ident → List Step → ℕ → List Item
  items zero scope path class = []
  items (suc levels) scope path class =
      flat_map (in_component (items levels) scope path) (elements_of text classes class) ++ Own scope class ∷ []

  -- all that the instances of a chosen class have: the components of 32 levels, and the equations of the last of them
  unfoldable pub instances : ℕ → List Item
  instances root = items 33 [] [] root

  -- the variables among them
  abbrev pub variable_in : Item → Option Variable
  variable_in (Declared v) = Some v
  variable_in (Own scope class) = None

  abbrev pub variables : List Item → List Variable
  variables all = filter_map variable_in all
