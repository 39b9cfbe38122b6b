-- The equations of a flat model and its clauses, from those of instances. MLS 3.6, chapter 5, "Flattening Process", in this project's profile.
use Rattle.std.specs.Prelude.{◌≡◌, ℕ, suc, List, [], ◌∷◌, ◌++◌, length, map, flat_map, Option, Some, None, Bool, true, false}
use Rattle.mo_parser.specs.declared.tree.ClassDef.{ClassDef}
use Rattle.mo_parser.specs.declared.tree.TreeEq.{TreeEq}
use Rattle.mo_parser.specs.declared.tree.TreeEq.TheOpen.{TreeEq-F}
use Rattle.mo_parser.specs.declared.tree.TreeEq.TheViews.{out-TreeEq}
use Rattle.mo_parser.specs.declared.tree.TreeExpr.{TreeExpr}
use Rattle.flat_model.specs.declared.raw.RawExpr.{RawExpr}
use Rattle.flat_model.specs.declared.raw.RawEq.{RawEq}
use Rattle.class_scopes.specs.Spelled.{Ident}
use Rattle.class_scopes.specs.Types.{class_equations}
use Rattle.flat_instances.specs.Instances.{Placed, Item, Declared, Own}
use Rattle.parameter_values.specs.Values.{Values, is_parameter}
use Rattle.flat_expressions.specs.Expressions.{NumberOf, name_by, expr_of}

-- the two sides of an equation
pub record Sides : Type 0 where
  pub left : RawExpr
  pub right : RawExpr

abbrev pub sides : RawExpr → RawExpr → Sides
sides left right = record { left = left; right = right }

-- an equation by itself, or a clause: its clock and its equations
pub data Group : Type 0 where
  Alone : Sides → Group
  Clause : RawExpr → List Sides → Group

-- the equations in their order, those of clauses with the number of their clause, counted from the first
abbrev pub in_clause : Option ℕ → Sides → RawEq
in_clause clause sides = record { left = sides.left; right = sides.right; clause = clause }

abbrev pub equations_from : ℕ → List Group → List RawEq
equations_from clause [] = []
equations_from clause (Alone sides ∷ rest) = in_clause None sides ∷ equations_from clause rest
equations_from clause (Clause clock inside ∷ rest) = map (in_clause (Some clause)) inside ++ equations_from (suc clause) rest

-- the clocks of the clauses
abbrev pub clocks_of : List Group → List RawExpr
clocks_of [] = []
clocks_of (Alone sides ∷ rest) = clocks_of rest
clocks_of (Clause clock inside ∷ rest) = clock ∷ clocks_of rest

-- a clause without equations is dropped
abbrev pub clause : RawExpr → List Sides → List Group
clause clock [] = []
clause clock (sides ∷ rest) = Clause clock (sides ∷ rest) ∷ []

-- groups are added behind equations and clauses
abbrev pub Adds : List RawEq → List RawExpr → List Group → List RawEq → List RawExpr → Type 0
Adds equations clauses groups all every = (all ≡ equations ++ equations_from (length clauses) groups) × (every ≡ clauses ++ clocks_of groups)

module _ (text : List ℕ) (values : Values) (number : NumberOf) where
  abbrev pub sides_of : Ident → TreeExpr → TreeExpr → Sides
  sides_of scope left right = sides (expr_of text values number scope left) (expr_of text values number scope right)

  -- the equations inside a clause
  abbrev pub sides_by : Ident → TreeEq-F TreeEq → List Sides
  sides_by scope (TreeEq-F.Equal left right) = sides_of scope left right ∷ []
  sides_by scope _ = []

  abbrev pub sides_at : Ident → TreeEq → List Sides
  sides_at scope equation = sides_by scope (out-TreeEq equation)

  abbrev pub sides_in : Ident → List TreeEq → List Sides
  sides_in scope equations = flat_map (sides_at scope) equations

  -- what an equation of a class stands for in a scope; a connect is no equation here
  abbrev pub groups_by : Ident → TreeEq-F TreeEq → List Group
  groups_by scope (TreeEq-F.Equal left right) = Alone (sides_of scope left right) ∷ []
  groups_by scope (TreeEq-F.When clock inside) = clause (expr_of text values number scope clock) (sides_in scope inside)
  groups_by scope (TreeEq-F.Connect a b) = []

  abbrev pub groups_at : Ident → TreeEq → List Group
  groups_at scope equation = groups_by scope (out-TreeEq equation)

  abbrev pub groups_in : Ident → List TreeEq → List Group
  groups_in scope equations = flat_map (groups_at scope) equations

  -- the binding of a variable is an equation; that of a parameter or constant is none
  abbrev pub binding_sides : Bool → Ident → Option Placed → List Sides
  binding_sides fixed name None = []
  binding_sides true name (Some placed) = []
  binding_sides false name (Some placed) = sides (name_by text values number name) (expr_of text values number placed.scope placed.expr) ∷ []

  -- what an item of instances stands for: the binding of a variable, or the equations of a class
  abbrev pub groups_of : List ClassDef → Item → List Group
  groups_of classes (Declared v) = map Alone (binding_sides (is_parameter v) v.name v.binding)
  groups_of classes (Own scope class) = groups_in scope (class_equations text classes class)

  abbrev pub groups : List ClassDef → List Item → List Group
  groups classes items = flat_map (groups_of classes) items
